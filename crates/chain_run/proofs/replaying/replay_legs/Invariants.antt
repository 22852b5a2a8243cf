use Rattle.std.proofs.Common.{◌≡◌}
use Rattle.chain_text.specs.Values.{chain_value}
use Rattle.chain_run.proofs.Replayed.{IsReplayed}
use Rattle.chain_run.specs.Reader.{Follows, IsKnownBetween, said_by}
use Rattle.chain_run.specs.Reading.{read_chain}
use Rattle.chain_run.proofs.replaying.replay_legs.Given as goal

abbrev pub invariant-loop-grid : goal.invariant-loop-grid
invariant-loop-grid g l = record {
  of_chain : l.reports.chain ≡ chain_value l.chain;
  meaning : g.B.Behave.after l.behave ≡ g.B.Behave.after l.fn.behave;
  between : IsKnownBetween l.names (chain_value l.chain) (g.B.Behave.after l.fn.behave) l.grid;
  rest : Follows (said_by l.reports) (read_chain (chain_value l.chain) l.bytes) (IsReplayed (chain_value l.chain) (g.B.Behave.after l.fn.behave) l.reports l.grid);
}

abbrev pub decreases-loop-grid : goal.decreases-loop-grid
decreases-loop-grid g l = l.reports.left
