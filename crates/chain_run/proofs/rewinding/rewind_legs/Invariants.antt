use Rattle.std.proofs.Common.{◌≡◌}
use Rattle.chain_text.specs.Values.{chain_value}
use Rattle.chain_run.proofs.Sought.{IsSoughtOn}
use Rattle.chain_run.specs.Places.{IsMeant, IsPlace}
use Rattle.chain_run.specs.Reader.{Follows, said_by}
use Rattle.chain_run.specs.Reading.{read_chain}
use Rattle.chain_run.proofs.rewinding.rewind_legs.Given as goal

abbrev pub invariant-loop-place : goal.invariant-loop-place
invariant-loop-place g l = record {
  of_chain : l.reports.chain ≡ chain_value l.chain;
  place_is : IsPlace l.names (chain_value l.chain) (g.B.Behave.after l.behave) l.place;
  meaning : IsMeant (g.B.Behave.after l.fn.behave) (g.B.Behave.after l.behave) l.place;
  rest : Follows (said_by l.reports) (read_chain (chain_value l.chain) l.bytes) (IsSoughtOn (chain_value l.chain) (g.B.Behave.after l.fn.behave) l.left l.reports l.place);
}

abbrev pub decreases-loop-place : goal.decreases-loop-place
decreases-loop-place g l = l.reports.left
