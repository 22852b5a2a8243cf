use Rattle.std.proofs.Common.{◌≡◌}
use Rattle.chain_text.specs.Values.{chain_value}
use Rattle.chain_run.proofs.Audited.{IsJudgedOn}
use Rattle.chain_run.specs.Reader.{Follows, said_by}
use Rattle.chain_run.specs.Reading.{read_chain}
use Rattle.chain_run.specs.Standings.{IsKnownStanding}
use Rattle.chain_run.proofs.auditing.audit_legs.Given as goal

abbrev pub invariant-loop-standing : goal.invariant-loop-standing
invariant-loop-standing g l = record {
  of_chain : l.reports.chain ≡ chain_value l.chain;
  meaning : g.B.Behave.after l.behave ≡ g.B.Behave.after l.fn.behave;
  known : IsKnownStanding l.names (chain_value l.chain) (g.B.Behave.after l.fn.behave) l.standing;
  rest : Follows (said_by l.reports) (read_chain (chain_value l.chain) l.bytes) (IsJudgedOn (chain_value l.chain) (g.B.Behave.after l.fn.behave) l.names l.reports l.standing);
}

abbrev pub decreases-loop-standing : goal.decreases-loop-standing
decreases-loop-standing g l = l.reports.left
