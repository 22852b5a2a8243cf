use Rattle.std.proofs.Common.{◌+◌, ◌*◌, ◌^◌, ◌≤◌}
use Rattle.chain_text.specs.Values.{chain_value}
use Rattle.chain_run.proofs.Replayed.{AreCounted}
use Rattle.chain_run.specs.Reader.{Follows, said_by}
use Rattle.chain_run.specs.Reading.{read_chain}
use Rattle.chain_run.proofs.reports.read_all.Given as goal

abbrev pub invariant-loop-leg : goal.invariant-loop-leg
invariant-loop-leg l = record {
  few : l.events + l.reports.left * 2 ^ 32 ≤ (chain_value l.chain).legs * 2 ^ 32;
  rest : Follows (said_by l.reports) (read_chain (chain_value l.chain) l.bytes) (AreCounted l.events);
}

abbrev pub decreases-loop-leg : goal.decreases-loop-leg
decreases-loop-leg l = l.reports.left
