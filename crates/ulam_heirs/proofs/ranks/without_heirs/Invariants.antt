use Rattle.std.proofs.Common.{◌≡◌}
use Rattle.ulam_heirs.proofs.ranks.without_heirs.Given as goal

abbrev pub invariant-loop-count : goal.invariant-loop-count
invariant-loop-count l = l.class ≡ l.count-index
