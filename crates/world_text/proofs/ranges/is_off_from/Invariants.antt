use Rattle.std.proofs.Common.{◌≡◌, drop}
use Rattle.std.specs.List.{list_any}
use Rattle.world_text.proofs.ranges.is_off_from.Given as goal

abbrev pub invariant-loop-i : goal.invariant-loop-i
invariant-loop-i l = list_any (λ o. o) (drop l.i l.off) ≡ list_any (λ o. o) (drop l.from l.off)
