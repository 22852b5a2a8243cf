use Rattle.std.proofs.Common.{◌≡◌, drop}
use Rattle.std.specs.List.{list_any}
use Rattle.world_text.proofs.printed.is_one_off.Given as goal

abbrev pub invariant-loop-tile : goal.invariant-loop-tile
invariant-loop-tile l = list_any (λ o. o) (drop l.tile l.map.off) ≡ list_any (λ o. o) l.map.off
