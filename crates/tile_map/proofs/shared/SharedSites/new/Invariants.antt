use Rattle.tile_map.proofs.Numbers.{Counted}
use Rattle.tile_map.proofs.shared.SharedSites.new.Given as goal

abbrev pub invariant-loop-place : goal.invariant-loop-place
invariant-loop-place l = Counted l.plane l.area l.numbers.items l.count l.place
