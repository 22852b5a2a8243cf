use Rattle.border_cache.specs.Borders.{site_of}
use Rattle.border_cache.proofs.RowPlaces.{RowsSet}
use Rattle.border_cache.proofs.masks.masks_at.Given as goal

abbrev pub invariant-loop-j : goal.invariant-loop-j
invariant-loop-j l = RowsSet l.area (site_of l.centre) l.j l.masks
