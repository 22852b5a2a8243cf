use Rattle.border_cache.specs.Borders.{site_of}
use Rattle.border_cache.specs.Reached.{event_cells, GivesAt, IsAboveRow}
use Rattle.border_cache.proofs.reached.mark_reached.Given as goal

abbrev pub invariant-loop-j : goal.invariant-loop-j
invariant-loop-j l = GivesAt (IsAboveRow (site_of l.centre) l.j) (site_of l.centre) (event_cells l.window l.stamp) l.fn.cache l.cache
