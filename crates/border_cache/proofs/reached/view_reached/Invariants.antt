use Rattle.border_cache.specs.Borders.{site_of}
use Rattle.border_cache.specs.Reached.{window_of, IsAboveRow, ShowsAt}
use Rattle.border_cache.proofs.reached.view_reached.Given as goal

abbrev pub invariant-loop-j : goal.invariant-loop-j
invariant-loop-j l = ShowsAt (IsAboveRow (site_of l.centre) l.j) l.cache (site_of l.centre) (window_of l.shown)
