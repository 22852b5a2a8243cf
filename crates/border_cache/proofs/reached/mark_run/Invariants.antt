use Rattle.border_cache.specs.Borders.{site_of}
use Rattle.border_cache.specs.Reached.{event_cells, GivesAt}
use Rattle.border_cache.proofs.ReachedWindows.{IsBefore}
use Rattle.border_cache.proofs.reached.mark_run.Given as goal

abbrev pub invariant-loop-x : goal.invariant-loop-x
invariant-loop-x l = GivesAt (IsBefore (site_of l.centre) l.j l.x) (site_of l.centre) (event_cells l.window l.stamp) l.fn.cache l.cache
