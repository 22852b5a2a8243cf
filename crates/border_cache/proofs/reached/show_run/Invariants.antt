use Rattle.border_cache.specs.Borders.{site_of}
use Rattle.border_cache.specs.Reached.{window_of, ShowsAt}
use Rattle.border_cache.proofs.ReachedWindows.{IsShownTo}
use Rattle.border_cache.proofs.reached.show_run.Given as goal

abbrev pub invariant-loop-x : goal.invariant-loop-x
invariant-loop-x l = ShowsAt (IsShownTo (site_of l.centre) l.j l.x) l.cache (site_of l.centre) (window_of l.shown)
