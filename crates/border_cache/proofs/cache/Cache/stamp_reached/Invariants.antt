use Rattle.border_cache.specs.Borders.{site_of}
use Rattle.border_cache.specs.BorderRows.{StampsRows}
use Rattle.border_cache.proofs.cache.Cache.stamp_reached.Given as goal

abbrev pub invariant-loop-j : goal.invariant-loop-j
invariant-loop-j l = StampsRows (site_of l.centre) l.j l.stamp l.fn.self l.self
