use Rattle.border_cache.specs.Borders.{site_of}
use Rattle.border_cache.specs.Cells.{cell_value}
use Rattle.border_cache.specs.Copies.{window_cells}
use Rattle.border_cache.proofs.Stored.{StoresFirst}
use Rattle.border_cache.proofs.cache.Cache.stamp_sites.Given as goal

abbrev pub invariant-loop-n : goal.invariant-loop-n
invariant-loop-n l = StoresFirst (site_of l.centre) l.n (λ n. cell_value l.stamp (window_cells l.fn.self (site_of l.centre) n).atom) l.fn.self l.self
