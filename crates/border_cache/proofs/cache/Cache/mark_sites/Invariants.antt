use Rattle.window_sites.specs.Window.{atom_at}
use Rattle.border_cache.specs.Borders.{site_of}
use Rattle.border_cache.specs.Cells.{cell_value}
use Rattle.border_cache.proofs.Stored.{StoresFirst}
use Rattle.border_cache.proofs.cache.Cache.mark_sites.Given as goal

abbrev pub invariant-loop-n : goal.invariant-loop-n
invariant-loop-n l = StoresFirst (site_of l.centre) l.n (λ n. cell_value l.stamp (atom_at l.window n)) l.fn.self l.self
