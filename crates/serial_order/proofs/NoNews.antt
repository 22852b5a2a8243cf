-- Where an end's news bit is clear, the edge has nothing newer than that end's own cell.
use Rattle.std.proofs.Common.{ℕ, ◌≡◌, ◌≤◌, List, false, Some}
use Rattle.std.specs.Prelude.{slice_get}
use Rattle.bit_field.specs.Atom.{AtomValue}
use Rattle.window_sites.specs.Window.{WindowValue}
use Rattle.tile_map.specs.Plane.{Site, MapValue}
use Rattle.tile_map.specs.Edges.{shared_of}
use Rattle.edge_lock.specs.declared.history.Hold.{Hold}
use Rattle.border_cache.specs.News.{word_of}
use Rattle.border_cache.specs.Windows.{end_at, sites_on}
use Rattle.tile_core.specs.Turns.{Turn, cells_of}
use Rattle.serial_order.proofs.Ground.{IsEnd}
use Rattle.serial_order.proofs.Histories.{values, cell_at}
use Rattle.serial_order.proofs.Deeds.{bit_in}
use Rattle.serial_order.proofs.World.{IsRun, run_on}
use Rattle.serial_order.proofs.OneEdge.{no_news_on}

module _ (m : MapValue) (meaning : WindowValue → ℕ → WindowValue) (start : Site → AtomValue) (turns : ℕ → List Turn) (hist : ℕ → List Hold) (run : IsRun m meaning start turns hist) where
  pub no_news : (t e k : ℕ) (s : Site) → IsEnd m t e → slice_get (shared_of m e) k ≡ Some s → bit_in (values (hist e) (word_of (sites_on m e) (end_at m t e) k)) k ≡ false → (cell_at (values (hist e)) k).stamp ≤ (cells_of m start (turns t) s).stamp
  no_news t e k s mine at down = no_news_on m meaning start turns e (hist e) (run_on m meaning start turns hist run e) t k s mine at down
