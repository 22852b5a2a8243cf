-- An event at an empty centre: the window as the tile's cells show it is what it sees, and what it leaves.
use Rattle.std.proofs.Common.{◌≡◌, ℕ, ◌<◌, Bool, true, false, sym, ap, ◌∙◌, arith}
use Rattle.std.specs.Prelude.{is_some, map, if◌then◌else◌}
use Rattle.std.proofs.lemmas.List.FromFn.{length-map-range_with_len, get_or-map-range_with_len}
use Rattle.bit_field.specs.Atom.{AtomValue, empty_atom}
use Rattle.window_sites.specs.Inner.{site_numbers}
use Rattle.window_sites.specs.Window.{atom_at, live_at}
use Rattle.tile_map.specs.Plane.{Site, is_live}
use Rattle.border_cache.specs.Cells.{cell_value}
use Rattle.border_cache.specs.Windows.{is_shown, IsView}
use Rattle.border_cache.specs.Copies.{CacheValue, held_cell, cell_for, window_cells, shown_atom, Marked, Stamped}
use Rattle.border_cache.proofs.Views.{centre_site, view_is}
use Rattle.tile_core.specs.Kept.{window_seen}

seen_atom : (v : CacheValue) (c : Site) (n : ℕ) → n < 41 → atom_at (window_seen v c) n ≡ shown_atom v.map v c n
unfolding window_seen
seen_atom v c n lt = get_or-map-range_with_len (shown_atom v.map v c) 0 41 n n empty_atom lt (omega arith)

seen_live : (v : CacheValue) (c : Site) (n : ℕ) → n < 41 → live_at (window_seen v c) n ≡ is_shown v.map c n
unfolding window_seen
seen_live v c n lt = get_or-map-range_with_len (is_shown v.map c) 0 41 n n false lt (omega arith)

-- it shows the tile's cells
pub seen_view : (v : CacheValue) (c : Site) → is_live v.map c ≡ true → IsView v.map c (window_cells v c) (window_seen v c)
unfolding window_seen
seen_view v c live =
    view_is v.map c (map (shown_atom v.map v c) site_numbers) (map (is_shown v.map c) site_numbers) (window_cells v c) live
    (length-map-range_with_len {X = AtomValue} (shown_atom v.map v c) 0 41) (length-map-range_with_len {X = Bool} (is_shown v.map c) 0 41)
    (λ n lt. get_or-map-range_with_len (is_shown v.map c) 0 41 n n false lt (omega arith))
    (λ n lt. get_or-map-range_with_len (shown_atom v.map v c) 0 41 n n empty_atom lt (omega arith))

-- its centre is the tile's own cell
pub seen_centre : (v : CacheValue) (c : Site) → is_live v.map c ≡ true → atom_at (window_seen v c) 0 ≡ (held_cell v c).atom
seen_centre v c live =
    seen_atom v c 0 (omega arith)
    ∙ ap (λ o. if is_some o then (cell_for v o).atom else empty_atom) (centre_site v.map c live)

-- stamps alone are what the window as seen would leave
pub stamped_seen : (c : Site) (stamp : ℕ) (old new : CacheValue) → Stamped c stamp old new → Marked c (window_seen old c) stamp old new
stamped_seen c stamp old new s = record {
  differs = s.differs;
  done = λ n q lt at. s.done n q lt at ∙ sym (ap (cell_value stamp) (seen_atom old c n lt ∙ ap (λ b. if b then (window_cells old c n).atom else empty_atom) (ap is_some at)));
}
