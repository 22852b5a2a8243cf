-- Events that bring no other atoms leave none.
use Rattle.std.proofs.Common.{ℕ, ◌+◌, ◌*◌, ◌≤◌, List, [], ◌∷◌, All, Option, Some, None, length, get_or, map, fold, refl, inl, inr}
use Rattle.std.specs.List.{range_with_len}
use Rattle.std.proofs.lemmas.Bool.{cases_lt}
use Rattle.std.proofs.Math.ListN.{get_or-eq_default}
use Rattle.std.proofs.lemmas.List.Elements.{All-head, All-map, All-replicate, All-set, All-tail}
use Rattle.bit_field.specs.Atom.{AtomValue, empty_atom}
use Rattle.window_sites.specs.Inner.{site_numbers}
use Rattle.window_sites.specs.Window.{WindowValue}
use Rattle.cell_grid.specs.declared.record.Record.{Record}
use Rattle.cell_grid.specs.Grid.{GridValue, atom_left, event, place_of, put_window, atom_at_place, sites_at, window_of}
use Rattle.cell_grid.specs.Records.{replay}
use Rattle.tile_map.specs.Plane.{MapValue}
use Rattle.cell_grid.specs.Known.{BringsNone, IsKnown, ShowsKnown}
use Rattle.plane_grid.specs.BlankGrid.{blank_grid, plane_sites}
use Rattle.world_runs.specs.Known.{ArePlacedKnown}
use Rattle.world_runs.specs.Start.{start_grid, with_placed}
use Rattle.world_text.specs.declared.world.Placed.{Placed}

-- the atom at any place, also at none
pub at_known : (n : ℕ) (atoms : List AtomValue) → All (IsKnown n) atoms → (i : ℕ) → IsKnown n (get_or atoms i empty_atom)
at_known n atoms all i = elim (cases_lt i (length atoms)) [
  | inl inside ↦ all i empty_atom inside
  | inr past ↦ inl (get_or-eq_default atoms empty_atom {n = i} past)
]

seen_known : (n : ℕ) (g : GridValue) → All (IsKnown n) g.atoms → (p : Option ℕ) → IsKnown n (atom_at_place g p)
seen_known n g all None = inl refl
seen_known n g all (Some i) = at_known n g.atoms all i

pub window_known : (n : ℕ) (g : GridValue) (x y : ℕ) → All (IsKnown n) g.atoms → ShowsKnown n (window_of g x y)
unfolding window_of
window_known n g x y all = at_known n (map (λ k. atom_at_place g (place_of g x y k)) site_numbers) (All-map (IsKnown n) (λ k. atom_at_place g (place_of g x y k)) site_numbers (λ k d lt. seen_known n g all (place_of g x y (get_or site_numbers k d))))

left_known : (n : ℕ) (g : GridValue) (w : WindowValue) (i : ℕ) (ns : List ℕ) → All (IsKnown n) g.atoms → ShowsKnown n w → IsKnown n (atom_left g w i ns)
left_known n g w i [] all shows = at_known n g.atoms all i
left_known n g w i (k ∷ ns) all shows = shows k

put_known : (n : ℕ) (g : GridValue) (x y : ℕ) (w : WindowValue) → All (IsKnown n) g.atoms → ShowsKnown n w → All (IsKnown n) (put_window g x y w).atoms
unfolding put_window
put_known n g x y w all shows =
    let f = λ (i : ℕ). atom_left g w i (sites_at g x y i site_numbers) in
    let ns = range_with_len 0 (length g.atoms) in
    All-map (IsKnown n) f ns (λ k d lt. left_known n g w (get_or ns k d) (sites_at g x y (get_or ns k d) site_numbers) all shows)

pub replay_known : (n : ℕ) (after : WindowValue → ℕ → WindowValue) (g : GridValue) (rs : List Record) → BringsNone n after → All (IsKnown n) g.atoms → All (IsKnown n) (replay after g rs).atoms
replay_known n after g [] brings all = all
replay_known n after g (r ∷ rs) brings all =
    let w = window_known n g r.x r.y all in
    replay_known n after (event after g r.x r.y r.seed) rs brings (put_known n g r.x r.y (after (window_of g r.x r.y) r.seed) all (brings (window_of g r.x r.y) r.seed w))

placed_known : (n : ℕ) (g : GridValue) (ps : List Placed) → ArePlacedKnown n ps → All (IsKnown n) g.atoms → All (IsKnown n) (fold with_placed g ps).atoms
placed_known n g [] known all = all
placed_known n g (p ∷ ps) known all =
    let one = All-head (λ (p : Placed). (1 ≤ p.atom.kind) × (p.atom.kind ≤ n)) p ps known in
    placed_known n (with_placed g p) ps (All-tail (λ (p : Placed). (1 ≤ p.atom.kind) × (p.atom.kind ≤ n)) p ps known) (All-set (IsKnown n) g.atoms (p.y * g.width + p.x) p.atom (inr one) all)

pub start_known : (n : ℕ) (m : MapValue) (ps : List Placed) → ArePlacedKnown n ps → All (IsKnown n) (start_grid m ps).atoms
unfolding blank_grid
start_known n m ps known = placed_known n (blank_grid m) ps known (All-replicate (IsKnown n) (plane_sites m) empty_atom (inl refl))
