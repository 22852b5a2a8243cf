-- A plane of one tile of 8 by 8.
use Rattle.std.proofs.Common.{◌≡◌, ℕ, zero, suc, ◌+◌, ◌*◌, ◌/◌, ◌<◌, true, false, true≢false, [], refl, sym, ap, ◌∙◌, subst, arith}
use Rattle.std.specs.Prelude.{◌&&◌, not, nat_lt, replicate, slice_index_or}
use Rattle.std.proofs.lemmas.Bool.Decides.{nat_tests}
use Rattle.tile_map.specs.Plane.{MapValue, whole_plane, site, is_live}
use Rattle.tile_map.specs.Edges.{has_end}
use Rattle.bit_field.specs.Atom.{AtomValue}
use Rattle.cell_grid.specs.Grid.{GridValue, empty_grid, with_site}
use Rattle.plane_grid.specs.PlaneGrids.{IsGridOf}
use Rattle.edge_lock.specs.EndLists.{end_lists}
use Rattle.edge_lock.specs.PlainEdges.{own_lists}
use Rattle.edge_lock.specs.PlainBoard.{PlainBoardValue, no_edge, end_of, lists_on}

pub replicated : (n i : ℕ) → i < n → slice_index_or (replicate n true) i false ≡ true
replicated zero i lt = absurd (omega (arith, lt))
replicated (suc n) zero lt = refl
replicated (suc n) (suc i) lt = replicated n i (omega (arith, lt))

small_live : (x y : ℕ) → x < 8 → y < 8 → slice_index_or (replicate 64 true) (y * 8 + x) false ≡ is_live (whole_plane 1 1 8 8) (site x y)
small_live x y p q =
    let column : nat_lt x 8 ≡ true = grind (arith, nat_tests, p) in
    let row : nat_lt y 8 ≡ true = grind (arith, nat_tests, q) in
    let owner : y / 8 * 1 + x / 8 ≡ 0 = omega (arith, p, q) in
    replicated 64 (y * 8 + x) (omega (arith, p, q)) ∙ sym (λ i. (column i && row i) && (nat_lt (owner i) 1 && not (slice_index_or (replicate 1 false) (owner i) false)))

pub no_end : (e : ℕ) → has_end (whole_plane 1 1 8 8) 0 e ≡ true → ⊥
no_end e h = true≢false (sym h)

pub nothing_yet : (board : PlainBoardValue) → board.acting ≡ 0 → board.edges ≡ [] → (e : ℕ) → lists_on board e ≡ end_lists [] []
nothing_yet board acting edges e = λ i. own_lists (end_of (slice_index_or (edges i) e no_edge) (acting i)) (slice_index_or (edges i) e no_edge)

pub first_grid : (m : MapValue) (g h : GridValue) (a : AtomValue) → m ≡ whole_plane 1 1 8 8 → g ≡ empty_grid 8 8 → h ≡ with_site g 3 4 a → IsGridOf m h
first_grid m g h a map made put =
    let base : IsGridOf (whole_plane 1 1 8 8) (with_site (empty_grid 8 8) 3 4 a) = record { wide = refl; high = refl; live = small_live } in
    subst (λ (x : MapValue × GridValue). IsGridOf x.0 x.1) (λ i. (sym map i, sym (put ∙ ap (λ k. with_site k 3 4 a) made) i)) base
