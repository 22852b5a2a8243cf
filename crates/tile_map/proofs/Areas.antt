-- The sites of an area all of which are live, and their places.
use Rattle.std.proofs.Common.{ℕ, ◌≡◌, ◌≢◌, ◌+◌, ◌-◌, ◌*◌, ◌/◌, ◌%◌, ◌<◌, Bool, true, false, List, [], ◌∷◌, length, cond, refl, sym, ap, ◌∙◌, arith, Option, Some, None}
use Rattle.std.specs.Prelude.{filter, if◌then◌else◌}
use Rattle.std.proofs.lemmas.Option.{none-some, get_or_from_slice_get}
use Rattle.list_laws.proofs.Filters.{filter_short}
use Rattle.tile_map.specs.declared.span.Area.{Area}
use Rattle.tile_map.specs.Plane.{Site, MapValue, IsMap, site, is_live}
use Rattle.tile_map.specs.Spans.{place_within}
use Rattle.tile_map.specs.Edges.{pairs_of, pair_at, shared_of}
use Rattle.tile_map.specs.Tables.{sites_in, live_in, site_number, SharedValue, area_both, shared_both, IsWholeArea, IsSharedArea}
use Rattle.tile_map.proofs.Blocks.{block_order, row_column}
use Rattle.tile_map.proofs.Numbers.{area_site, area_place, area_places, within_test}
use Rattle.tile_map.proofs.Pairs.{edge_joined}
use Rattle.tile_map.proofs.Registers.{number_at_place, number_place}
use Rattle.tile_map.proofs.Sharing.{shared_live}

-- where a test leaves out nothing all pass
filter_whole : {X : Type 0} (p : X → Bool) (xs : List X) → length (filter p xs) ≡ length xs → filter p xs ≡ xs
filter_whole p [] h = refl
filter_whole p (x ∷ xs) h = go (p x) h (filter_whole p xs)
  where
    go : (b : Bool) → length (cond b (x ∷ filter p xs) (filter p xs)) ≡ length (x ∷ xs) → (length (filter p xs) ≡ length xs → filter p xs ≡ xs) → cond b (x ∷ filter p xs) (filter p xs) ≡ x ∷ xs
    go true h f = ap (λ ys. x ∷ ys) (f (omega (arith, h)))
    go false h f = absurd (omega (arith, h, filter_short p xs))

-- what a map tells of an edge's area
pub shared_area : (m : MapValue) → IsMap m → (e : ℕ) (v : SharedValue) (o : Option Area) → e < length (pairs_of m) → v ≡ shared_both m (pair_at m e) → IsWholeArea v o → IsSharedArea m e o
shared_area m k e v o lt is w = go o w
  where
    area : v.area ≡ area_both m (pair_at m e)
    area = ap (λ (u : SharedValue). u.area) is

    live : shared_of m e ≡ live_in m (area_both m (pair_at m e))
    live = shared_live m k (pair_at m e) (edge_joined m e lt)

    count : v.count ≡ length (live_in m (area_both m (pair_at m e)))
    count = ap (λ (u : SharedValue). u.count) is

    go : (o : Option Area) → IsWholeArea v o → IsSharedArea m e o
    go None w =
        let ne : length (live_in m (area_both m (pair_at m e))) ≢ length (sites_in (area_both m (pair_at m e))) = λ h. w (count ∙ (h ∙ ap (λ a. length (sites_in a)) (sym area))) in
        omega (arith, ap length live, ne, filter_short (is_live m) (sites_in (area_both m (pair_at m e))))
    go (Some a) w = (
      live ∙ (filter_whole (is_live m) (sites_in (area_both m (pair_at m e))) (sym count ∙ (w.1 ∙ ap (λ a. length (sites_in a)) area)) ∙ ap sites_in (sym (w.0 ∙ area))),
      w.2,
    )

-- the number of a site among those of an area is its place
pub area_number : (a : Area) (x y : ℕ) → site_number (sites_in a) (site x y) ≡ place_within a.columns.first a.columns.end a.rows.first a.rows.end x y
area_number a x y = go (place_within a.columns.first a.columns.end a.rows.first a.rows.end x y) refl
  where
    n : ℕ
    n = a.columns.end - a.columns.first

    none : place_within a.columns.first a.columns.end a.rows.first a.rows.end x y ≡ None → (o : Option ℕ) → site_number (sites_in a) (site x y) ≡ o → o ≡ None
    none h None is = refl
    none h (Some k) is =
        let p = number_place (sites_in a) (site x y) k is in
        let low : k < (a.rows.end - a.rows.first) * n = omega (arith, p.0, area_places a) in
        let at = sym (get_or_from_slice_get (sites_in a) k (site x y) (site x y) p.1) ∙ area_site a k (site x y) p.0 in
        let r = row_column k n (a.rows.end - a.rows.first) low in
        let u : x ≡ a.columns.first + k % n = ap (λ (s : Site). s.x) at in
        let v : y ≡ a.rows.first + k / n = ap (λ (s : Site). s.y) at in
        let inside = within_test a.columns.first a.columns.end a.rows.first a.rows.end x y (omega (arith, u)) (omega (arith, u, r.2)) (omega (arith, v)) (omega (arith, v, r.1)) in
        absurd (none-some _ (sym h ∙ ap (λ b. if b then Some ((y - a.rows.first) * n + (x - a.columns.first)) else None) inside))

    go : (o : Option ℕ) → place_within a.columns.first a.columns.end a.rows.first a.rows.end x y ≡ o → site_number (sites_in a) (site x y) ≡ o
    go None h = none h (site_number (sites_in a) (site x y)) refl
    go (Some k) h =
        let p = area_place a x y k (site x y) h in
        number_at_place (sites_in a) k (site x y) (block_order a.columns.first n a.rows.first (a.rows.end - a.rows.first)) p.0 p.1
