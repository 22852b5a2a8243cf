-- The places that a window covers are those of its live sites among the shared sites of the edge.
use Rattle.std.proofs.Common.{◌≡◌, ℕ, ◌+◌, ◌-◌, ◌*◌, ◌/◌, ◌<◌, Bool, true, false, true≢false, refl, sym, ap, ◌∙◌, arith, Option, Some, None, get_or, length}
use Rattle.std.specs.Prelude.{◌==◌, ◌&&◌, slice_get, if◌then◌else◌}
use Rattle.std.specs.Option.{option_map}
use Rattle.std.proofs.lemmas.Bool.Decides.{nat_tests}
use Rattle.std.proofs.lemmas.List.Quantifiers.{position-Some}
use Rattle.std.proofs.lemmas.Option.{slice_get-get_or, slice_get_within}
use Rattle.list_laws.specs.Options.{or_zero}
use Rattle.window_sites.specs.Sites.{offset_of, shift}
use Rattle.tile_map.specs.Plane.{Site, MapValue, site, is_live, in_window}
use Rattle.tile_map.specs.Edges.{pairs_of, low_end, live_site, window_site, shared_of, register_of}
use Rattle.tile_map.specs.Laws.{IsPlane}
use Rattle.tile_map.specs.declared.span.Area.{Area}
use Rattle.tile_map.specs.Spans.{place_within}
use Rattle.tile_map.specs.Tables.{sites_in, site_number}
use Rattle.tile_map.proofs.Areas.{area_number}
use Rattle.tile_map.proofs.Registers.{number_place}
use Rattle.tile_map.proofs.Spans.{held_parts}
use Rattle.border_cache.specs.News.{Covers}
use Rattle.border_cache.specs.Windows.{sites_on, place_in, place_among, place_at, edge_place, edge_place_some}

-- shared site k is a live site of the window
abbrev pub IsInWindow : MapValue → Site → ℕ → ℕ → Type 0
IsInWindow m c e k = (s : Site) × (slice_get (shared_of m e) k ≡ Some s) × (in_window m c s ≡ true)

pub covered_in : (m : MapValue) → IsPlane m → (c : Site) (e k : ℕ) → Covers (place_in m c e) 41 k → IsInWindow m c e k
covered_in m p c e k cov = go (window_site m c cov.0) refl cov.2
  where
    go : (o : Option Site) → window_site m c cov.0 ≡ o → edge_place_some m e o ≡ Some k → IsInWindow m c e k
    go None is h = absurd (cc h)
    go (Some s) is h =
        let found = position-Some (λ p. p.x == s.x && p.y == s.y) (shared_of m e) k c h in
        let q = get_or (shared_of m e) k c in
        let x : q.x ≡ s.x = grind (arith, nat_tests, found.1) in
        let y : q.y ≡ s.y = grind (arith, nat_tests, found.1) in
        (s, slice_get-get_or (shared_of m e) k c found.0 ∙ (λ z. Some (record { x = x z; y = y z })), p.windows.site c s cov.0 (omega (arith, cov.1)) is)

-- the number of a shared site is its place
pub shared_number : (m : MapValue) → IsPlane m → (e k : ℕ) (s : Site) → e < length (pairs_of m) → slice_get (shared_of m e) k ≡ Some s → edge_place m e s ≡ Some k
shared_number m p e k s lt at = go (edge_place m e s) (p.registers.found e k s lt at)
  where
    go : (o : Option ℕ) → option_map (λ k. 1 + 2 * k) o ≡ Some (1 + 2 * k) → o ≡ Some k
    go None h = absurd (cc h)
    go (Some j) h = let q : 1 + 2 * j ≡ 1 + 2 * k = ap or_zero h in ap Some (omega (arith, q))

pub in_covered : (m : MapValue) → IsPlane m → (c : Site) (e k : ℕ) → e < length (pairs_of m) → IsInWindow m c e k → Covers (place_in m c e) 41 k
in_covered m p c e k lt w =
    let n = p.windows.number c w.0 w.2 in
    (n.0, omega (arith, n.1), ap (edge_place_some m e) n.2 ∙ shared_number m p e k w.0 lt w.1)

-- a site that an edge shares is live, so that its place needs no other test
pub shared_place : (m : MapValue) → IsPlane m → (c : Site) (e n u v r : ℕ) → shift c.x (offset_of n).0 ≡ Some u → shift c.y (offset_of n).1 ≡ Some v → register_of m e (site u v) ≡ Some r → Some ((r - 1) / 2) ≡ place_in m c e n
shared_place m p c e n u v r x y h =
    let s = site u v in
    let shared = p.registers.shared e r s h in
    let live = (held_parts m (low_end m e) s (p.edges.held e shared.0 s shared.1).0).live in
    half (edge_place m e s) r h ∙ sym ((λ i. edge_place_some m e (live_site m (x i) (y i))) ∙ ap (λ b. edge_place_some m e (if b then Some s else None)) live)
  where
    half : (o : Option ℕ) (r : ℕ) → option_map (λ k. 1 + 2 * k) o ≡ Some r → Some ((r - 1) / 2) ≡ o
    half None r h = absurd (cc h)
    half (Some k) r h = let q : 1 + 2 * k ≡ r = ap or_zero h in ap Some (omega (arith, q))

-- where the sites that an edge shares are an area, a place follows from the coordinates
pub whole_place : (m : MapValue) → IsPlane m → (a : Area) (c : Site) (e n : ℕ) → shared_of m e ≡ sites_in a → place_at a c n ≡ place_in m c e n
whole_place m p a c e n same = go (shift c.x (offset_of n).0) (shift c.y (offset_of n).1)
  where
    within : ℕ → ℕ → Option ℕ
    within u v = place_within a.columns.first a.columns.end a.rows.first a.rows.end u v

    number : (u v : ℕ) → edge_place m e (site u v) ≡ within u v
    number u v = ap (λ ss. site_number ss (site u v)) same ∙ area_number a u v

    off : (u v : ℕ) → is_live m (site u v) ≡ false → (o : Option ℕ) → within u v ≡ o → o ≡ None
    off u v dead None is = refl
    off u v dead (Some k) is =
        let at = (number_place (shared_of m e) (site u v) k (number u v ∙ is)).1 in
        absurd (true≢false (sym (held_parts m (low_end m e) (site u v) (p.edges.held e k (site u v) at).0).live ∙ dead))

    here : (u v : ℕ) (b : Bool) → is_live m (site u v) ≡ b → within u v ≡ edge_place_some m e (if b then Some (site u v) else None)
    here u v true is = sym (number u v)
    here u v false is = off u v is (within u v) refl

    go : (u v : Option ℕ) → place_among a u v ≡ edge_place_some m e (live_site m u v)
    go None v = refl
    go (Some u) None = refl
    go (Some u) (Some v) = here u v (is_live m (site u v)) refl

-- a place is one of the edge's
pub covered_few : (m : MapValue) → IsPlane m → (c : Site) (e k : ℕ) → Covers (place_in m c e) 41 k → k < sites_on m e
covered_few m p c e k cov = let w = covered_in m p c e k cov in slice_get_within (shared_of m e) k w.0 w.1
