-- What the order of events takes from the plane.
use Rattle.std.proofs.Common.{ℕ, ◌≡◌, ◌≢◌, ◌≤◌, ◌<◌, ◌+◌, ◌*◌, List, [], ◌∷◌, refl, sym, ap, subst, arith, ◌⊎◌, inl, inr, ⊎_elim, Bool, true, false, Option, Some, None, ◌∙◌, ◌==◌, ◌&&◌, length, get_or}
use Rattle.std.specs.Prelude.{slice_get, nat_lt, if◌then◌else◌}
use Rattle.std.specs.Option.{option_map}
use Rattle.std.proofs.lemmas.Bool.Decides.{nat_tests}
use Rattle.std.proofs.lemmas.List.Quantifiers.{position-Some}
use Rattle.std.proofs.lemmas.Option.{slice_get-get_or}
use Rattle.list_laws.proofs.Members.{In, contains_in, in_contains}
use Rattle.serial_order.proofs.Lists.{past_end}
use Rattle.list_laws.proofs.Tests.{both}
use Rattle.tile_map.specs.Plane.{Site, MapValue, tiles_of, is_on, is_live, is_held, owner_of, in_plane, in_window}
use Rattle.tile_map.specs.Edges.{pairs_of, low_end, high_end, shared_of, needs_of}
use Rattle.tile_map.specs.Laws.{IsPlane, Joins}
use Rattle.border_cache.specs.Windows.{has, end_at, edge_place}

-- the tile is an end of the edge
abbrev pub IsEnd : MapValue → ℕ → ℕ → Type 0
IsEnd m t e = (low_end m e ≡ t) ⊎ (high_end m e ≡ t)

pub has_in : (e : ℕ) (ds : List ℕ) → has e ds ≡ true → In e ds
has_in e [] h = absurd cc
has_in e (d ∷ ds) h = go (e == d) refl h (λ k. has_in e ds k)
  where
    go : (t : Bool) → (e == d) ≡ t → (if t then true else has e ds) ≡ true → (has e ds ≡ true → In e ds) → In e (d ∷ ds)
    go true is k rec = inl (grind (arith, nat_tests, is))
    go false is k rec = inr (rec k)

pub in_has : (e : ℕ) (ds : List ℕ) → In e ds → has e ds ≡ true
in_has e [] i = absurd i
in_has e (d ∷ ds) i = go (e == d) refl (λ j. in_has e ds j)
  where
    go : (t : Bool) → (e == d) ≡ t → (In e ds → has e ds ≡ true) → (if t then true else has e ds) ≡ true
    go true is rec = refl
    go false is rec = rec (⊎_elim {C = In e ds} (λ s. absurd (grind (arith, nat_tests, is, s))) (λ j. j) i)

pub end_small : (m : MapValue) (e t : ℕ) → end_at m t e < 2
end_small m e t = go (low_end m e == t)
  where
    go : (b : Bool) → (if b then 0 else 1) < 2
    go true = omega arith
    go false = omega arith

lt_or_not : (a b : ℕ) → (a < b) ⊎ (b ≤ a)
lt_or_not a b = go (nat_lt a b) refl
  where
    go : (t : Bool) → nat_lt a b ≡ t → (a < b) ⊎ (b ≤ a)
    go true is = inl (grind (arith, nat_tests, is))
    go false is = inr (grind (arith, nat_tests, is))

module _ (m : MapValue) (plane : IsPlane m) where
  -- past the last edge stand two numbers of no tile
  pub beyond : (e : ℕ) → length (pairs_of m) ≤ e → (low_end m e ≡ tiles_of m) × (high_end m e ≡ tiles_of m + 1)
  beyond e le = let is = past_end (pairs_of m) e (tiles_of m, tiles_of m + 1) le in (ap (λ (p : ℕ × ℕ). p.0) is, ap (λ (p : ℕ × ℕ). p.1) is)

  pub apart : (e : ℕ) → low_end m e < high_end m e
  apart e = ⊎_elim {C = low_end m e < high_end m e} (λ lt. (plane.edges.ends e lt).0) (λ le. let b = beyond e le in omega (arith, b.0, b.1)) (lt_or_not e (length (pairs_of m)))

  -- the tile of a live site is one of the plane's
  pub owner_inside : (c : Site) → is_live m c ≡ true → owner_of m c < tiles_of m
  owner_inside c live =
      let on = (both (in_plane m c) (is_on m (owner_of m c)) live).1 in
      let lt = (both (nat_lt (owner_of m c) (tiles_of m)) _ on).0 in
      grind (arith, nat_tests, lt)

  pub inside : (t : ℕ) (c : Site) (e : ℕ) → In e (needs_of m t c) → e < length (pairs_of m)
  inside t c e i = (plane.needs.cause t c e (in_contains (needs_of m t c) e i)).2

  pub ends_of : (t : ℕ) (c : Site) (e : ℕ) → In e (needs_of m t c) → IsEnd m t e
  ends_of t c e i = ⊎_elim (λ p. inl p.0) (λ p. inr p.1) (plane.needs.cause t c e (in_contains (needs_of m t c) e i)).3

  -- an edge that joins a tile of the plane to another is one of the plane's
  joins_inside : (e t u : ℕ) → t < tiles_of m → Joins m e t u → e < length (pairs_of m)
  joins_inside e t u lt j = ⊎_elim {C = e < length (pairs_of m)} (λ h. h) (λ le. absurd (let b = beyond e le in ⊎_elim {C = ⊥} (λ p. omega (arith, b.0, p.0, lt)) (λ p. omega (arith, b.1, p.1, lt)) j)) (lt_or_not e (length (pairs_of m)))

  -- an event needs the edge to each tile that holds a site of its window
  pub needed : (c s : Site) (u e : ℕ) → is_live m c ≡ true → in_window m c s ≡ true → owner_of m c ≢ u → is_held m u s ≡ true → Joins m e (owner_of m c) u → In e (needs_of m (owner_of m c) c)
  needed c s u e live win ne held j =
      let r = plane.needs.needed c s u live win ne held in
      let i = contains_in (needs_of m (owner_of m c) c) r.0 r.1 in
      let same : e ≡ r.0 = plane.edges.one e r.0 (owner_of m c) u (joins_inside e (owner_of m c) u (owner_inside c live) j) (inside (owner_of m c) c r.0 i) j r.2 in
      subst (λ d. In d (needs_of m (owner_of m c) c)) (sym same) i

  -- the site at a place of the edge's shared ones
  pub placed : (e k : ℕ) (s : Site) → edge_place m e s ≡ Some k → slice_get (shared_of m e) k ≡ Some s
  placed e k s h =
      let found = position-Some (λ p. p.x == s.x && p.y == s.y) (shared_of m e) k s h in
      let q = get_or (shared_of m e) k s in
      let x : q.x ≡ s.x = grind (arith, nat_tests, found.1) in
      let y : q.y ≡ s.y = grind (arith, nat_tests, found.1) in
      slice_get-get_or (shared_of m e) k s found.0 ∙ (λ z. Some (record { x = x z; y = y z }))

  abbrev register_inside : Option ℕ → ℕ
  register_inside None = 0
  register_inside (Some x) = x

  pub place_is : (e k : ℕ) (s : Site) → e < length (pairs_of m) → slice_get (shared_of m e) k ≡ Some s → edge_place m e s ≡ Some k
  place_is e k s lt at = go (edge_place m e s) (plane.registers.found e k s lt at)
    where
      go : (o : Option ℕ) → option_map (λ j. 1 + 2 * j) o ≡ Some (1 + 2 * k) → o ≡ Some k
      go None h = absurd (cc h)
      go (Some j) h = let q : 1 + 2 * j ≡ 1 + 2 * k = ap register_inside h in ap Some (omega (arith, q))

pub other_end_is : (m : MapValue) (e t u : ℕ) → low_end m e < high_end m e → Joins m e t u → end_at m t e ≡ end_at m u e → ⊥
other_end_is m e t u lt j same = go j
  where
    go : Joins m e t u → ⊥
    go (inl p) = grind (arith, nat_tests, p.0, p.1, same, lt)
    go (inr p) = grind (arith, nat_tests, p.0, p.1, same, lt)

pub joined : (m : MapValue) (e t u : ℕ) → t ≢ u → IsEnd m t e → IsEnd m u e → Joins m e t u
joined m e t u ne (inl a) (inl b) = absurd (ne (sym a ∙ b))
joined m e t u ne (inl a) (inr b) = inl (a, b)
joined m e t u ne (inr a) (inl b) = inr (b, a)
joined m e t u ne (inr a) (inr b) = absurd (ne (sym a ∙ b))
