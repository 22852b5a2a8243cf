-- The registers of shared sites: by the place of a site among those that an edge shares.
use Rattle.std.proofs.Common.{ℕ, ◌≡◌, ◌+◌, ◌*◌, ◌<◌, ◌≤◌, Bool, true, false, ◌&&◌, ◌==◌, List, length, get_or, cond, refl, sym, ap, ◌∙◌, subst, arith, ◌⊎◌, inl, inr, ⊎_elim, Option, Some, None}
use Rattle.std.specs.Prelude.{nat_lt, filter, position, slice_get, AllPairs}
use Rattle.std.specs.List.{position_or_len}
use Rattle.std.specs.Option.{option_map}
use Rattle.std.proofs.lemmas.Bool.Decides.{nat_tests}
use Rattle.std.proofs.lemmas.List.Quantifiers.{position-Some}
use Rattle.std.proofs.lemmas.List.Sums.{position_or_len_is}
use Rattle.std.proofs.lemmas.List.Elements.{filter_passes}
use Rattle.std.proofs.lemmas.Option.{same_Some, slice_get-get_or, slice_get_within, get_or_from_slice_get}
use Rattle.list_laws.proofs.Members.{InOrder, order-filter, order-pairs}
use Rattle.tile_map.specs.Plane.{Site, MapValue, site, sites_of, is_held}
use Rattle.tile_map.specs.Edges.{pair_at, shared_of, register_of}
use Rattle.tile_map.specs.Tables.{site_number}
use Rattle.tile_map.proofs.Blocks.{IsBefore, block_order}

-- whether a site is the one at (u, v)
abbrev pub is_site : ℕ → ℕ → Site → Bool
is_site u v q = q.x == u && q.y == v

is_site-same : (u v : ℕ) → is_site u v (site u v) ≡ true
is_site-same u v = grind (arith, nat_tests)

is_site-is : (u v : ℕ) (q : Site) → is_site u v q ≡ true → (q.x ≡ u) × (q.y ≡ v)
is_site-is u v q h = grind (arith, nat_tests)

site_same : (s q : Site) → is_site s.x s.y q ≡ true → q ≡ s
site_same s q h = let r = is_site-is s.x s.y q h in λ i. record { x = r.0 i; y = r.1 i }

pub bool_cases : (b : Bool) → (b ≡ true) ⊎ (b ≡ false)
bool_cases true = inl refl
bool_cases false = inr refl

before_other : (s q : Site) → IsBefore q s → is_site s.x s.y q ≡ false
before_other s q h = ⊎_elim (λ e. absurd (apart (is_site-is s.x s.y q e) h)) (λ e. e) (bool_cases (is_site s.x s.y q))
  where
    apart : (q.x ≡ s.x) × (q.y ≡ s.y) → IsBefore q s → ⊥
    apart e (inl lt) = omega (arith, e.1, lt)
    apart e (inr lt) = omega (arith, e.0, lt.1)

position_of_len : {X : Type 0} (p : X → Bool) (xs : List X) (i : ℕ) → position_or_len p xs ≡ i → i < length xs → position p xs ≡ Some i
position_of_len p xs i e lt =
    let test : nat_lt (position_or_len p xs) (length xs) ≡ true = grind (arith, nat_tests, e, lt) in
    ap (λ b. cond b (Some (position_or_len p xs)) None) test ∙ ap Some e

-- in a list of sites in order each has the number of its place
pub number_at_place : (ss : List Site) (k : ℕ) (s : Site) → InOrder IsBefore ss → k < length ss → get_or ss k s ≡ s → site_number ss s ≡ Some k
number_at_place ss k s order lt at =
    let upto : k ≤ length ss = omega (arith, lt) in
    let apart : AllPairs IsBefore ss = order-pairs IsBefore ss order in
    position_of_len (is_site s.x s.y) ss k
    (position_or_len_is (is_site s.x s.y) ss k s upto (λ j less. before_other s (get_or ss j s) (subst (IsBefore (get_or ss j s)) at (apart j k s less lt))) (λ h. ap (is_site s.x s.y) at ∙ is_site-same s.x s.y))
    lt

-- what no entry passes has no position
position_none : {X : Type 0} (p : X → Bool) (xs : List X) (d : X) → ((k : ℕ) → k < length xs → p (get_or xs k d) ≡ false) → position p xs ≡ None
position_none p xs d h =
    let e = position_or_len_is p xs (length xs) d (omega arith) h (λ lt. absurd (omega (arith, lt))) in
    let test : nat_lt (position_or_len p xs) (length xs) ≡ false = grind (arith, nat_tests, e) in
    ap (λ b. cond b (Some (position_or_len p xs)) None) test

-- a site that does not pass a test has no number among those that do
pub number_none : (p : Site → Bool) (ss : List Site) (s : Site) → p s ≡ false → site_number (filter p ss) s ≡ None
number_none p ss s out = position_none (is_site s.x s.y) (filter p ss) s fails
  where
    fails : (k : ℕ) → k < length (filter p ss) → is_site s.x s.y (get_or (filter p ss) k s) ≡ false
    fails k lt = ⊎_elim (λ h. absurd (other h)) (λ h. h) (bool_cases (is_site s.x s.y (get_or (filter p ss) k s)))
      where
        other : is_site s.x s.y (get_or (filter p ss) k s) ≡ true → ⊥
        other h =
            let passes : p (get_or (filter p ss) k s) ≡ true = filter_passes p ss k s lt in
            cc (ap p (site_same s (get_or (filter p ss) k s) h), passes, out)

-- what has a number stands there
pub number_place : (ss : List Site) (s : Site) (k : ℕ) → site_number ss s ≡ Some k → (k < length ss) × (slice_get ss k ≡ Some s)
number_place ss s k is =
    let p = position-Some (is_site s.x s.y) ss k s is in
    (p.0, slice_get-get_or ss k s p.0 ∙ ap Some (site_same s (get_or ss k s) p.1))

-- the shared sites are in order
pub shared_order : (m : MapValue) (e : ℕ) → InOrder IsBefore (shared_of m e)
shared_order m e = order-filter IsBefore (λ s. is_held m (pair_at m e).0 s && is_held m (pair_at m e).1 s) (sites_of m) (block_order 0 (m.tx * m.w) 0 (m.ty * m.h))

shared_number : (m : MapValue) (e k : ℕ) (s : Site) → slice_get (shared_of m e) k ≡ Some s → site_number (shared_of m e) s ≡ Some k
shared_number m e k s h = number_at_place (shared_of m e) k s (shared_order m e) (slice_get_within (shared_of m e) k s h) (get_or_from_slice_get (shared_of m e) k s s h)

-- a site is shared once
pub shared_once : (m : MapValue) (e i j : ℕ) (s : Site) → slice_get (shared_of m e) i ≡ Some s → slice_get (shared_of m e) j ≡ Some s → i ≡ j
shared_once m e i j s a b = same_Some i j (sym (shared_number m e i s a) ∙ shared_number m e j s b)

-- what is shared has its register
pub register_found : (m : MapValue) (e k : ℕ) (s : Site) → slice_get (shared_of m e) k ≡ Some s → register_of m e s ≡ Some (1 + 2 * k)
register_found m e k s h = ap (option_map (λ k. 1 + 2 * k)) (shared_number m e k s h)

-- what has a register is shared
pub register_shared : (m : MapValue) (e r : ℕ) (s : Site) → register_of m e s ≡ Some r → (k : ℕ) × (slice_get (shared_of m e) k ≡ Some s) × (r ≡ 1 + 2 * k)
register_shared m e r s h = go (site_number (shared_of m e) s) refl h
  where
    go : (o : Option ℕ) → site_number (shared_of m e) s ≡ o → option_map (λ k. 1 + 2 * k) o ≡ Some r → (k : ℕ) × (slice_get (shared_of m e) k ≡ Some s) × (r ≡ 1 + 2 * k)
    go None is q = absurd (cc (q))
    go (Some k) is q = (k, (number_place (shared_of m e) s k is).1, same_Some r (1 + 2 * k) (sym q))
