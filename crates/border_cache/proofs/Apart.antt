-- No two sites of a window stand at one place of an edge.
use Rattle.std.proofs.Common.{◌≡◌, ℕ, ◌+◌, ◌-◌, ◌<◌, Bool, true, false, refl, ap, ◌∙◌, arith, Option, Some, None, get_or}
use Rattle.std.specs.Prelude.{ℤ, pos, negsuc, nat_lt, if◌then◌else◌, ◌==◌, ◌&&◌}
use Rattle.std.proofs.lemmas.Bool.Decides.{nat_tests}
use Rattle.std.proofs.lemmas.List.Quantifiers.{position-Some}
use Rattle.list_laws.specs.Options.{or_zero}
use Rattle.window_sites.specs.Sites.{offset_of, shift}
use Rattle.window_sites.proofs.Offsets.{offset-one}
use Rattle.tile_map.specs.Plane.{Site, MapValue, site, is_live}
use Rattle.tile_map.specs.Edges.{window_site, live_site, shared_of}
use Rattle.border_cache.specs.Published.{ArePlaces}
use Rattle.border_cache.specs.Windows.{place_in, edge_place_some}

-- two offsets that lead to one place are one
two_ways : (x a d e : ℕ) → shift x (pos d) ≡ Some a → shift x (negsuc e) ≡ Some a → ⊥
two_ways x a d e h g = let p : x + d ≡ a = ap or_zero h in go (nat_lt e x) refl g p
  where
    go : (b : Bool) → nat_lt e x ≡ b → (if b then Some (x - e - 1) else None) ≡ Some a → x + d ≡ a → ⊥
    go true is g p = let q : x - e - 1 ≡ a = ap or_zero g in let lt : e < x = grind (arith, nat_tests, is) in omega (arith, p, q, lt)
    go false is g p = absurd (cc g)

shift_one : (x a : ℕ) (d e : ℤ) → shift x d ≡ Some a → shift x e ≡ Some a → d ≡ e
shift_one x a (pos d) (pos e) h g = let p : x + d ≡ a = ap or_zero h in let q : x + e ≡ a = ap or_zero g in ap pos (omega (arith, p, q))
shift_one x a (pos d) (negsuc e) h g = absurd (two_ways x a d e h g)
shift_one x a (negsuc d) (pos e) h g = absurd (two_ways x a e d g h)
shift_one x a (negsuc d) (negsuc e) h g = go (nat_lt d x) refl h (nat_lt e x) refl g
  where
    go : (b : Bool) → nat_lt d x ≡ b → (if b then Some (x - d - 1) else None) ≡ Some a → (c : Bool) → nat_lt e x ≡ c → (if c then Some (x - e - 1) else None) ≡ Some a → negsuc d ≡ negsuc e
    go true is h true js g =
        let p : x - d - 1 ≡ a = ap or_zero h in let q : x - e - 1 ≡ a = ap or_zero g in
        let lt : d < x = grind (arith, nat_tests, is) in let less : e < x = grind (arith, nat_tests, js) in
        ap negsuc (omega (arith, p, q, lt, less))
    go true is h false js g = absurd (cc g)
    go false is h c js g = absurd (cc h)

abbrev site_or : Option Site → Site
site_or None = site 0 0
site_or (Some s) = s

-- a live site lies where both shifts lead
shifts_of : (m : MapValue) (u v : Option ℕ) (s : Site) → live_site m u v ≡ Some s → (u ≡ Some s.x) × (v ≡ Some s.y)
shifts_of m None v s h = absurd (cc h)
shifts_of m (Some u) None s h = absurd (cc h)
shifts_of m (Some u) (Some v) s h = go (is_live m (site u v)) h
  where
    go : (b : Bool) → (if b then Some (site u v) else None) ≡ Some s → (Some u ≡ Some s.x) × (Some v ≡ Some s.y)
    go true e = (ap (λ o. Some (site_or o).x) e, ap (λ o. Some (site_or o).y) e)
    go false e = absurd (cc e)

-- where site n lies, if it has a place: the coordinates of the shared site there
placed : (m : MapValue) (c : Site) (e n k : ℕ) → place_in m c e n ≡ Some k → (shift c.x (offset_of n).0 ≡ Some (get_or (shared_of m e) k c).x) × (shift c.y (offset_of n).1 ≡ Some (get_or (shared_of m e) k c).y)
placed m c e n k h = go (window_site m c n) refl h
  where
    go : (o : Option Site) → window_site m c n ≡ o → edge_place_some m e o ≡ Some k → (shift c.x (offset_of n).0 ≡ Some (get_or (shared_of m e) k c).x) × (shift c.y (offset_of n).1 ≡ Some (get_or (shared_of m e) k c).y)
    go None is h = absurd (cc h)
    go (Some s) is h =
        let found = (position-Some (λ p. p.x == s.x && p.y == s.y) (shared_of m e) k c h).1 in
        let q = get_or (shared_of m e) k c in
        let x : s.x ≡ q.x = grind (arith, nat_tests, found) in
        let y : s.y ≡ q.y = grind (arith, nat_tests, found) in
        let w = shifts_of m (shift c.x (offset_of n).0) (shift c.y (offset_of n).1) s is in
        (w.0 ∙ ap Some x, w.1 ∙ ap Some y)

pub places_apart : (m : MapValue) (c : Site) (e : ℕ) → ArePlaces (place_in m c e) 41
places_apart m c e i j k lt less at bt =
    let p = placed m c e i k at in
    let q = placed m c e j k bt in
    let s = get_or (shared_of m e) k c in
    let dx : (offset_of i).0 ≡ (offset_of j).0 = shift_one c.x s.x (offset_of i).0 (offset_of j).0 p.0 q.0 in
    let dy : (offset_of i).1 ≡ (offset_of j).1 = shift_one c.y s.y (offset_of i).1 (offset_of j).1 p.1 q.1 in
    offset-one i j (omega (arith, lt)) (omega (arith, less)) (λ z. (dx z, dy z))

-- no two numbers of a window are one site
pub sites_apart : (m : MapValue) (c s : Site) (i j : ℕ) → i < 41 → j < 41 → window_site m c i ≡ Some s → window_site m c j ≡ Some s → i ≡ j
sites_apart m c s i j lt less p q =
    let a = shifts_of m (shift c.x (offset_of i).0) (shift c.y (offset_of i).1) s p in
    let b = shifts_of m (shift c.x (offset_of j).0) (shift c.y (offset_of j).1) s q in
    let dx : (offset_of i).0 ≡ (offset_of j).0 = shift_one c.x s.x (offset_of i).0 (offset_of j).0 a.0 b.0 in
    let dy : (offset_of i).1 ≡ (offset_of j).1 = shift_one c.y s.y (offset_of i).1 (offset_of j).1 a.1 b.1 in
    offset-one i j (omega (arith, lt)) (omega (arith, less)) (λ z. (dx z, dy z))
