-- The lines of the attempts are taken.
use Rattle.std.proofs.Common.{ℕ, ◌≡◌, ◌+◌, ◌*◌, ◌/◌, ◌%◌, ◌^◌, ◌<◌, ◌≤◌, Bool, true, false, List, [], ◌∷◌, ◌++◌, All, append_assoc, length, map, get_or, replicate, sum_by, nat_le, nat_lt, refl, ap, sym, ◌∙◌, subst, arith, Some, eq-eqb, lt-ltb, ltb-true}
use Rattle.std.proofs.Math.ListN.{set}
use Rattle.std.proofs.Math.Nat.{div-lt_iff_lt-mul, div-add-mod'}
use Rattle.std.proofs.lemmas.Nat.{div-mul-add, mod-mul-add, mul-add-lt}
use Rattle.std.proofs.lemmas.List.{append-nil, length-append}
use Rattle.std.proofs.lemmas.List.Elements.{All-head, All-tail}
use Rattle.std.proofs.lemmas.List.Sums.{sum_by-cons}
use Rattle.list_laws.proofs.Tests.{both, together}
use Rattle.draw_stream.specs.declared.attempt.Attempt.{Attempt}
use Rattle.draw_stream.specs.Plans.{tiles_on}
use Rattle.tile_map.specs.Plane.{MapValue, IsMap, in_plane, is_on, owner_of, site_in, tiles_of}
use Rattle.world_text.specs.Line.{Line, attempts, seed}
use Rattle.world_text.specs.Drafts.{DraftValue, IsTry, after_size, attempt_of, in_range, only_plane, put, too_many}
use Rattle.world_text.specs.Printed.{try_line, try_lines}
use Rattle.world_text.specs.declared.kind.Kind.{Kind}
use Rattle.world_text.specs.declared.kind.Kind.TheVariants.{Attempts, Seed, Try}
use Rattle.world_text.proofs.Drafts.{count_fits}
use Rattle.world_text.proofs.Planes.{set_at}
use Rattle.world_text.proofs.Taken.{Takes, before_try, seed_may, takes_none, takes_one, takes_then, try_may}

-- the site of place c of tile t is of the plane and of the tile, and has this place there
record IsBack (m : MapValue) (t c : ℕ) : Type 0 where
  x_low : (site_in m t c).x < m.tx * m.w
  y_low : (site_in m t c).y < m.ty * m.h
  owned : owner_of m (site_in m t c) ≡ t
  centre : (site_in m t c).y % m.h * m.w + (site_in m t c).x % m.w ≡ c

site_back : (m : MapValue) (t c : ℕ) → IsMap m → t < tiles_of m → c < m.w * m.h → IsBack m t c
site_back m t c k tile place =
    let wide : 0 < m.w = omega (arith, k.sizes.w_low) in
    let high : 0 < m.h = omega (arith, k.sizes.h_low) in
    let some : 0 < m.tx = omega (arith, k.sizes.tx_low) in
    let column : c % m.w < m.w = omega (arith, wide) in
    let row : c / m.w < m.h = (div-lt_iff_lt-mul wide).1 (rw (flip m.h m.w) place) in
    let tile_column : t % m.tx < m.tx = omega (arith, some) in
    let tile_row : t / m.tx < m.ty = (div-lt_iff_lt-mul some).1 (rw (flip m.ty m.tx) tile) in
    let back_x = div-mul-add (t % m.tx) m.w (c % m.w) column in
    let back_y = div-mul-add (t / m.tx) m.h (c / m.w) row in
    let in_x = mod-mul-add (t % m.tx) m.w (c % m.w) column in
    let in_y = mod-mul-add (t / m.tx) m.h (c / m.w) row in
    record {
      x_low = rw (flip m.tx m.w) (mul-add-lt (t % m.tx) m.w (c % m.w) m.tx tile_column column);
      y_low = rw (flip m.ty m.h) (mul-add-lt (t / m.tx) m.h (c / m.w) m.ty tile_row row);
      owned = ap (λ z. z * m.tx + (t % m.tx * m.w + c % m.w) / m.w) back_y ∙ ap (λ z. t / m.tx * m.tx + z) back_x ∙ div-add-mod' t m.tx;
      centre = ap (λ z. z * m.w + (t % m.tx * m.w + c % m.w) % m.w) in_y ∙ ap (λ z. c / m.w * m.w + z) in_x ∙ div-add-mod' c m.w;
    }
  where
    flip : (a b : ℕ) → a * b ≡ b * a
    flip a b = grind arith

try_fits : (m : MapValue) (t : ℕ) (a : Attempt) → IsMap m → IsTry m t a → IsBack m t a.centre → in_range m (try_line m t a) ≡ true
unfolding in_range
try_fits m t a k is back =
    let s = site_in m t a.centre in
    let plane : in_plane m s ≡ true = together _ _ (lt-ltb _ _ back.x_low) (lt-ltb _ _ back.y_low) in
    let on : is_on m (owner_of m s) ≡ true = ap (is_on m) back.owned ∙ is.on in
    together _ _ (together _ _ plane on) (together _ _ (eq-eqb _ _ back.owned) (lt-ltb a.seed (2 ^ 64) is.seed))

-- a plane, and attempts of its tiles
abbrev pub tried : Kind → Bool → MapValue → ℕ → List (List Attempt) → DraftValue
tried last second m made lists = record (only_plane last second m) { made = made; tries = lists }

pub small_side : (n k x : ℕ) → n ≤ 8 → k ≤ 64 → x < n * k → x < 2 ^ 64
small_side n k x a b h = let p = product n k a b in omega (arith, p, h)
  where
    product : (n k : ℕ) → n ≤ 8 → k ≤ 64 → n * k ≤ 512
    product n k a b = grind arith

-- one attempt more of tile t
one_taken : (n : ℕ) (k : Kind) (s : Bool) (m : MapValue) (made t : ℕ) (lists : List (List Attempt)) (a : Attempt) → IsMap m → before_try k ≡ true → IsTry m t a → made < 1000000 →
    Takes n (tried k s m made lists) (try_line m t a ∷ []) (n + 1) (tried Try s m (made + 1) (set lists t (get_or lists t [] ++ a ∷ [])))
unfolding put too_many
one_taken n k s m made t lists a shape kind is few =
    let z = shape.sizes in
    let low : t < tiles_of m = ltb-true t (tiles_of m) (both _ _ is.on).0 in
    let back = site_back m t a.centre shape low is.centre in
    let x = small_side m.tx m.w _ z.tx_high z.w_high back.x_low in
    let y = small_side m.ty m.h _ z.ty_high z.h_high back.y_low in
    let tile : t < 2 ^ 64 = let p = small_side m.tx m.ty t z.tx_high (omega (arith, z.ty_high)) low in p in
    let more : nat_le 1000000 made ≡ false = not_le made few in
    let same : attempt_of m (site_in m t a.centre).x (site_in m t a.centre).y a.seed ≡ a = ap (λ (c : ℕ). the_attempt c a.seed) back.centre in
    subst (λ (b : Attempt). Takes n (tried k s m made lists) (try_line m t a ∷ []) (n + 1) (tried Try s m (made + 1) (set lists t (get_or lists t [] ++ b ∷ [])))) same
    (takes_one n (tried k s m made lists) (try_line m t a) (tile, x, y, is.seed) (try_may s k kind) (try_fits m t a shape is back) more)
  where
    the_attempt : ℕ → ℕ → Attempt
    the_attempt c s = record { centre = c; seed = s }

    not_le : (m : ℕ) → m < 1000000 → nat_le 1000000 m ≡ false
    not_le m h = grind arith

pub get_at : {A : Type 0} (xs ys : List A) (x d : A) → get_or (xs ++ x ∷ ys) (length xs) d ≡ x
get_at [] ys x d = refl
get_at (z ∷ xs) ys x d = get_at xs ys x d

-- the lines of the attempts of tile t
abbrev lines_of : MapValue → ℕ → List Attempt → List Line
lines_of m t list = map (try_line m t) list

-- the attempts of tile t, behind those before them
list_taken : (more done : List Attempt) (front back old new : List (List Attempt)) (t n made total : ℕ) (k : Kind) (s : Bool) (m : MapValue) → IsMap m → t ≡ length front → old ≡ front ++ done ∷ back → new ≡ front ++ (done ++ more) ∷ back →
    All (IsTry m t) more → before_try k ≡ true → total ≡ made + length more → total ≤ 1000000 →
    (i : ℕ) × (j : Kind) × (before_try j ≡ true) × Takes n (tried k s m made old) (map (try_line m t) more) i (tried j s m total new)
list_taken [] done front back old new t n made total k s m shape at was is all kind count few =
    let whole : old ≡ new = was ∙ ap (λ z. front ++ z ∷ back) (sym (append-nil done)) ∙ sym is in
    let none : made ≡ total = omega (arith, count) in
    (n, k, kind, subst (λ z. Takes n (tried k s m made old) [] n (tried k s m z new)) none (subst (λ z. Takes n (tried k s m made old) [] n (tried k s m made z)) whole (takes_none n _)))
list_taken (a ∷ more) done front back old new t n made total k s m shape at was is all kind count few =
    let here : get_or old t [] ≡ done = ap (λ z. get_or z t []) was ∙ ap (λ i. get_or (front ++ done ∷ back) i []) at ∙ get_at front back done [] in
    let written : set old t (get_or old t [] ++ a ∷ []) ≡ front ++ (done ++ a ∷ []) ∷ back =
    ap (λ z. set old t (z ++ a ∷ [])) here ∙ ap (λ z. set z t (done ++ a ∷ [])) was ∙ ap (λ i. set (front ++ done ∷ back) i (done ++ a ∷ [])) at ∙ set_at front back done (done ++ a ∷ []) in
    let first = one_taken n k s m made t old a shape kind (All-head (IsTry m t) a more all) (omega (arith, count, few)) in
    let rest = list_taken more (done ++ a ∷ []) front back (set old t (get_or old t [] ++ a ∷ [])) new t (n + 1) (made + 1) total Try s m shape at written (is ∙ ap (λ z. front ++ z ∷ back) (sym (append_assoc done (a ∷ []) more)))
    (All-tail (IsTry m t) a more all) refl (omega (arith, count)) few in (
      rest.0,
      rest.1,
      rest.2,
      takes_then n (tried k s m made old) (try_line m t a ∷ []) (n + 1) (tried Try s m (made + 1) (set old t (get_or old t [] ++ a ∷ []))) (lines_of m t more) rest.0 (tried rest.1 s m total new) first rest.3,
    )

-- the attempts of all tiles, behind those of the tiles before them
pub lists_taken : (lists front old new : List (List Attempt)) (t n made total : ℕ) (k : Kind) (s : Bool) (m : MapValue) → IsMap m → t ≡ length front → old ≡ front ++ replicate (length lists) [] → new ≡ front ++ lists →
    ((u : ℕ) → All (IsTry m u) (get_or new u [])) → before_try k ≡ true → total ≡ made + sum_by length lists → total ≤ 1000000 →
    (i : ℕ) × (j : Kind) × (before_try j ≡ true) × Takes n (tried k s m made old) (try_lines m t lists) i (tried j s m total new)
unfolding try_lines
lists_taken [] front old new t n made total k s m shape at was is all kind count few =
    let none : made ≡ total = omega (arith, count) in
    (n, k, kind, subst (λ z. Takes n (tried k s m made old) [] n (tried k s m z new)) none (subst (λ z. Takes n (tried k s m made old) [] n (tried k s m made z)) (was ∙ sym is) (takes_none n _)))
lists_taken (list ∷ more) front old new t n made total k s m shape at was is all kind count few =
    let mid = front ++ list ∷ replicate (length more) [] in
    let sum = sum_by-cons length list more in
    let here : get_or new t [] ≡ list = ap (λ z. get_or z t []) is ∙ ap (λ i. get_or (front ++ list ∷ more) i []) at ∙ get_at front more list [] in
    let first = list_taken list [] front (replicate (length more) []) old mid t n made (made + length list) k s m shape at was refl (subst (All (IsTry m t)) here (all t)) kind refl (omega (arith, count, few, sum)) in
    let next : t + 1 ≡ length (front ++ list ∷ []) = omega (arith, at, length-append front (list ∷ [])) in
    let rest = lists_taken more (front ++ list ∷ []) mid new (t + 1) first.0 (made + length list) total first.1 s m shape next (sym (append_assoc front (list ∷ []) (replicate (length more) []))) (is ∙ sym (append_assoc front (list ∷ []) more))
    all first.2 (omega (arith, count, sum)) few in (
      rest.0,
      rest.1,
      rest.2,
      takes_then n (tried k s m made old) (map (try_line m t) list) first.0 (tried first.1 s m (made + length list) mid) (try_lines m (t + 1) more) rest.0 (tried rest.1 s m total new) first.3 rest.3,
    )

-- a seed, and how many attempts each tile draws from it
pub drawn_taken : (n : ℕ) (k : Kind) (s : Bool) (m : MapValue) (o : ℕ × ℕ) → after_size k ≡ true → 1 ≤ tiles_on m.off → o.0 < 2 ^ 64 → o.1 * tiles_on m.off ≤ 1000000 →
    Takes n (only_plane k s m) (seed o.0 ∷ attempts o.1 ∷ []) (n + 1 + 1) (record (only_plane Attempts s m) { origin = Some o })
unfolding put in_range too_many
drawn_taken n k s m o kind on small few =
    let count : o.1 < 2 ^ 64 = omega (arith, count_fits o.1 (tiles_on m.off) on few) in
    let first = takes_one n (only_plane k s m) (seed o.0) small (seed_may s k kind) (lt-ltb o.0 (2 ^ 64) small) refl in
    let second = takes_one (n + 1) (record (only_plane Seed s m) { origin = Some (o.0, 0) }) (attempts o.1) count refl refl (not_more (o.1 * tiles_on m.off) few) in
    takes_then n (only_plane k s m) (seed o.0 ∷ []) (n + 1) (record (only_plane Seed s m) { origin = Some (o.0, 0) }) (attempts o.1 ∷ []) (n + 1 + 1) (record (only_plane Attempts s m) { origin = Some o }) first second
  where
    not_more : (k : ℕ) → k ≤ 1000000 → nat_lt 1000000 k ≡ false
    not_more k h = grind arith
