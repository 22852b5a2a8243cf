-- The marks of tiles and edges: how they are appended, and that they rise.
use Rattle.std.proofs.Common.{ℕ, ◌≡◌, ◌≢◌, ◌<◌, ◌+◌, ◌*◌, ◌/◌, ◌%◌, ◌==◌, List, [], ◌∷◌, ◌++◌, All, refl, sym, ap, subst, arith, Bool, true, false, ◌&&◌, ◌||◌, ◌∙◌, cond, length, filter, map, get_or, set, take, replicate, eq-eqb, eqb-true, ne_eqb}
use Rattle.std.specs.Prelude.{if◌then◌else◌}
use Rattle.std.specs.List.{list_any}
use Rattle.std.specs.List.Sorted.{IsStrictlyIncreasing}
use Rattle.std.proofs.lemmas.Bool.Decides.{nat_tests}
use Rattle.std.proofs.lemmas.List.{append-nil, get_or-replicate, get_or-set_other, get_or-set_same, get_or-take, get_or_default, length-take, length-replicate, map-append}
use Rattle.std.proofs.lemmas.List.Elements.{filter-append}
use Rattle.std.proofs.lemmas.List.Folds.{list_any_more, list_any_none}
use Rattle.std.proofs.lemmas.List.Kept.{AllPairs-from_increasing}
use Rattle.std.proofs.lemmas.Nat.{mul-add-lt, rows, same_from_place}
use Rattle.list_laws.proofs.Members.{In, filter_in, order-filter, order-map, order-pairs}
use Rattle.list_laws.proofs.Tests.{both}
use Rattle.cell_grid.specs.declared.record.Record.{Record}
use Rattle.draw_stream.specs.Plans.{PlanValue}
use Rattle.tile_map.specs.Plane.{MapValue, tiles_of}
use Rattle.tile_map.specs.Edges.{pairs_of}
use Rattle.event_journal.specs.Accounts.{IsAccounted, edges_of}
use Rattle.event_journal.specs.declared.abandoned.Abandoned.{Abandoned}
use Rattle.journal_check.specs.Clocks.{needs_edge}
use Rattle.journal_check.specs.Marks.{AddsMark, AreMarks, AreRising, Rises, is_list_of, is_on_edge, mark_of, marks_on}
use Rattle.journal_check.specs.declared.mark.Mark.{Mark}
use Rattle.journal_check.proofs.Accounting.{events_follow}
use Rattle.journal_check.proofs.Lists.{order_with}

test_apart : (a b : ℕ) → (a == b) ≡ false → a ≢ b
test_apart a b e = grind (arith, nat_tests)

-- the place of an edge and a tile
slot_test : (n f u e t : ℕ) → u < n → t < n → (f * n + u == e * n + t) ≡ (u == t && f == e)
slot_test n f u e t a b = go (u == t) (f == e) refl refl
  where
    places : f * n + u ≡ e * n + t → (f ≡ e) × (u ≡ t)
    places h = same_from_place f u e t n a b h

    go : (p q : Bool) → (u == t) ≡ p → (f == e) ≡ q → (f * n + u == e * n + t) ≡ (p && q)
    go true true is js = eq-eqb (f * n + u) (e * n + t) ((λ i. eqb-true f e js i * n + eqb-true u t is i))
    go true false is js = ne_eqb (f * n + u) (e * n + t) (λ h. test_apart f e js (places h).0)
    go false true is js = ne_eqb (f * n + u) (e * n + t) (λ h. test_apart u t is (places h).1)
    go false false is js = ne_eqb (f * n + u) (e * n + t) (λ h. test_apart u t is (places h).1)

any_slot : (n u e t : ℕ) → u < n → t < n → (fs : List ℕ) → list_any (λ f. f * n + u == e * n + t) fs ≡ (u == t && list_any (λ f. f == e) fs)
any_slot n u e t a b [] = go (u == t)
  where
    go : (p : Bool) → false ≡ (p && false)
    go true = refl
    go false = refl
any_slot n u e t a b (f ∷ fs) =
    ap (λ p. p || list_any (λ g. g * n + u == e * n + t) fs) (slot_test n f u e t a b) ∙ ap (λ p. (u == t && f == e) || p) (any_slot n u e t a b fs) ∙ go (u == t) (f == e) (list_any (λ g. g == e) fs)
  where
    go : (p q r : Bool) → ((p && q) || (p && r)) ≡ (p && (q || r))
    go true q r = refl
    go false q r = refl

pub lane_in : (many n t e long : ℕ) → e < many → t < n → long ≡ many * n → e * n + t < long
lane_in many n t e long a b is = let lt = mul-add-lt e n t many a b in omega (arith, lt, is)

pub lanes_in : (many n t long : ℕ) (es : List ℕ) → t < n → long ≡ many * n → All (λ e. e < many) es → All (λ e. e * n + t < long) es
lanes_in many n t long es b is all k d lt = lane_in many n t (get_or es k d) long (all k d lt) b is

-- none of the edges before stands at the place of this one
not_before : (n t : ℕ) (es : List ℕ) (i : ℕ) → t < n → IsStrictlyIncreasing es → i < length es → list_any (λ e. e * n + t == get_or es i 0 * n + t) (take i es) ≡ false
not_before n t es i small up lt = list_any_none (λ e. e * n + t == get_or es i 0 * n + t) (take i es) (λ k d within.
    let low : k < i = taken k within in
    let less : get_or es k d < get_or es i d = AllPairs-from_increasing es up k i d low lt in
    let one : get_or (take i es) k d ≡ get_or es k d = get_or-take i es k d low in
    let other : get_or es i d ≡ get_or es i 0 = get_or_default es i d 0 lt in
    ne_eqb (get_or (take i es) k d * n + t) (get_or es i 0 * n + t) (λ h.
    let same = (same_from_place (get_or (take i es) k d) t (get_or es i 0) t n small small h).0 in
    omega (arith, same, one, other, less)))
  where
    taken : (k : ℕ) → k < length (take i es) → k < i
    taken k within = omega (arith, within, length-take i es)

-- a mark appended for one edge more
pub added : (old now : List (List Mark)) (es : List ℕ) (n t i : ℕ) (mark : Mark) (list : List Mark) → t < n → IsStrictlyIncreasing es → i < length es → get_or es i 0 * n + t < length old → length now ≡ length old →
    AddsMark old (is_list_of (take i es) n t) mark now → list ≡ get_or now (get_or es i 0 * n + t) [] ++ mark ∷ [] → AddsMark old (is_list_of (take (i + 1) es) n t) mark (set now (get_or es i 0 * n + t) list)
added old now es n t i mark list small up lt within long h is k inside = go (get_or es i 0 * n + t == k) refl
  where
    slot : ℕ
    slot = get_or es i 0 * n + t

    more : list_any (λ e. e * n + t == k) (take (i + 1) es) ≡ (list_any (λ e. e * n + t == k) (take i es) || get_or es i 0 * n + t == k)
    more = list_any_more (λ e. e * n + t == k) es i 0 lt

    or_true : (b : Bool) → (b || true) ≡ true
    or_true true = refl
    or_true false = refl

    or_false : (b : Bool) → (b || false) ≡ b
    or_false true = refl
    or_false false = refl

    tail : Bool → List Mark
    tail b = if b then mark ∷ [] else []

    go : (b : Bool) → (get_or es i 0 * n + t == k) ≡ b → get_or (set now (get_or es i 0 * n + t) list) k [] ≡ get_or old k [] ++ (if list_any (λ e. e * n + t == k) (take (i + 1) es) then mark ∷ [] else [])
    go true e =
        let same : get_or es i 0 * n + t ≡ k = eqb-true (get_or es i 0 * n + t) k e in
        let none : list_any (λ q. q * n + t == k) (take i es) ≡ false = subst (λ (j : ℕ). list_any (λ q. q * n + t == j) (take i es) ≡ false) same (not_before n t es i small up lt) in
        let was : get_or now k [] ≡ get_or old k [] = h k inside ∙ ap (λ b. get_or old k [] ++ (if b then mark ∷ [] else [])) none ∙ append-nil (get_or old k []) in
        ap (λ j. get_or (set now j list) k []) same ∙ get_or-set_same now k list [] (omega (arith, inside, long))
        ∙ is ∙ ap (λ j. get_or now j [] ++ mark ∷ []) same ∙ ap (λ q. q ++ mark ∷ []) was
        ∙ sym (ap (λ b. get_or old k [] ++ (if b then mark ∷ [] else [])) (more ∙ ap (λ b. list_any (λ q. q * n + t == k) (take i es) || b) e ∙ or_true (list_any (λ q. q * n + t == k) (take i es))))
    go false e =
        let other : k ≢ get_or es i 0 * n + t = λ q. test_apart (get_or es i 0 * n + t) k e (sym q) in
        get_or-set_other now (get_or es i 0 * n + t) k list [] other ∙ h k inside
        ∙ sym (ap (λ b. get_or old k [] ++ (if b then mark ∷ [] else [])) (more ∙ ap (λ b. list_any (λ q. q * n + t == k) (take i es) || b) e ∙ or_false (list_any (λ q. q * n + t == k) (take i es))))

-- before any event
pub no_marks : (m : MapValue) (table : List (List Mark)) → table ≡ replicate (length (pairs_of m) * tiles_of m) [] → AreMarks m [] table
no_marks m table e = record {
  many = ap length e ∙ length-replicate (length (pairs_of m) * tiles_of m) [];
  each = λ f t a b. ap (λ q. get_or q (f * tiles_of m + t) []) e ∙ get_or-replicate (length (pairs_of m) * tiles_of m) (f * tiles_of m + t) [] [] (mul-add-lt' f (tiles_of m) t (length (pairs_of m)) a b);
}
  where
    mul-add-lt' : (a w b h : ℕ) → a < h → b < w → a * w + b < h * w
    mul-add-lt' a w b h p q = let lt = mul-add-lt a w b h p q in omega (arith, lt)

-- one event more
pub marks_more : (m : MapValue) (before : List Record) (r : Record) (es : List ℕ) (table new : List (List Mark)) → es ≡ edges_of m r → r.tile < tiles_of m → length new ≡ length table →
    AddsMark table (is_list_of es (tiles_of m) r.tile) (mark_of r) new → AreMarks m before table → AreMarks m (before ++ r ∷ []) new
marks_more m before r es table new needs inside long adds k = record {
  many = long ∙ k.many;
  each = λ e t a b.
      let n = tiles_of m in
      adds (e * n + t) (lane_in (length (pairs_of m)) n t e (length table) a b k.many)
      ∙ ap (λ q. q ++ (if list_any (λ f. f * n + r.tile == e * n + t) es then mark_of r ∷ [] else [])) (k.each e t a b)
      ∙ ap (λ c. marks_on m t e before ++ (if c then mark_of r ∷ [] else [])) (any_slot n r.tile e t inside b es ∙ ap (λ (q : List ℕ). r.tile == t && list_any (λ f. f == e) q) needs)
      ∙ ap (λ q. marks_on m t e before ++ q) (one (is_on_edge m t e r))
      ∙ sym (map-append mark_of (filter (is_on_edge m t e) before) (cond (is_on_edge m t e r) (r ∷ []) []))
      ∙ ap (map mark_of) (sym (filter-append (is_on_edge m t e) before (r ∷ [])));
}
  where
    one : (c : Bool) → (if c then mark_of r ∷ [] else []) ≡ map mark_of (cond c (r ∷ []) [])
    one true = refl
    one false = refl

-- the marks of a journal that is accounted for
pub marks_rise : (m : MapValue) (plan : PlanValue) (records : List Record) (abandoned : List Abandoned) → length plan.lists ≡ tiles_of m → IsAccounted m plan records abandoned → (e t : ℕ) → AreRising (marks_on m t e records)
marks_rise m plan records abandoned lists k e t =
    order-pairs Rises (marks_on m t e records) (order-map Rises (λ (r s : Record). (r.attempt < s.attempt) × (r.stamp < s.stamp)) mark_of (filter (is_on_edge m t e) records) (λ r s h. h)
    (order_with (λ (r s : Record). r.tile ≡ s.tile → (r.attempt < s.attempt) × (r.stamp < s.stamp)) (λ (r s : Record). (r.attempt < s.attempt) × (r.stamp < s.stamp)) (filter (is_on_edge m t e) records)
    (λ r s i j h. h (tile_is r i ∙ sym (tile_is s j)))
    (order-filter (λ (r s : Record). r.tile ≡ s.tile → (r.attempt < s.attempt) × (r.stamp < s.stamp)) (is_on_edge m t e) records (events_follow m plan records abandoned lists k))))
  where
    tile_is : (r : Record) → In r (filter (is_on_edge m t e) records) → r.tile ≡ t
    tile_is r i = eqb-true r.tile t (both (r.tile == t) (needs_edge m e r) (filter_in (is_on_edge m t e) records r i).1).0

-- each list of the table rises where those of all tiles and edges do
pub all_rising : (m : MapValue) (records : List Record) (table : List (List Mark)) → 0 < tiles_of m → AreMarks m records table → ((e t : ℕ) → AreRising (marks_on m t e records)) → All AreRising table
all_rising m records table some k rise i d lt =
    let n = tiles_of m in
    let column : i % n < n = column_in i n some in
    let row : i / n < length (pairs_of m) = row_in i n (length (pairs_of m)) some (omega (arith, lt, k.many)) in
    let place : i / n * n + i % n ≡ i = place_is i n some in
    subst AreRising (sym (get_or_default table i d [] lt ∙ ap (λ j. get_or table j []) (sym place) ∙ k.each (i / n) (i % n) row column)) (rise (i / n) (i % n))
  where
    column_in : (i n : ℕ) → 0 < n → i % n < n
    column_in i n some = grind (arith, rows)

    row_in : (i n h : ℕ) → 0 < n → i < h * n → i / n < h
    row_in i n h some lt = grind (arith, rows)

    place_is : (i n : ℕ) → 0 < n → i / n * n + i % n ≡ i
    place_is i n some = grind arith
