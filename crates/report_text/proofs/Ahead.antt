-- Events that owe what a run's do come one behind another, as a report must have them.
use Rattle.std.proofs.Common.{ℕ, zero, suc, ◌≡◌, ◌+◌, ◌*◌, ◌/◌, ◌%◌, ◌<◌, ◌≤◌, ◌==◌, true, ◌&&◌, List, [], ◌∷◌, cond, drop, get_or, length, replicate, Option, Some, None, refl, ap, sym, subst, ◌∙◌, arith, inl, inr, ◌⊎◌, eq-eqb, eqb-true, lt-ltb, ltb-true}
use Rattle.std.proofs.Math.ListN.{set}
use Rattle.std.proofs.Math.Nat.{div-lt_iff_lt-mul, mul_comm}
use Rattle.std.specs.Prelude.{AllPairs, nat_le, nat_lt, slice_get}
use Rattle.std.proofs.lemmas.Bool.{cases_lt}
use Rattle.std.proofs.lemmas.Bool.Decides.{eqb_tells}
use Rattle.std.proofs.lemmas.List.{get_or-set_other, get_or-set_same, set_past}
use Rattle.std.proofs.lemmas.Nat.{rows}
use Rattle.std.proofs.lemmas.List.Sums.{sum_by-cons}
use Rattle.list_laws.proofs.Counts.{count_some}
use Rattle.list_laws.proofs.Members.{In, InOrder, get_in, in_contains}
use Rattle.list_laws.proofs.Tests.{both, together}
use Rattle.cell_grid.specs.declared.record.Record.{Record}
use Rattle.cell_grid.specs.Records.{Precedes}
use Rattle.draw_stream.specs.declared.attempt.Attempt.{Attempt}
use Rattle.draw_stream.specs.Plans.{PlanValue, attempts}
use Rattle.event_journal.specs.Accounts.{IsAccounted, IsEventOf, events_at}
use Rattle.event_journal.specs.Logs.{is_before}
use Rattle.report_text.specs.Reading.{first_of, is_at_home, is_attempt, is_behind, is_site, not_later, record_fault}
use Rattle.event_journal.specs.declared.abandoned.Abandoned.{Abandoned}
use Rattle.event_journal.proofs.Journals.{before_of}
use Rattle.tile_map.specs.Plane.{IsMap, MapValue, is_inside, is_owned, site, site_in, tiles_of}
use Rattle.tile_map.proofs.PlaneLaws.{owner_owned}
use Rattle.report_text.proofs.Bounds.{IsOfPlan, event_of_plan}
use Rattle.report_text.specs.Again.{IsDrawablePlan}
use Rattle.report_text.specs.ReportForm.{Comes, IsInPlace}

-- events of a journal that is accounted for, from some event on
record IsTail (m : MapValue) (plan : PlanValue) (rs : List Record) : Type 0 where
  once : (t i : ℕ) → i < length (attempts plan t) → events_at t i rs ≤ 1
  there : (r : Record) → In r rs → r.attempt < length (attempts plan r.tile)
  order : AllPairs Precedes rs
  rising : (r s : Record) → In r rs → In s rs → r.tile ≡ s.tile → r.attempt < s.attempt → r.stamp < s.stamp

tail_more : (m : MapValue) (plan : PlanValue) (r : Record) (rs : List Record) → IsTail m plan (r ∷ rs) → IsTail m plan rs
tail_more m plan r rs is = record {
  once = λ t i lt. let e = sum_by-cons (λ (s : Record). cond (s.tile == t && s.attempt == i) 1 0) r rs in let o = is.once t i lt in omega (arith, e, o);
  there = λ s i. is.there s (inr i);
  order = λ i j d less lt. is.order (suc i) (suc j) d (omega (arith, less)) (omega (arith, lt));
  rising = λ s u i j. is.rising s u (inr i) (inr j);
}

three_ways : (a b : ℕ) → (a ≡ b) ⊎ ((a < b) ⊎ (b < a))
three_ways a b = grind arith

first_comes : (m : MapValue) (plan : PlanValue) (r : Record) (rs : List Record) → IsTail m plan (r ∷ rs) → (s : Record) → In s rs → Comes r s
first_comes m plan r rs is s i = (before_of r s precedes, later)
  where
    precedes : Precedes r s
    precedes = let p = get_in rs s s i in subst (λ z. Precedes r z) p.2 (is.order 0 (suc p.0) s (omega arith) (omega (arith, p.1)))

    -- they are not one attempt, which would have two events
    not_same : r.tile ≡ s.tile → r.attempt ≡ s.attempt → ⊥
    not_same tile attempt =
        let p = λ (u : Record). u.tile == r.tile && u.attempt == r.attempt in
        let e = sum_by-cons (λ (u : Record). cond (p u) 1 0) r rs in
        let here : p r ≡ true = together _ _ (eq-eqb r.tile r.tile refl) (eq-eqb r.attempt r.attempt refl) in
        let one : ◌≡◌ {A = ℕ} (cond (p r) 1 0) 1 = ap (λ b. cond b 1 0) here in
        let there = count_some p rs s i (together _ _ (eq-eqb s.tile r.tile (sym tile)) (eq-eqb s.attempt r.attempt (sym attempt))) in
        let once = is.once r.tile r.attempt (is.there r (inl refl)) in
        omega (arith, e, one, there, once)

    stamps : Precedes r s → r.tile ≡ s.tile → r.stamp < s.stamp
    stamps (inl less) tile = less
    stamps (inr same) tile = let lt = same.1 in absurd (omega (arith, lt, tile))

    later : r.tile ≡ s.tile → r.attempt < s.attempt
    later tile = elim (three_ways r.attempt s.attempt) [
      | inl same ↦ absurd (not_same tile same)
      | inr other ↦ elim other [
        | inl less ↦ less
        | inr more ↦ absurd (let a = is.rising s r (inr i) (inl refl) (sym tile) more in let b = stamps precedes tile in omega (arith, a, b))
      ]
    ]

tail_comes : (m : MapValue) (plan : PlanValue) (rs : List Record) → IsTail m plan rs → InOrder Comes rs
tail_comes m plan [] is = tt
tail_comes m plan (r ∷ rs) is = (first_comes m plan r rs is, tail_comes m plan rs (tail_more m plan r rs is))

-- each two events of a journal that is accounted for
pub events_come : (m : MapValue) (plan : PlanValue) (records : List Record) (abandoned : List Abandoned) → IsDrawablePlan m plan → IsAccounted m plan records abandoned → InOrder Comes records
events_come m plan records abandoned p accounted = tail_comes m plan records (record {
  once = λ t i lt. let once = accounted.once t i lt in omega (arith, once);
  there = λ r i. let c = get_in records r r i in let e = event_of_plan m plan p records abandoned accounted (get_or records c.0 r) (accounted.events c.0 r c.1) in subst (λ (z : Record). z.attempt < length (attempts plan z.tile)) c.2 e.attempt;
  order = accounted.order;
  rising = λ r s i j. accounted.rising r s (in_contains records r i) (in_contains records s j);
})

-- where the reader of a report stands before some events: each may come behind the one before, and behind its tile's last
pub record IsAhead (before : Option Record) (lasts : List (Option (ℕ × ℕ))) (rs : List Record) : Type 0 where
  pub behind : (p : Record) → before ≡ Some p → (r : Record) → In r rs → is_before p r ≡ true
  pub later : (t : ℕ) (q : ℕ × ℕ) → get_or lasts t None ≡ Some q → (r : Record) → In r rs → r.tile ≡ t → q.1 < r.attempt

none_there : (n t : ℕ) → ◌≡◌ {A = Option (ℕ × ℕ)} (get_or (replicate n None) t None) None
none_there zero t = refl
none_there (suc n) zero = refl
none_there (suc n) (suc t) = none_there n t

pub start_ahead : (n : ℕ) (rs : List Record) → IsAhead None (replicate n None) rs
start_ahead n rs = record {
  behind = λ p e r i. cc e;
  later = λ t q e r i tile. cc (none_there n t, e);
}

pub ahead_more : (n : ℕ) (before : Option Record) (lasts : List (Option (ℕ × ℕ))) (r : Record) (rs : List Record) → IsAhead before lasts (r ∷ rs) → InOrder Comes (r ∷ rs) → IsAhead (Some r) (set lasts r.tile (Some (n, r.attempt))) rs
ahead_more n before lasts r rs is order = record {
  behind = λ p e s i. let same : r ≡ p = cc e in subst (λ (z : Record). is_before z s ≡ true) same (order.0 s i).0;
  later = λ t q e s i tile. elim (eqb_tells t r.tile) [
    | inl same ↦ elim (cases_lt r.tile (length lasts)) [
      | inl inside ↦
          let here : Some (n, r.attempt) ≡ Some q = sym (ap (λ k. get_or (set lasts r.tile (Some (n, r.attempt))) k None) same.1 ∙ get_or-set_same lasts r.tile (Some (n, r.attempt)) None inside) ∙ e in
          let number : r.attempt ≡ q.1 = cc here in
          let less = (order.0 s i).1 (sym same.1 ∙ sym tile) in
          omega (arith, number, less)
      | inr past ↦ is.later t q (ap (λ ls. get_or ls t None) (sym (set_past lasts r.tile (Some (n, r.attempt)) past)) ∙ e) s (inr i) tile
    ]
    | inr other ↦ is.later t q (sym (get_or-set_other lasts r.tile t (Some (n, r.attempt)) None other.1) ∙ e) s (inr i) tile
  ];
}

first_at : (list : List Attempt) (i : ℕ) (a : Attempt) → slice_get list i ≡ Some a → first_of (drop i list) ≡ Some a
first_at [] i a h = cc h
first_at (x ∷ list) zero a h = h
first_at (x ∷ list) (suc i) a h = first_at list i a h

pub in_place : (m : MapValue) (plan : PlanValue) (r : Record) (e : IsEventOf m plan r) → IsOfPlan m plan r.tile r.attempt r.x r.y e.0 → 1 ≤ r.stamp → IsInPlace m plan r
in_place m plan r e is some = record {
  some = some;
  on_plane = together _ _ (lt-ltb _ _ is.column) (lt-ltb _ _ is.row);
  owner = is.owner;
  event = e;
}

-- the position of a site in its tile's rectangle
centre_low : (m : MapValue) (plan : PlanValue) (r : Record) → IsMap m → (is : IsInPlace m plan r) → is.event.0.centre < m.w * m.h
centre_low m plan r map is =
    let s = site r.x r.y in
    let k = is.event.0.centre in
    let owned = subst (λ t. is_owned m t s ≡ true) is.owner (owner_owned m map s is.on_plane) in
    let inside = both (nat_le (r.tile / m.tx * m.h) r.y) (nat_lt r.y ((r.tile / m.tx + 1) * m.h)) (both (is_inside m.w (r.tile % m.tx) r.x) (is_inside m.h (r.tile / m.tx) r.y) (both (nat_lt r.tile (tiles_of m)) _ owned).1).1 in
    let row : r.y ≡ r.tile / m.tx * m.h + k / m.w = ap (λ z. z.y) is.event.2 in
    let below = ltb-true r.y ((r.tile / m.tx + 1) * m.h) inside.1 in
    let rows : k / m.w < m.h = rows_low (r.tile / m.tx) m.h (k / m.w) r.y row below in
    let some : 1 ≤ m.w = let low = map.sizes.w_low in omega (arith, low) in
    low_position k m.w m.h some rows
  where
    rows_low : (a h b y : ℕ) → y ≡ a * h + b → y < (a + 1) * h → b < h
    rows_low a h b y is less = grind (arith, rows)

    low_position : (k w h : ℕ) → 1 ≤ w → k / w < h → k < w * h
    low_position k w h some less = let low = (div-lt_iff_lt-mul {k = w} {x = k} {y = h} some).0 less in subst (λ z. k < z) (mul_comm h w) low

-- it is found as its tile's attempt
attempt_true : (m : MapValue) (plan : PlanValue) (r : Record) → IsMap m → IsInPlace m plan r → is_attempt m (first_of (drop r.attempt (attempts plan r.tile))) r ≡ true
attempt_true m plan r map is =
    let e = is.event in
    let a = e.0 in
    let s = site_in m r.tile a.centre in
    let x : s.x ≡ r.x = ap (λ z. z.x) (sym e.2) in
    let y : s.y ≡ r.y = ap (λ z. z.y) (sym e.2) in
    ap (λ o. is_attempt m o r) (first_at (attempts plan r.tile) r.attempt a e.1)
    ∙ together _ _ (lt-ltb _ _ (centre_low m plan r map is)) (together _ _ (together _ _ (eq-eqb _ _ x) (eq-eqb _ _ y)) (eq-eqb _ _ (sym e.3)))

-- what is found as a tile's attempt is one of its plan
pub found_event : (m : MapValue) (list : List Attempt) (i : ℕ) (r : Record) → is_attempt m (first_of (drop i list)) r ≡ true →
    (a : Attempt) × (slice_get list i ≡ Some a) × (site r.x r.y ≡ site_in m r.tile a.centre) × (r.seed ≡ a.seed)
found_event m [] zero r h = cc h
found_event m [] (suc i) r h = cc h
found_event m (a ∷ list) zero r h =
    let s = site_in m r.tile a.centre in
    let p = both (is_site s r.x r.y) (a.seed == r.seed) (both (nat_lt a.centre (m.w * m.h)) _ h).1 in
    let q = both (s.x == r.x) (s.y == r.y) p.0 in
    let x = eqb-true s.x r.x q.0 in
    let y = eqb-true s.y r.y q.1 in
    (a, refl, (λ j. site (sym x j) (sym y j)), sym (eqb-true a.seed r.seed p.1))
found_event m (a ∷ list) (suc i) r h = found_event m list i r h

behind_true : (before : Option Record) (lasts : List (Option (ℕ × ℕ))) (r : Record) (rs : List Record) → 1 ≤ r.stamp → IsAhead before lasts (r ∷ rs) → is_behind before r ≡ true
behind_true None lasts r rs some is = le_true 1 r.stamp some
  where
    le_true : (a b : ℕ) → a ≤ b → nat_le a b ≡ true
    le_true a b h = grind arith
behind_true (Some p) lasts r rs some is = is.behind p refl r (inl refl)

none_later : (o : Option (ℕ × ℕ)) (attempt : ℕ) → ((q : ℕ × ℕ) → o ≡ Some q → q.1 < attempt) → not_later o attempt ≡ None
none_later None attempt less = refl
none_later (Some q) attempt less = rw (lt-ltb q.1 attempt (less q refl)) refl

-- the line of such an event has no fault
pub no_fault : (m : MapValue) (plan : PlanValue) (n : ℕ) (before : Option Record) (lasts : List (Option (ℕ × ℕ))) (r : Record) (rs : List Record) → IsMap m → IsInPlace m plan r → IsAhead before lasts (r ∷ rs) →
    record_fault m n before (get_or lasts r.tile None) (get_or plan.lists r.tile []) r ≡ None
unfolding record_fault
no_fault m plan n before lasts r rs map is ahead =
    let home : is_at_home m r ≡ true = together _ _ is.on_plane (eq-eqb _ _ is.owner) in
    let behind = behind_true before lasts r rs is.some ahead in
    let later = none_later (get_or lasts r.tile None) r.attempt (λ q e. ahead.later r.tile q e r (inl refl) refl) in
    rw (behind, later, home, attempt_true m plan r map is) refl
