-- What the tests of the entries say together.
use Rattle.std.proofs.Common.{ℕ, ◌≡◌, ◌≤◌, ◌<◌, ◌==◌, List, [], ◌∷◌, All, AllPairs, refl, sym, ap, subst, arith, ◌⊎◌, inl, inr, ⊎_elim, true, ◌&&◌, ◌∙◌, length, eq-eqb, eqb-true}
use Rattle.std.proofs.lemmas.Bool.{cases_lt}
use Rattle.std.proofs.lemmas.Bool.Decides.{nat_tests}
use Rattle.std.proofs.lemmas.Option.{slice_get_within}
use Rattle.std.proofs.lemmas.List.{get_or_past}
use Rattle.list_laws.proofs.Members.{In, InOrder, in_filter, filter_in, order-filter, pairs_order, contains_in, in_contains, in_all}
use Rattle.cell_grid.specs.Records.{Precedes}
use Rattle.cell_grid.specs.declared.record.Record.{Record}
use Rattle.draw_stream.specs.Plans.{PlanValue, attempts}
use Rattle.tile_map.specs.Plane.{MapValue, tiles_of}
use Rattle.event_journal.specs.Accounts.{IsAccounted, IsEventOf, IsGivenUpOf, events_at}
use Rattle.event_journal.specs.Logs.{ComesBefore, of_tile, abandoned_by}
use Rattle.event_journal.specs.declared.abandoned.Abandoned.{Abandoned}
use Rattle.journal_check.specs.Entries.{are_entries}
use Rattle.journal_check.proofs.Lists.{all_in, count_filter, count_less, count_two, order_both, order_two, order_with}
use Rattle.journal_check.proofs.TileEntries.{EventIn, IsAbandonedIn, AreEntries, entries_from, entries_are}

-- what is tested: both lists are in order, all entries are of tiles, and each tile's are its attempts
pub record AreTested (m : MapValue) (plan : PlanValue) (records : List Record) (abandoned : List Abandoned) : Type 0 where
  pub order : AllPairs Precedes records
  pub sorted : AllPairs ComesBefore abandoned
  pub tiles : All (λ (r : Record). r.tile < tiles_of m) records
  pub gone_tiles : All (λ (g : Abandoned). g.tile < tiles_of m) abandoned
  pub each : (t : ℕ) → t < tiles_of m → are_entries m t 0 (attempts plan t) (of_tile t records) (abandoned_by t abandoned) ≡ true

module _ (m : MapValue) (plan : PlanValue) (records : List Record) (abandoned : List Abandoned) (lists : length plan.lists ≡ tiles_of m) where
  in_tile : (t : ℕ) (r : Record) → In r (of_tile t records) → In r records × (r.tile ≡ t)
  in_tile t r i = let f = filter_in (λ (s : Record). s.tile == t) records r i in (f.0, eqb-true r.tile t f.1)

  in_gone : (t : ℕ) (g : Abandoned) → In g (abandoned_by t abandoned) → In g abandoned × (g.tile ≡ t)
  in_gone t g i = let f = filter_in (λ (s : Abandoned). s.tile == t) abandoned g i in (f.0, eqb-true g.tile t f.1)

  of_its : (r : Record) → In r records → In r (of_tile r.tile records)
  of_its r i = in_filter (λ (s : Record). s.tile == r.tile) records r i (eq-eqb r.tile r.tile refl)

  gone_its : (g : Abandoned) → In g abandoned → In g (abandoned_by g.tile abandoned)
  gone_its g i = in_filter (λ (s : Abandoned). s.tile == g.tile) abandoned g i (eq-eqb g.tile g.tile refl)

  -- a tile with attempts is one of the map
  has_tile : (t : ℕ) (i : ℕ) → i < length (attempts plan t) → t < tiles_of m
  has_tile t i lt = elim (cases_lt t (length plan.lists)) [
    | inl inside ↦ omega (arith, inside, lists)
    | inr past ↦ let none : length (attempts plan t) ≡ 0 = ap length (get_or_past plan.lists t [] past) in absurd (omega (arith, lt, none))
  ]

  stamps_rise : (r s : Record) → Precedes r s → r.tile ≡ s.tile → r.stamp < s.stamp
  stamps_rise r s (inl lt) e = lt
  stamps_rise r s (inr p) e = absurd (omega (arith, p.1, e))

  pub accounted : AreTested m plan records abandoned → IsAccounted m plan records abandoned
  accounted k = record {
    once = λ t i lt.
        let q = (entries t (has_tile t i lt)).once i (omega arith) lt in
        let e = count_filter (λ (r : Record). r.tile == t) (λ (r : Record). r.attempt == i) records in
        let f = count_filter (λ (g : Abandoned). g.tile == t) (λ (g : Abandoned). g.attempt == i) abandoned in
        omega (arith, q, e, f);
    events = in_all (IsEventOf m plan) records (λ r i. (entries r.tile (all_in (λ (s : Record). s.tile < tiles_of m) records k.tiles r i)).events r (of_its r i));
    given_up = in_all (IsGivenUpOf m plan) abandoned (λ g i. (entries g.tile (all_in (λ (s : Abandoned). s.tile < tiles_of m) abandoned k.gone_tiles g i)).gone g (gone_its g i));
    order = k.order;
    abandoned_order = k.sorted;
    rising = λ r s c d e lt. rises r s (contains_in records r c) (contains_in records s d) e lt;
  }
    where
      entries : (t : ℕ) → t < tiles_of m → AreEntries m (attempts plan t) t 0 (of_tile t records) (abandoned_by t abandoned)
      entries t lt = entries_are m (attempts plan t) t 0 (attempts plan t) (of_tile t records) (abandoned_by t abandoned) refl (k.each t lt)

      rises : (r s : Record) → In r records → In s records → r.tile ≡ s.tile → r.attempt < s.attempt → r.stamp < s.stamp
      rises r s i j e lt =
          let t = r.tile in
          let there : In s (of_tile t records) = in_filter (λ (q : Record). q.tile == t) records s j (eq-eqb s.tile t (sym e)) in
          let of_tile_r = entries t (all_in (λ (q : Record). q.tile < tiles_of m) records k.tiles r i) in
          let o = order_both Precedes (λ (a b : Record). a.attempt < b.attempt) (of_tile t records) (order-filter Precedes (λ (q : Record). q.tile == t) records (pairs_order Precedes records k.order)) of_tile_r.rising in
          ⊎_elim {C = r.stamp < s.stamp} (λ (same : r ≡ s). absurd (omega (arith, lt, ap (λ (q : Record). q.attempt) same)))
          (λ w. ⊎_elim {C = r.stamp < s.stamp} (λ (p : Precedes r s × (r.attempt < s.attempt)). stamps_rise r s p.0 e) (λ (p : Precedes s r × (s.attempt < r.attempt)). absurd (omega (arith, lt, p.1))) w)
          (order_two (λ (a b : Record). Precedes a b × (a.attempt < b.attempt)) (of_tile t records) r s o (of_its r i) there)

  less_or : (a b : ℕ) → (a < b) ⊎ ((a ≡ b) ⊎ (b < a))
  less_or a b = grind arith

  two_tests : (a b c d : ℕ) → a ≡ b → c ≡ d → (a == b && c == d) ≡ true
  two_tests a b c d e f = grind (arith, nat_tests)

  -- of two events of a tile the one that stands before is the earlier attempt
  rise_from : IsAccounted m plan records abandoned → (rs : List Record) → ((r : Record) → In r rs → In r records) → InOrder Precedes rs → ((t i : ℕ) → i < length (attempts plan t) → events_at t i rs ≤ 1) →
      InOrder (λ (r s : Record). r.tile ≡ s.tile → r.attempt < s.attempt) rs
  rise_from k [] of o few = tt
  rise_from k (r ∷ rs) of o few = (
    (λ s j e. ⊎_elim {C = r.attempt < s.attempt} (λ (lt : r.attempt < s.attempt). lt) (λ w. ⊎_elim {C = r.attempt < s.attempt}
        (λ (same : r.attempt ≡ s.attempt).
        let ev = all_in (IsEventOf m plan) records k.events r (of r (inl refl)) in
        let n = count_two (λ (q : Record). q.tile == r.tile && q.attempt == r.attempt) r rs s j
        (two_tests r.tile r.tile r.attempt r.attempt refl refl) (two_tests s.tile r.tile s.attempt r.attempt (sym e) (sym same)) in
        absurd (omega (arith, n, few r.tile r.attempt (slice_get_within (attempts plan r.tile) r.attempt ev.0 ev.1))))
        (λ (more : s.attempt < r.attempt).
        let up = stamps_rise r s (o.0 s j) e in
        let down = k.rising s r (in_contains records s (of s (inr j))) (in_contains records r (of r (inl refl))) (sym e) more in
        absurd (omega (arith, up, down))) w) (less_or r.attempt s.attempt)),
    rise_from k rs (λ q j. of q (inr j)) o.1 (λ t i lt. let f = few t i lt in let c = count_less (λ (q : Record). q.tile == t && q.attempt == i) r rs in omega (arith, f, c)),
  )

  pub events_rise : IsAccounted m plan records abandoned → InOrder (λ (r s : Record). r.tile ≡ s.tile → r.attempt < s.attempt) records
  events_rise k = rise_from k records (λ r i. i) (pairs_order Precedes records k.order) (λ t i lt. let o = k.once t i lt in omega (arith, o))

  -- and it has the smaller stamp
  pub events_follow : IsAccounted m plan records abandoned → InOrder (λ (r s : Record). r.tile ≡ s.tile → (r.attempt < s.attempt) × (r.stamp < s.stamp)) records
  events_follow k =
      order_with (λ (r s : Record). (r.tile ≡ s.tile → r.attempt < s.attempt) × Precedes r s) (λ (r s : Record). r.tile ≡ s.tile → (r.attempt < s.attempt) × (r.stamp < s.stamp)) records
      (λ r s i j h e. (h.0 e, stamps_rise r s h.1 e))
      (order_both (λ (r s : Record). r.tile ≡ s.tile → r.attempt < s.attempt) Precedes records (events_rise k) (pairs_order Precedes records k.order))

  pub tested : IsAccounted m plan records abandoned → AreTested m plan records abandoned
  tested k = record {
    order = k.order;
    sorted = k.abandoned_order;
    tiles = in_all (λ (r : Record). r.tile < tiles_of m) records (λ r i. let e = event r i in has_tile r.tile r.attempt (slice_get_within (attempts plan r.tile) r.attempt e.0 e.1));
    gone_tiles = in_all (λ (g : Abandoned). g.tile < tiles_of m) abandoned (λ g i. let e = given g i in has_tile g.tile g.attempt (slice_get_within (attempts plan g.tile) g.attempt e.0 e.1));
    each = λ t lt. entries_from m (attempts plan t) t 0 (attempts plan t) (of_tile t records) (abandoned_by t abandoned) refl (entries t);
  }
    where
      event : (r : Record) → In r records → IsEventOf m plan r
      event r i = all_in (IsEventOf m plan) records k.events r i

      given : (g : Abandoned) → In g abandoned → IsGivenUpOf m plan g
      given g i = all_in (IsGivenUpOf m plan) abandoned k.given_up g i

      entries : (t : ℕ) → AreEntries m (attempts plan t) t 0 (of_tile t records) (abandoned_by t abandoned)
      entries t = record {
        from = λ r i. omega arith;
        from_gone = λ g i. omega arith;
        events = λ r i. let f = in_tile t r i in subst (λ u. EventIn m (attempts plan u) u r) f.1 (event r f.0);
        gone = λ g i. let f = in_gone t g i in subst (λ u. IsAbandonedIn m (attempts plan u) u g) f.1 (given g f.0);
        once = λ i low high.
            let q = k.once t i high in
            let e = count_filter (λ (r : Record). r.tile == t) (λ (r : Record). r.attempt == i) records in
            let f = count_filter (λ (g : Abandoned). g.tile == t) (λ (g : Abandoned). g.attempt == i) abandoned in
            omega (arith, q, e, f);
        rising = order_with (λ (r s : Record). r.tile ≡ s.tile → r.attempt < s.attempt) (λ (r s : Record). r.attempt < s.attempt) (of_tile t records)
            (λ r s i j h. h ((in_tile t r i).1 ∙ sym (in_tile t s j).1)) (order-filter (λ (r s : Record). r.tile ≡ s.tile → r.attempt < s.attempt) (λ (q : Record). q.tile == t) records (events_rise k));
        rising_gone = order_with ComesBefore (λ (g h : Abandoned). g.attempt < h.attempt) (abandoned_by t abandoned)
            (λ g h i j w. below g h ((in_gone t g i).1 ∙ sym (in_gone t h j).1) w) (order-filter ComesBefore (λ (q : Abandoned). q.tile == t) abandoned (pairs_order ComesBefore abandoned k.abandoned_order));
      }
        where
          below : (g h : Abandoned) → g.tile ≡ h.tile → ComesBefore g h → g.attempt < h.attempt
          below g h e (inl lt) = absurd (omega (arith, lt, e))
          below g h e (inr p) = p.1
