-- The entries of a tile beside its attempts: what the test says of them.
use Rattle.std.proofs.Common.{ℕ, suc, ◌≡◌, ◌≢◌, ◌≤◌, ◌<◌, ◌+◌, ◌==◌, List, [], ◌∷◌, refl, sym, ap, subst, arith, inl, inr, ⊎_elim, Bool, true, false, ◌&&◌, ◌∙◌, length, drop, get_or, count_by, Some, length-drop, eq-eqb, eqb-true, ne_eqb}
use Rattle.std.specs.Prelude.{slice_get, if◌then◌else◌}
use Rattle.std.proofs.lemmas.Bool.Decides.{nat_tests}
use Rattle.std.proofs.lemmas.List.{drop_more}
use Rattle.std.proofs.lemmas.Option.{same_Some, slice_get-get_or, slice_get_within}
use Rattle.list_laws.proofs.Counts.{count_none, count_some, count_yes, count_no}
use Rattle.list_laws.proofs.Numbers.{same_or_more}
use Rattle.list_laws.proofs.Members.{In, InOrder}
use Rattle.list_laws.proofs.Tests.{both, together}
use Rattle.cell_grid.specs.declared.record.Record.{Record}
use Rattle.draw_stream.specs.declared.attempt.Attempt.{Attempt}
use Rattle.tile_map.specs.Plane.{MapValue, Site, site, site_in}
use Rattle.event_journal.specs.declared.abandoned.Abandoned.{Abandoned}
use Rattle.journal_check.specs.Entries.{is_at, is_event, next_entry, next_abandoned, are_entries}

-- an event of an attempt of these, and an attempt of these that was given up
abbrev pub EventIn : MapValue → List Attempt → ℕ → Record → Type 0
EventIn m list t r = (a : Attempt) × (slice_get list r.attempt ≡ Some a) × (site r.x r.y ≡ site_in m t a.centre) × (r.seed ≡ a.seed)

abbrev pub IsAbandonedIn : MapValue → List Attempt → ℕ → Abandoned → Type 0
IsAbandonedIn m list t g = (a : Attempt) × (slice_get list g.attempt ≡ Some a) × (site g.x g.y ≡ site_in m t a.centre)

abbrev pub at : ℕ → List Record → ℕ
at k rs = count_by (λ (r : Record). r.attempt == k) rs

abbrev pub gone_at : ℕ → List Abandoned → ℕ
gone_at k gs = count_by (λ (g : Abandoned). g.attempt == k) gs

-- the attempts from number i on have one entry each, and there are no others
pub record AreEntries (m : MapValue) (list : List Attempt) (t i : ℕ) (rs : List Record) (gs : List Abandoned) : Type 0 where
  pub from : (r : Record) → In r rs → i ≤ r.attempt
  pub from_gone : (g : Abandoned) → In g gs → i ≤ g.attempt
  pub events : (r : Record) → In r rs → EventIn m list t r
  pub gone : (g : Abandoned) → In g gs → IsAbandonedIn m list t g
  pub once : (k : ℕ) → i ≤ k → k < length list → at k rs + gone_at k gs ≡ 1
  pub rising : InOrder (λ (r s : Record). r.attempt < s.attempt) rs
  pub rising_gone : InOrder (λ (g h : Abandoned). g.attempt < h.attempt) gs

test_apart : (a b : ℕ) → (a == b) ≡ false → a ≢ b
test_apart a b e = grind (arith, nat_tests)

site_at : (m : MapValue) (t c x y : ℕ) → is_at m t c x y ≡ true → site x y ≡ site_in m t c
site_at m t c x y h =
    let p = both ((site_in m t c).x == x) ((site_in m t c).y == y) h in
    let a : x ≡ (site_in m t c).x = sym (eqb-true (site_in m t c).x x p.0) in
    let b : y ≡ (site_in m t c).y = sym (eqb-true (site_in m t c).y y p.1) in
    λ i. record { x = a i; y = b i }

at_site : (m : MapValue) (t c x y : ℕ) → site x y ≡ site_in m t c → is_at m t c x y ≡ true
at_site m t c x y e =
    together ((site_in m t c).x == x) ((site_in m t c).y == y)
    (eq-eqb (site_in m t c).x x (sym (ap (λ (s : Site). s.x) e)))
    (eq-eqb (site_in m t c).y y (sym (ap (λ (s : Site). s.y) e)))

-- the first attempt that is left
pub record IsNext (list : List Attempt) (i : ℕ) (a : Attempt) (rest : List Attempt) : Type 0 where
  pub here : slice_get list i ≡ Some a
  pub rest_is : drop (i + 1) list ≡ rest
  pub less : i < length list

next_is : (list : List Attempt) (i : ℕ) (a : Attempt) (rest : List Attempt) → drop i list ≡ a ∷ rest → IsNext list i a rest
next_is list i a rest is =
    let some : length (drop i list) ≡ suc (length rest) = ap length is in
    let less : i < length list = omega (arith, some, length-drop i list) in
    let e = sym is ∙ drop_more list i a less in
    record {
      here = slice_get-get_or list i a less ∙ ap Some (let s : get_or list i a ≡ a = cc in s);
      rest_is = cc;
      less = less;
    }

module _ (m : MapValue) (list : List Attempt) (t : ℕ) where
  -- one more entry before those of the attempts after it
  event_more : (i : ℕ) (r : Record) (rs : List Record) (gs : List Abandoned) → r.attempt ≡ i → EventIn m list t r → AreEntries m list t (i + 1) rs gs → AreEntries m list t i (r ∷ rs) gs
  event_more i r rs gs e of k = record {
    from = λ s j. ⊎_elim {C = i ≤ s.attempt} (λ (f : s ≡ r). omega (arith, ap (λ (q : Record). q.attempt) f, e)) (λ l. omega (arith, k.from s l)) j;
    from_gone = λ g j. omega (arith, k.from_gone g j);
    events = λ s j. ⊎_elim {C = EventIn m list t s} (λ (f : s ≡ r). subst (EventIn m list t) (sym f) of) (λ l. k.events s l) j;
    gone = k.gone;
    once = λ n low high. ⊎_elim {C = at n (r ∷ rs) + gone_at n gs ≡ 1}
        (λ (f : n ≡ i).
        let yes = count_yes (λ (s : Record). s.attempt == n) r rs (eq-eqb r.attempt n (e ∙ sym f)) in
        let none = count_none (λ (s : Record). s.attempt == n) rs (λ s j. ne_eqb s.attempt n (λ (q : s.attempt ≡ n). omega (arith, q, f, k.from s j))) in
        let none' = count_none (λ (s : Abandoned). s.attempt == n) gs (λ s j. ne_eqb s.attempt n (λ (q : s.attempt ≡ n). omega (arith, q, f, k.from_gone s j))) in
        omega (arith, yes, none, none'))
        (λ (l : i + 1 ≤ n).
        let no = count_no (λ (s : Record). s.attempt == n) r rs (ne_eqb r.attempt n (λ (q : r.attempt ≡ n). omega (arith, q, e, l))) in
        omega (arith, no, k.once n l high)) (same_or_more i n low);
    rising = ((λ s j. omega (arith, e, k.from s j)), k.rising);
    rising_gone = k.rising_gone;
  }

  gone_more : (i : ℕ) (g : Abandoned) (rs : List Record) (gs : List Abandoned) → g.attempt ≡ i → IsAbandonedIn m list t g → AreEntries m list t (i + 1) rs gs → AreEntries m list t i rs (g ∷ gs)
  gone_more i g rs gs e of k = record {
    from = λ s j. omega (arith, k.from s j);
    from_gone = λ s j. ⊎_elim {C = i ≤ s.attempt} (λ (f : s ≡ g). omega (arith, ap (λ (q : Abandoned). q.attempt) f, e)) (λ l. omega (arith, k.from_gone s l)) j;
    events = k.events;
    gone = λ s j. ⊎_elim {C = IsAbandonedIn m list t s} (λ (f : s ≡ g). subst (IsAbandonedIn m list t) (sym f) of) (λ l. k.gone s l) j;
    once = λ n low high. ⊎_elim {C = at n rs + gone_at n (g ∷ gs) ≡ 1}
        (λ (f : n ≡ i).
        let yes = count_yes (λ (s : Abandoned). s.attempt == n) g gs (eq-eqb g.attempt n (e ∙ sym f)) in
        let none = count_none (λ (s : Record). s.attempt == n) rs (λ s j. ne_eqb s.attempt n (λ (q : s.attempt ≡ n). omega (arith, q, f, k.from s j))) in
        let none' = count_none (λ (s : Abandoned). s.attempt == n) gs (λ s j. ne_eqb s.attempt n (λ (q : s.attempt ≡ n). omega (arith, q, f, k.from_gone s j))) in
        omega (arith, yes, none, none'))
        (λ (l : i + 1 ≤ n).
        let no = count_no (λ (s : Abandoned). s.attempt == n) g gs (ne_eqb g.attempt n (λ (q : g.attempt ≡ n). omega (arith, q, e, l))) in
        omega (arith, no, k.once n l high)) (same_or_more i n low);
    rising = k.rising;
    rising_gone = ((λ s j. omega (arith, e, k.from_gone s j)), k.rising_gone);
  }

  -- those behind the first entry
  event_less : (i : ℕ) (r : Record) (rs : List Record) (gs : List Abandoned) → r.attempt ≡ i → i < length list → AreEntries m list t i (r ∷ rs) gs → AreEntries m list t (i + 1) rs gs
  event_less i r rs gs e less k = record {
    from = λ s j. omega (arith, k.rising.0 s j, e);
    from_gone = λ g j. ⊎_elim {C = i + 1 ≤ g.attempt}
        (λ (f : g.attempt ≡ i).
        let yes = count_yes (λ (s : Record). s.attempt == i) r rs (eq-eqb r.attempt i e) in
        let some = count_some (λ (s : Abandoned). s.attempt == i) gs g j (eq-eqb g.attempt i f) in
        absurd (omega (arith, yes, some, k.once i (omega arith) less)))
        (λ l. l) (same_or_more i g.attempt (k.from_gone g j));
    events = λ s j. k.events s (inr j);
    gone = k.gone;
    once = λ n low high.
        let no = count_no (λ (s : Record). s.attempt == n) r rs (ne_eqb r.attempt n (λ (q : r.attempt ≡ n). omega (arith, q, e, low))) in
        omega (arith, no, k.once n (omega (arith, low)) high);
    rising = k.rising.1;
    rising_gone = k.rising_gone;
  }

  gone_less : (i : ℕ) (g : Abandoned) (rs : List Record) (gs : List Abandoned) → g.attempt ≡ i → i < length list → AreEntries m list t i rs (g ∷ gs) → AreEntries m list t (i + 1) rs gs
  gone_less i g rs gs e less k = record {
    from = λ s j. ⊎_elim {C = i + 1 ≤ s.attempt}
        (λ (f : s.attempt ≡ i).
        let yes = count_yes (λ (q : Abandoned). q.attempt == i) g gs (eq-eqb g.attempt i e) in
        let some = count_some (λ (q : Record). q.attempt == i) rs s j (eq-eqb s.attempt i f) in
        absurd (omega (arith, yes, some, k.once i (omega arith) less)))
        (λ l. l) (same_or_more i s.attempt (k.from s j));
    from_gone = λ s j. omega (arith, k.rising_gone.0 s j, e);
    events = k.events;
    gone = λ s j. k.gone s (inr j);
    once = λ n low high.
        let no = count_no (λ (s : Abandoned). s.attempt == n) g gs (ne_eqb g.attempt n (λ (q : g.attempt ≡ n). omega (arith, q, e, low))) in
        omega (arith, no, k.once n (omega (arith, low)) high);
    rising = k.rising;
    rising_gone = k.rising_gone.1;
  }

  -- no event is attempt i: the first that was given up is
  pub gone_first : (i : ℕ) (rs : List Record) (gs : List Abandoned) → AreEntries m list t i rs gs → i < length list → ((r : Record) → In r rs → r.attempt ≢ i) →
      (g : Abandoned) × (more : List Abandoned) × (gs ≡ g ∷ more) × (g.attempt ≡ i)
  gone_first i rs [] k less none =
      let no = count_none (λ (s : Record). s.attempt == i) rs (λ s j. ne_eqb s.attempt i (none s j)) in
      absurd (omega (arith, no, k.once i (omega arith) less))
  gone_first i rs (g ∷ gs) k less none = ⊎_elim {C = (h : Abandoned) × (more : List Abandoned) × (g ∷ gs ≡ h ∷ more) × (h.attempt ≡ i)}
      (λ (e : g.attempt ≡ i). (g, gs, refl, e))
      (λ (l : i + 1 ≤ g.attempt).
      let no = count_none (λ (s : Record). s.attempt == i) rs (λ s j. ne_eqb s.attempt i (none s j)) in
      let no' = count_no (λ (s : Abandoned). s.attempt == i) g gs (ne_eqb g.attempt i (λ (q : g.attempt ≡ i). omega (arith, q, l))) in
      let none' = count_none (λ (s : Abandoned). s.attempt == i) gs (λ s j. ne_eqb s.attempt i (λ (q : s.attempt ≡ i). omega (arith, q, l, k.rising_gone.0 s j))) in
      absurd (omega (arith, no, no', none', k.once i (omega arith) less)))
      (same_or_more i g.attempt (k.from_gone g (inl refl)))

  -- what the test of one entry says
  next_abandoned_is : (i : ℕ) (a : Attempt) (rs : List Record) (gs : List Abandoned) (rest : List Abandoned → Bool) → slice_get list i ≡ Some a → next_abandoned m t i a gs rest ≡ true →
      ((more : List Abandoned) → rest more ≡ true → AreEntries m list t (i + 1) rs more) → AreEntries m list t i rs gs
  next_abandoned_is i a rs [] rest here h of_rest = cc
  next_abandoned_is i a rs (g ∷ gs) rest here h of_rest =
      let p = both (g.attempt == i && is_at m t a.centre g.x g.y) (rest gs) h in
      let q = both (g.attempt == i) (is_at m t a.centre g.x g.y) p.0 in
      let e = eqb-true g.attempt i q.0 in
      gone_more i g rs gs e (a, ap (slice_get list) e ∙ here, site_at m t a.centre g.x g.y q.1) (of_rest gs p.1)

  next_entry_is : (i : ℕ) (a : Attempt) (rs : List Record) (gs : List Abandoned) (rest : List Record → List Abandoned → Bool) → slice_get list i ≡ Some a → next_entry m t i a rs gs rest ≡ true →
      ((others : List Record) (more : List Abandoned) → rest others more ≡ true → AreEntries m list t (i + 1) others more) → AreEntries m list t i rs gs
  next_entry_is i a [] gs rest here h of_rest = next_abandoned_is i a [] gs (rest []) here h (of_rest [])
  next_entry_is i a (r ∷ rs) gs rest here h of_rest = go (r.attempt == i) refl h
    where
      go : (b : Bool) → (r.attempt == i) ≡ b → (if b then is_event m t a r && rest rs gs else next_abandoned m t i a gs (rest (r ∷ rs))) ≡ true → AreEntries m list t i (r ∷ rs) gs
      go true is q =
          let p = both (is_event m t a r) (rest rs gs) q in
          let of = both (is_at m t a.centre r.x r.y) (a.seed == r.seed) p.0 in
          let e = eqb-true r.attempt i is in
          event_more i r rs gs e (a, ap (slice_get list) e ∙ here, site_at m t a.centre r.x r.y of.0, sym (eqb-true a.seed r.seed of.1)) (of_rest rs gs p.1)
      go false is q = next_abandoned_is i a (r ∷ rs) gs (rest (r ∷ rs)) here q (of_rest (r ∷ rs))

  pub entries_are : (i : ℕ) (left : List Attempt) (rs : List Record) (gs : List Abandoned) → drop i list ≡ left → are_entries m t i left rs gs ≡ true → AreEntries m list t i rs gs
  unfolding are_entries
  entries_are i [] [] [] is h =
      let none : length (drop i list) ≡ 0 = ap length is in
      record {
        from = λ r j. absurd j;
        from_gone = λ g j. absurd j;
        events = λ r j. absurd j;
        gone = λ g j. absurd j;
        once = λ k low high. absurd (omega (arith, low, high, none, length-drop i list));
        rising = tt;
        rising_gone = tt;
      }
  entries_are i [] [] (g ∷ gs) is h = cc
  entries_are i [] (r ∷ rs) gs is h = cc
  entries_are i (a ∷ left) rs gs is h =
      let n = next_is list i a left is in
      next_entry_is i a rs gs (are_entries m t (i + 1) left) n.here h (λ others more q. entries_are (i + 1) left others more n.rest_is q)

  -- and what makes it true
  gone_true : (i : ℕ) (a : Attempt) (rs : List Record) (gs : List Abandoned) (rest : List Abandoned → Bool) → slice_get list i ≡ Some a → i < length list → AreEntries m list t i rs gs →
      ((r : Record) → In r rs → r.attempt ≢ i) → ((more : List Abandoned) → AreEntries m list t (i + 1) rs more → rest more ≡ true) → next_abandoned m t i a gs rest ≡ true
  gone_true i a rs [] rest here less k none of_rest = absurd (let f = gone_first i rs [] k less none in cc (f.2))
  gone_true i a rs (g ∷ gs) rest here less k none of_rest =
      let f = gone_first i rs (g ∷ gs) k less none in
      let first : g ≡ f.0 = cc (f.2) in
      let e : g.attempt ≡ i = ap (λ (h : Abandoned). h.attempt) first ∙ f.3 in
      let of = k.gone g (inl refl) in
      let same : of.0 ≡ a = same_Some of.0 a (sym of.1 ∙ ap (slice_get list) e ∙ here) in
      together (g.attempt == i && is_at m t a.centre g.x g.y) (rest gs)
      (together (g.attempt == i) (is_at m t a.centre g.x g.y) (eq-eqb g.attempt i e) (at_site m t a.centre g.x g.y (of.2 ∙ ap (λ (b : Attempt). site_in m t b.centre) same)))
      (of_rest gs (gone_less i g rs gs e less k))

  entry_true : (i : ℕ) (a : Attempt) (rs : List Record) (gs : List Abandoned) (rest : List Record → List Abandoned → Bool) → slice_get list i ≡ Some a → i < length list → AreEntries m list t i rs gs →
      ((others : List Record) (more : List Abandoned) → AreEntries m list t (i + 1) others more → rest others more ≡ true) → next_entry m t i a rs gs rest ≡ true
  entry_true i a [] gs rest here less k of_rest = gone_true i a [] gs (rest []) here less k (λ r j. absurd j) (of_rest [])
  entry_true i a (r ∷ rs) gs rest here less k of_rest = go (r.attempt == i) refl
    where
      go : (b : Bool) → (r.attempt == i) ≡ b → (if b then is_event m t a r && rest rs gs else next_abandoned m t i a gs (rest (r ∷ rs))) ≡ true
      go true is =
          let e = eqb-true r.attempt i is in
          let of = k.events r (inl refl) in
          let same : of.0 ≡ a = same_Some of.0 a (sym of.1 ∙ ap (slice_get list) e ∙ here) in
          together (is_event m t a r) (rest rs gs)
          (together (is_at m t a.centre r.x r.y) (a.seed == r.seed) (at_site m t a.centre r.x r.y (of.2 ∙ ap (λ (b : Attempt). site_in m t b.centre) same))
          (eq-eqb a.seed r.seed (sym (of.3 ∙ ap (λ (b : Attempt). b.seed) same))))
          (of_rest rs gs (event_less i r rs gs e less k))
      go false is =
          let apart = test_apart r.attempt i is in
          gone_true i a (r ∷ rs) gs (rest (r ∷ rs)) here less k
          (λ s j. ⊎_elim {C = s.attempt ≢ i} (λ (f : s ≡ r). λ (q : s.attempt ≡ i). apart (ap (λ (z : Record). z.attempt) (sym f) ∙ q))
          (λ l. λ (q : s.attempt ≡ i). omega (arith, q, k.rising.0 s l, k.from r (inl refl))) j)
          (of_rest (r ∷ rs))

  pub entries_from : (i : ℕ) (left : List Attempt) (rs : List Record) (gs : List Abandoned) → drop i list ≡ left → AreEntries m list t i rs gs → are_entries m t i left rs gs ≡ true
  unfolding are_entries
  entries_from i [] [] [] is k = refl
  entries_from i [] [] (g ∷ gs) is k =
      let none : length (drop i list) ≡ 0 = ap length is in
      let of = k.gone g (inl refl) in
      absurd (omega (arith, none, length-drop i list, k.from_gone g (inl refl), slice_get_within list g.attempt of.0 of.1))
  entries_from i [] (r ∷ rs) gs is k =
      let none : length (drop i list) ≡ 0 = ap length is in
      let of = k.events r (inl refl) in
      absurd (omega (arith, none, length-drop i list, k.from r (inl refl), slice_get_within list r.attempt of.0 of.1))
  entries_from i (a ∷ left) rs gs is k =
      let n = next_is list i a left is in
      entry_true i a rs gs (are_entries m t (i + 1) left) n.here n.less k (λ others more q. entries_from (i + 1) left others more n.rest_is q)
