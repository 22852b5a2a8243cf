-- On a plane of one tile, a journal that owes nothing has each attempt as an event, in its order.
use Rattle.std.proofs.Common.{ℕ, ◌≡◌, ◌+◌, ◌==◌, ◌<◌, Bool, true, false, List, [], ◌∷◌, ◌++◌, All, append_assoc, arith, eq-eqb, eqb-true, filter, fold, length, length-append, max, refl, subst, sym, ap, ◌∙◌}
use Rattle.std.proofs.Math.Seq.{get_or-append_seam, take-append_seam}
use Rattle.std.proofs.lemmas.List.Elements.{All-append, All-cons, All-head, All-nil, All-tail}
use Rattle.std.proofs.lemmas.List.Sums.{fold-append}
use Rattle.list_laws.proofs.Members.{In, contains_in}
use Rattle.list_laws.proofs.Tests.{both}
use Rattle.cell_grid.specs.declared.record.Record.{Record}
use Rattle.draw_stream.specs.Plans.{PlanValue, attempts}
use Rattle.draw_stream.specs.declared.attempt.Attempt.{Attempt}
use Rattle.event_journal.specs.Accounts.{IsExcusedBy, IsStamped, are_linked, stamp_after}
use Rattle.event_journal.specs.Logs.{abandoned_by, of_tile}
use Rattle.event_journal.specs.Serial.{OwesNothing}
use Rattle.event_journal.specs.declared.abandoned.Abandoned.{Abandoned}
use Rattle.journal_check.proofs.Accounting.{tested}
use Rattle.journal_check.specs.Entries.{are_entries, is_at, is_event}
use Rattle.tile_map.specs.Plane.{MapValue, site_in, tiles_of}
use Rattle.world_runs.specs.OneTile.{event_of, events_from, events_of}
use Rattle.chain_run.proofs.LoneSteps.{no_needs}

abbrev IsOwn : Record → Type 0
IsOwn r = r.tile ≡ 0

all_own : (rs : List Record) → All IsOwn rs → of_tile 0 rs ≡ rs
all_own [] own = refl
all_own (r ∷ rs) own =
    let here : (r.tile == 0) ≡ true = eq-eqb r.tile 0 (All-head IsOwn r rs own) in
    rw here (ap (λ z. r ∷ z) (all_own rs (All-tail IsOwn r rs own)))

-- the greatest stamp
abbrev highest : List Record → ℕ
highest rs = fold (λ greatest (s : Record). max greatest s.stamp) 0 rs

module _ (m : MapValue) where
  -- events of the one tile are linked
  all_linked : (r : Record) (rs : List Record) → IsOwn r → All IsOwn rs → filter (are_linked m r) rs ≡ rs
  all_linked r [] is own = refl
  all_linked r (s ∷ rs) is own =
      let here : (r.tile == s.tile) ≡ true = eq-eqb r.tile s.tile (is ∙ sym (All-head IsOwn s rs own)) in
      rw here (ap (λ z. s ∷ z) (all_linked r rs is (All-tail IsOwn s rs own)))

  stamp_here : (r : Record) (front : List Record) → IsOwn r → All IsOwn front → stamp_after m front r ≡ 1 + highest front
  unfolding stamp_after
  stamp_here r front is own = ap (λ rs. 1 + highest rs) (all_linked r front is own)

  event_is : (i : ℕ) (a : Attempt) (r : Record) → IsOwn r → r.stamp ≡ i + 1 → (r.attempt == i) ≡ true → is_event m 0 a r ≡ true → r ≡ event_of m (i, a)
  event_is i a r own stamp at h =
      let parts = both (is_at m 0 a.centre r.x r.y) (a.seed == r.seed) h in
      let place = both ((site_in m 0 a.centre).x == r.x) ((site_in m 0 a.centre).y == r.y) parts.0 in
      let number = eqb-true r.attempt i at in
      let x = sym (eqb-true (site_in m 0 a.centre).x r.x place.0) in
      let y = sym (eqb-true (site_in m 0 a.centre).y r.y place.1) in
      let seed = sym (eqb-true a.seed r.seed parts.1) in
      λ j. record { stamp = stamp j; tile = own j; attempt = number j; x = x j; y = y j; seed = seed j }

  -- the events behind the first ones are those of the attempts that are left
  are_events : (front rs : List Record) (i : ℕ) (left : List Attempt) → IsStamped m (front ++ rs) → length front ≡ i → highest front ≡ i → All IsOwn front → All IsOwn rs → are_entries m 0 i left rs [] ≡ true → rs ≡ events_from m i left
  unfolding are_entries
  are_events front [] i [] stamped long high past own e = refl
  are_events front (r ∷ rs) i [] stamped long high past own e = absurd (cc e)
  are_events front [] i (a ∷ more) stamped long high past own e = absurd (cc e)
  are_events front (r ∷ rs) i (a ∷ more) stamped long high past own e =
      let mine = All-head IsOwn r rs own in
      let at = get_or-append_seam front r rs r in
      let seam = take-append_seam front (r ∷ rs) in
      let inside : length front < length (front ++ r ∷ rs) = let n = length-append front (r ∷ rs) in omega (arith, n) in
      let given : r.stamp ≡ stamp_after m front r = sym (ap (λ (q : Record). q.stamp) at) ∙ stamped (length front) r inside ∙ (λ j. stamp_after m (seam j) (at j)) in
      let base = stamp_here r front mine past in
      let stamp : r.stamp ≡ i + 1 = omega (arith, given, base, high) in
      let top : highest (front ++ r ∷ []) ≡ max (highest front) r.stamp = fold-append (λ greatest (s : Record). max greatest s.stamp) 0 front (r ∷ []) in
      let higher : highest (front ++ r ∷ []) ≡ i + 1 = omega (arith, top, high, stamp) in
      on (r.attempt == i) refl e stamp
      (λ h. are_events (front ++ r ∷ []) rs (i + 1) more (subst (IsStamped m) (sym (append_assoc front (r ∷ []) rs)) stamped) (length-append front (r ∷ []) ∙ ap (λ n. n + 1) long) higher
      (All-append IsOwn front (r ∷ []) past (All-cons IsOwn r [] mine (All-nil IsOwn))) (All-tail IsOwn r rs own) h)
    where
      on : (b : Bool) → (r.attempt == i) ≡ b → are_entries m 0 i (a ∷ more) (r ∷ rs) [] ≡ true → r.stamp ≡ i + 1 → (are_entries m 0 (i + 1) more rs [] ≡ true → rs ≡ events_from m (i + 1) more) → r ∷ rs ≡ event_of m (i, a) ∷ events_from m (i + 1) more
      on true is e stamp rest =
          let parts = both (is_event m 0 a r) (are_entries m 0 (i + 1) more rs []) (rw is at e) in
          let here = event_is i a r (All-head IsOwn r rs own) stamp is parts.0 in
          let later = rest parts.1 in
          λ j. here j ∷ later j
      on false is e stamp rest = let never : false ≡ true = rw is at e in absurd (cc never)

module _ (m : MapValue) (one : tiles_of m ≡ 1) (plan : PlanValue) where
  -- an attempt is given up for an edge that it needs, and there is none
  none_given_up : (records : List Record) (all gs : List Abandoned) → All (IsExcusedBy m plan records all) gs → gs ≡ []
  none_given_up records all [] h = refl
  none_given_up records all (g ∷ gs) h =
      let needs = (All-head (IsExcusedBy m plan records all) g gs h).needs in
      let edges = no_needs m one g.tile (site_in m g.tile needs.0.centre) in
      absurd (subst (In g.edge) edges (contains_in _ g.edge needs.2))

  pub lone_entries : (records : List Record) (gone : List Abandoned) → length plan.lists ≡ tiles_of m → OwesNothing m plan records gone → (records ≡ events_of m plan) × (gone ≡ [])
  lone_entries records gone lists h =
      let none = none_given_up records gone gone h.excused in
      let tests = tested m plan records gone lists h.accounted in
      let own : All IsOwn records = λ k d lt. let low = tests.tiles k d lt in omega (arith, low, one) in
      let each = tests.each 0 (omega (arith, one)) in
      let same : are_entries m 0 0 (attempts plan 0) records [] ≡ are_entries m 0 0 (attempts plan 0) (of_tile 0 records) (abandoned_by 0 gone) = λ j. are_entries m 0 0 (attempts plan 0) (sym (all_own records own) j) (abandoned_by 0 (sym none j)) in
      (are_events m [] records 0 (attempts plan 0) h.stamped refl refl (All-nil IsOwn) own (same ∙ each), none)
