-- The excuse by the marks of the edge is the excuse by the events.
use Rattle.std.proofs.Common.{ℕ, ◌≡◌, ◌<◌, ◌+◌, ◌==◌, List, refl, sym, ap, subst, arith, ◌⊎◌, inl, inr, ⊎_elim, true, ◌∙◌, length, filter, eq-eqb, eqb-true}
use Rattle.std.specs.Prelude.{Contains}
use Rattle.std.specs.List.{Any, list_any}
use Rattle.std.proofs.lemmas.Option.{same_Some}
use Rattle.list_laws.proofs.Members.{filter_in, in_any, in_filter, in_map, map_in, contains_in, in_contains}
use Rattle.list_laws.proofs.Tests.{both, together}
use Rattle.cell_grid.specs.declared.record.Record.{Record}
use Rattle.draw_stream.specs.declared.attempt.Attempt.{Attempt}
use Rattle.draw_stream.specs.Plans.{PlanValue}
use Rattle.tile_map.specs.Plane.{MapValue, Site, site, site_in, tiles_of}
use Rattle.tile_map.specs.Edges.{needs_of, pairs_of}
use Rattle.tile_map.specs.Laws.{IsPlane, Joins}
use Rattle.event_journal.specs.Accounts.{ComesFirst, IsAccounted, IsEventBy, IsEventOf, IsExcusedBy, IsGivenUpBeyond, IsGivenUpOf, Needs, attempt_named, edges_of, holder_of}
use Rattle.event_journal.specs.declared.abandoned.Abandoned.{Abandoned}
use Rattle.journal_check.specs.Clocks.{needs_edge}
use Rattle.journal_check.specs.Excuses.{IsExcusedOn, WasHeld, abandoned_needs}
use Rattle.journal_check.specs.Marks.{AreApart, AreMarks, is_on_edge, marks_at, mark_of, marks_on}
use Rattle.journal_check.specs.declared.mark.Mark.{Mark}
use Rattle.journal_check.proofs.Latest.{any_in, needs_in}
use Rattle.journal_check.proofs.Lists.{all_in}

pub any_contains : (es : List ℕ) (e : ℕ) → list_any (λ f. f == e) es ≡ true → Contains es e
any_contains es e h = in_contains es e (any_in es e h)

pub contains_any : (es : List ℕ) (e : ℕ) → Contains es e → list_any (λ f. f == e) es ≡ true
contains_any es e c = in_any (λ f. f == e) es e (contains_in es e c) (eq-eqb e e refl)

pub needs_known : (m : MapValue) (t : ℕ) (s : Site) (e : ℕ) → list_any (λ f. f == e) (needs_of m t s) ≡ true → e < length (pairs_of m)
needs_known m t s e h = needs_in m t s e (any_in (needs_of m t s) e h)

pub joined_tiles : (m : MapValue) → IsPlane m → (e t u : ℕ) → e < length (pairs_of m) → Joins m e t u → (t < tiles_of m) × (u < tiles_of m)
joined_tiles m k e t u lt (inl p) = let q = k.edges.ends e lt in (omega (arith, p.0, q.0, q.1), omega (arith, p.1, q.1))
joined_tiles m k e t u lt (inr p) = let q = k.edges.ends e lt in (omega (arith, p.1, q.1), omega (arith, p.0, q.0, q.1))

module _ (m : MapValue) (plan : PlanValue) (records : List Record) (abandoned : List Abandoned) (table : List (List Mark)) (plane : IsPlane m) (k : IsAccounted m plan records abandoned) (marks : AreMarks m records table) where
  mark_in : (e t : ℕ) (r : Record) → Contains records r → r.tile ≡ t → Contains (edges_of m r) e → Contains (marks_on m t e records) (mark_of r)
  mark_in e t r c tile needs =
      in_contains (marks_on m t e records) (mark_of r) (in_map mark_of (filter (is_on_edge m t e) records) r
      (in_filter (is_on_edge m t e) records r (contains_in records r c) (together (r.tile == t) (needs_edge m e r) (eq-eqb r.tile t tile) (contains_any (edges_of m r) e needs))))

  in_mark : (e t : ℕ) (a : Mark) → Contains (marks_on m t e records) a → (r : Record) × Contains records r × (r.tile ≡ t) × Contains (edges_of m r) e × (a ≡ mark_of r)
  in_mark e t a c =
      let q = map_in mark_of (filter (is_on_edge m t e) records) a (contains_in (marks_on m t e records) a c) in
      let f = filter_in (is_on_edge m t e) records q.0 q.1 in
      let p = both (q.0.tile == t) (needs_edge m e q.0) f.1 in
      (q.0, in_contains records q.0 f.0, eqb-true q.0.tile t p.0, any_contains (edges_of m q.0) e p.1, q.2)

  event : (r : Record) → Contains records r → IsEventOf m plan r
  event r c = all_in (IsEventOf m plan) records k.events r (contains_in records r c)

  given : (g : Abandoned) → Contains abandoned g → IsGivenUpOf m plan g
  given g c = all_in (IsGivenUpOf m plan) abandoned k.given_up g (contains_in abandoned g c)

  -- an event that needs the edge shows that its attempt does
  event_needs : (e t i : ℕ) (r : Record) → Contains records r → r.tile ≡ t → r.attempt ≡ i → Contains (edges_of m r) e → Needs m plan t i e
  event_needs e t i r c tile attempt needs =
      let ev = event r c in
      subst (λ u. Needs m plan u i e) tile (subst (λ j. Needs m plan r.tile j e) attempt
      (ev.0, ev.1, subst (λ (s : Site). Contains (needs_of m r.tile s) e) ev.2 needs))

  needs_event : (e t i : ℕ) (r : Record) → Contains records r → r.tile ≡ t → r.attempt ≡ i → Needs m plan t i e → Contains (edges_of m r) e
  needs_event e t i r c tile attempt n =
      let ev = event r c in
      let own : Needs m plan r.tile r.attempt e = subst (λ u. Needs m plan u r.attempt e) (sym tile) (subst (λ j. Needs m plan t j e) (sym attempt) n) in
      let same : own.0 ≡ ev.0 = same_Some own.0 ev.0 (sym own.1 ∙ ev.1) in
      subst (λ (s : Site). Contains (needs_of m r.tile s) e) (sym ev.2) (subst (λ (a : Attempt). Contains (needs_of m r.tile (site_in m r.tile a.centre)) e) same own.2)

  gone_shows : (e t i : ℕ) (g : Abandoned) → Contains abandoned g → g.tile ≡ t → g.attempt ≡ i → abandoned_needs m e g ≡ true → Needs m plan t i e
  gone_shows e t i g c tile attempt h =
      let ev = given g c in
      let own : Needs m plan g.tile g.attempt e = (ev.0, ev.1, subst (λ (s : Site). Contains (needs_of m g.tile s) e) ev.2 (any_contains (needs_of m g.tile (site g.x g.y)) e h)) in
      subst (λ u. Needs m plan u i e) tile (subst (λ j. Needs m plan g.tile j e) attempt own)

  shows_gone : (e t i : ℕ) (g : Abandoned) → Contains abandoned g → g.tile ≡ t → g.attempt ≡ i → Needs m plan t i e → abandoned_needs m e g ≡ true
  shows_gone e t i g c tile attempt n =
      let ev = given g c in
      let own : Needs m plan g.tile g.attempt e = subst (λ u. Needs m plan u g.attempt e) (sym tile) (subst (λ j. Needs m plan t j e) (sym attempt) n) in
      let same : own.0 ≡ ev.0 = same_Some own.0 ev.0 (sym own.1 ∙ ev.1) in
      contains_any (needs_of m g.tile (site g.x g.y)) e
      (subst (λ (s : Site). Contains (needs_of m g.tile s) e) (sym ev.2) (subst (λ (a : Attempt). Contains (needs_of m g.tile (site_in m g.tile a.centre)) e) same own.2))

  -- the order of events by their marks
  events_apart : (e t i u j : ℕ) → AreApart (marks_on m t e records) i (marks_on m u e records) j → ComesFirst m records e (attempt_named t i) (attempt_named u j)
  events_apart e t i u j h r s a b lt le = h (mark_of r) (mark_of s) (mark_in e t r a.0 a.1 a.2) (mark_in e u s b.0 b.1 b.2) lt le

  apart_events : (e t i u j : ℕ) → ComesFirst m records e (attempt_named t i) (attempt_named u j) → AreApart (marks_on m t e records) i (marks_on m u e records) j
  apart_events e t i u j h a b c d lt le =
      let p = in_mark e t a c in
      let q = in_mark e u b d in
      let x = h p.0 q.0 (p.1, p.2, p.3) (q.1, q.2, q.3) (omega (arith, lt, ap (λ (z : Mark). z.attempt) p.4)) (omega (arith, le, ap (λ (z : Mark). z.attempt) q.4)) in
      omega (arith, x, ap (λ (z : Mark). z.stamp) p.4, ap (λ (z : Mark). z.stamp) q.4)

  module _ (g : Abandoned) (mine : Contains abandoned g) where
    known : (abandoned_needs m g.edge g ≡ true) → g.edge < length (pairs_of m)
    known h = needs_known m g.tile (site g.x g.y) g.edge h

    own_is : abandoned_needs m g.edge g ≡ true → Joins m g.edge g.tile g.holder → marks_at m table g.edge g.tile ≡ marks_on m g.tile g.edge records
    own_is h j = marks.each g.edge g.tile (known h) (joined_tiles m plane g.edge g.tile g.holder (known h) j).0

    other_is : abandoned_needs m g.edge g ≡ true → Joins m g.edge g.tile g.holder → marks_at m table g.edge g.holder ≡ marks_on m g.holder g.edge records
    other_is h j = marks.each g.edge g.holder (known h) (joined_tiles m plane g.edge g.tile g.holder (known h) j).1

    pub excused_by : IsExcusedOn m table abandoned g → IsExcusedBy m plan records abandoned g
    excused_by h = record {
      needs = gone_shows g.edge g.tile g.attempt g mine refl refl h.needs;
      ends = h.ends;
      held = ⊎_elim {C = Needs m plan g.holder g.holder_attempt g.edge}
          (λ a. let q = in_mark g.edge g.holder a.0 (subst (λ (l : List Mark). Contains l a.0) (other_is h.needs h.ends) a.1) in
          event_needs g.edge g.holder g.holder_attempt q.0 q.1 q.2 (sym (ap (λ (z : Mark). z.attempt) q.4) ∙ a.2) q.3)
          (λ n. gone_shows g.edge g.holder g.holder_attempt n.0 n.1.0 n.1.1 n.1.2 n.3) h.held;
      owed = ⊎_elim {C = Any (IsEventBy (holder_of g)) records ⊎ Any (IsGivenUpBeyond g.edge (holder_of g)) abandoned}
          (λ a. let q = in_mark g.edge g.holder a.0 (subst (λ (l : List Mark). Contains l a.0) (other_is h.needs h.ends) a.1) in
          inl (q.1.0, q.0, q.1.1, q.1.2, (q.2, sym (ap (λ (z : Mark). z.attempt) q.4) ∙ a.2)))
          (λ n. inr (n.1.0.0, n.0, n.1.0.1, n.1.0.2, (n.1.1, n.1.2, n.2))) h.held;
      after = events_apart g.edge g.tile g.attempt g.holder g.holder_attempt
          (subst (λ (l : List Mark). AreApart l g.attempt (marks_on m g.holder g.edge records) g.holder_attempt) (own_is h.needs h.ends)
          (subst (λ (l : List Mark). AreApart (marks_at m table g.edge g.tile) g.attempt l g.holder_attempt) (other_is h.needs h.ends) h.after));
      before = events_apart g.edge g.holder (g.holder_attempt + 1) g.tile (g.attempt + 1)
          (subst (λ (l : List Mark). AreApart l (g.holder_attempt + 1) (marks_on m g.tile g.edge records) (g.attempt + 1)) (other_is h.needs h.ends)
          (subst (λ (l : List Mark). AreApart (marks_at m table g.edge g.holder) (g.holder_attempt + 1) l (g.attempt + 1)) (own_is h.needs h.ends) h.before));
    }

    pub excused_on : IsExcusedBy m plan records abandoned g → IsExcusedOn m table abandoned g
    excused_on h = record {
      needs = needs;
      ends = h.ends;
      held = ⊎_elim {C = WasHeld m (marks_at m table g.edge g.holder) abandoned g}
          (λ q. let c : Contains records q.1 = (q.0, q.2, q.3) in
          inl (mark_of q.1, subst (λ (l : List Mark). Contains l (mark_of q.1)) (sym (other_is needs h.ends)) (mark_in g.edge g.holder q.1 c q.4.0 (needs_event g.edge g.holder g.holder_attempt q.1 c q.4.0 q.4.1 h.held)), q.4.1))
          (λ q. let c : Contains abandoned q.1 = (q.0, q.2, q.3) in
          inr (q.1, (c, q.4.0, q.4.1), q.4.2, shows_gone g.edge g.holder g.holder_attempt q.1 c q.4.0 q.4.1 h.held)) h.owed;
      after =
          subst (λ (l : List Mark). AreApart l g.attempt (marks_at m table g.edge g.holder) g.holder_attempt) (sym (own_is needs h.ends))
          (subst (λ (l : List Mark). AreApart (marks_on m g.tile g.edge records) g.attempt l g.holder_attempt) (sym (other_is needs h.ends)) (apart_events g.edge g.tile g.attempt g.holder g.holder_attempt h.after));
      before =
          subst (λ (l : List Mark). AreApart l (g.holder_attempt + 1) (marks_at m table g.edge g.tile) (g.attempt + 1)) (sym (other_is needs h.ends))
          (subst (λ (l : List Mark). AreApart (marks_on m g.holder g.edge records) (g.holder_attempt + 1) l (g.attempt + 1)) (sym (own_is needs h.ends))
          (apart_events g.edge g.holder (g.holder_attempt + 1) g.tile (g.attempt + 1) h.before));
    }
      where
        needs : abandoned_needs m g.edge g ≡ true
        needs = shows_gone g.edge g.tile g.attempt g mine refl refl h.needs
