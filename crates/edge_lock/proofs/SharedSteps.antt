-- Each step of an end keeps the rule of a shared edge.
use Rattle.std.proofs.Common.{◌≡◌, ◌≢◌, ℕ, zero, suc, ◌+◌, ◌-◌, ◌*◌, ◌<◌, eqb, Bool, true, false, cond, true≢false, List, [], ◌∷◌, ◌++◌, length, get_or, set, replicate, refl, sym, ap, ◌∙◌, subst, ⊎_elim, arith, eq-eqb, ne_eqb, length-set, get_or-set_same, get_or-set_other, Some, None}
use Rattle.std.specs.Prelude.{All}
use Rattle.std.proofs.lemmas.List.{length-replicate}
use Rattle.std.proofs.lemmas.Option.{none-some}
use mathlib.Core.Option.{none, some, some-injective, some-ne-none}
use lib.ListN.{get_elem?}
use prog.Atomic.{either}
use Rattle.atomic_table.specs.Table.{State, Me, step, keeps, takes, stepped, Allows}
use Rattle.atomic_table.proofs.Lists.{at_set}
use Rattle.edge_lock.specs.declared.history.Hold.{Hold}
use Rattle.edge_lock.specs.declared.history.Refusal.{Refusal}
use Rattle.edge_lock.specs.declared.edge_steps.View.{View}
use Rattle.edge_lock.specs.declared.edge_steps.View.TheVariants.{First, Alone, Second, Paired, Joined, Settled, Spent}
use Rattle.edge_lock.specs.History.{own, open_hold, key, keys, site_count, IsEnd, IsSide, IsHistory}
use Rattle.edge_lock.specs.EndLists.{new_hold, refusal_of, is_last_open, IsHoldBelow, IsRefusalBelow, IsFree, IsNew}
use Rattle.edge_lock.specs.Passes.{IsPaired}
use Rattle.edge_lock.specs.RegistersNow.{AreNow}
use Rattle.edge_lock.specs.SharedRule.{lock_word, attempt_in, claims_of, claims, IsAtHome, apart, done, IsPart, IsShared, lists_in, now_in, slots_of, view_after_try, Tries}
use Rattle.edge_lock.proofs.RegistersNow.{now_took}
use Rattle.edge_lock.proofs.LastHolds.{open_hold-snoc, ends_open, is_held-snoc, keys-snoc, none_or_held}
use Rattle.edge_lock.proofs.HistorySteps.{all-last, own_below, side_takes, side_stays, side_refuses, history_takes, own-here, own-there}

abbrev pub S : Type 0
S = State (List ℕ) View

abbrev pub M : Type 0
M = Me (List ℕ) View

claims-set : (vs : List View) (i : ℕ) (v w : View) → get_elem? vs i ≡ some v → claims_of w ≡ claims_of v → claims (set vs i w) ≡ claims vs
claims-set [] i v w e c = absurd (some-ne-none v (sym e))
claims-set (x ∷ xs) zero v w e c = let is : claims_of x ≡ claims_of v = ap claims_of (some-injective x v e) in omega arith
claims-set (x ∷ xs) (suc i) v w e c = let r = claims-set xs i v w e c in omega arith

-- how the history goes on by a step of the end e: the other end keeps its lists, and the registers if it has them
pub record GoesOn (n : ℕ) (hs : List Hold) (e : ℕ) (gs : List Hold) : Type 0 where
  pub history : IsHistory n gs
  pub same : (f : ℕ) → f ≢ e → own f gs ≡ own f hs
  pub fits : (f : ℕ) (rs : List Refusal) → f ≢ e → IsSide (keys hs) f rs → IsSide (keys gs) f rs
  pub kept : (f count : ℕ) (now : List ℕ) → f ≢ e → is_last_open (own f hs) ≡ true → AreNow count hs now → AreNow count gs now

pub stays_there : {n : ℕ} (hs gs : List Hold) (e count id : ℕ) → GoesOn n hs e gs → count ≡ 2 → id ≢ e → (v : View) → IsPart apart hs count id v → IsPart apart gs count id v
stays_there hs gs e count id g two other_id (First n) s = let one = s.1 in absurd (omega arith)
stays_there hs gs e count id g two other_id (Alone n) s = let one = s.1 in absurd (omega arith)
stays_there hs gs e count id g two other_id (Second n) s = let other : 1 ≢ e = λ h. other_id (s.2 ∙ h) in (s.0, s.1, s.2, g.same 1 other ∙ s.3, g.fits 1 [] other s.4)
stays_there hs gs e count id g two other_id (Paired n f mine rs u) s = let other : f ≢ e = λ h. other_id (s.2 ∙ h) in
    (s.0, s.1, s.2, g.same f other ∙ s.3, g.fits f rs other s.4, λ held. g.kept f n u other (ap is_last_open s.3 ∙ held) (s.5 held))
stays_there hs gs e count id g two other_id (Joined n a b c d) s = absurd (cc)
stays_there hs gs e count id g two other_id (Settled a b c u) s = absurd (cc)
stays_there hs gs e count id g two other_id Spent s = absurd (s refl)

-- One end steps on the word i. Its part of the history gs is `now`, and the slot is left in `homes`.
pub moved : (size : ℕ) (s : S) (r : IsShared size s) (id e i n : ℕ) (mine now : List Hold) (rs qs : List Refusal) (u w : List ℕ) (gs : List Hold) (homes : List (mathlib.Core.Option.Option (List ℕ))) → get_elem? s.views id ≡ some (Paired size e mine rs u)
    → GoesOn (site_count size) r.hs e gs → i ≢ 2 → get_or (set s.words i n) 1 0 ≡ lock_word (open_hold gs) → length homes ≡ 1 → (open_hold gs ≡ None → IsAtHome size gs homes)
    → own e gs ≡ now → IsSide (keys gs) e qs → (is_last_open now ≡ true → AreNow size gs w) → IsShared size record { words = set s.words i n; homes = homes; views = set s.views id (Paired size e now qs w) }
moved size s r id e i n mine now rs qs u w gs homes at g not_claims lock room home here side knows =
    let v : View = Paired size e now qs w in let was : View = Paired size e mine rs u in
    let mine_is = r.views id was at in let count = length-set s.views id v in let words = length-set s.words i n in record {
      hs = gs;
      stage = apart;
      history = g.history;
      long = words ∙ r.long;
      lock = lock;
      claimed = get_or-set_other s.words i 2 n 0 (λ h. not_claims (sym h)) ∙ (r.claimed ∙ sym (claims-set s.views id was v at refl));
      room = room;
      home = λ _. home;
      views = λ j x p. subst (λ c. IsPart apart gs c j x) (sym count)
          (⊎_elim
          (λ (t : (j ≡ id) × (v ≡ x)). subst (λ (x : ℕ × View). IsPart apart gs (length s.views) x.0 x.1) (λ k. (sym t.0 k, t.1 k)) (refl, mine_is.1, mine_is.2, here, side, knows))
          (λ (t : (j ≢ id) × (get_elem? s.views j ≡ some x)). stays_there r.hs gs e (length s.views) j g mine_is.1 (λ h. t.0 (h ∙ sym mine_is.2)) x (subst (λ b. IsPart b r.hs (length s.views) j x) mine_is.0 (r.views j x t.1)))
          (at_set s.views id j v x p));
    }

module _ (size e a : ℕ) (mine : List Hold) (rs : List Refusal) (u : List ℕ) (end : e < 2) (shut : is_last_open mine ≡ false) (new : All (IsHoldBelow a) mine) (news : All (IsRefusalBelow a) rs) where
  abbrev me : M
  me = (Paired size e mine rs u, [])

  abbrev mark : ℕ
  mark = 1 + 2 * a + e

  gets : (s : S) (r : IsShared size s) (id : ℕ) → get_elem? s.views id ≡ some me.0 → open_hold r.hs ≡ None → (h : IsAtHome size r.hs s.homes)
      → IsShared size (stepped s 1 mark id [] (Paired size e (mine ++ new_hold e a ∷ []) rs h.now) (takes 0 h.now))
  gets s r id at free home =
      let mine_is = r.views id me.0 at in let hs = r.hs in let gs : List Hold = hs ++ new_hold e a ∷ [] in let long = r.long in let now = keys-snoc hs (new_hold e a) in
      let below = own_below a e hs (subst (All (IsHoldBelow a)) (sym mine_is.3) new) in
      moved size s r id e 1 mark mine (mine ++ new_hold e a ∷ []) rs rs u home.now gs (set s.homes 0 none) at
      record {
        history = history_takes hs e a r.history free end;
        same = λ f apart. own-there f hs (new_hold e a) (λ h. apart (sym h));
        fits = λ f qs apart side. subst (λ ks. IsSide ks f qs) (sym now) (side_stays (keys hs) e f a qs (λ h. apart (sym h)) side);
        kept = λ f count w _ _. now_took count e a hs w;
      }
      (λ h. omega arith)
      (get_or-set_same s.words 1 mark 0 (omega arith) ∙ ap lock_word (sym (open_hold-snoc hs (new_hold e a))))
      (length-set s.homes 0 none ∙ r.room)
      (λ nobody. absurd (none-some (new_hold e a) (sym nobody ∙ open_hold-snoc hs (new_hold e a))))
      (own-here e hs (new_hold e a) refl ∙ ap (λ l. l ++ new_hold e a ∷ []) mine_is.3)
      (subst (λ ks. IsSide ks e rs) (sym now) (side_takes (keys hs) e a rs mine_is.4 below news))
      (λ _. now_took size e a hs home.now home.are)

  refuses : (s : S) (r : IsShared size s) (id : ℕ) → get_elem? s.views id ≡ some me.0 → (h : Hold) → open_hold r.hs ≡ Some h
      → IsShared size (stepped s 1 (get_or s.words 1 0) id [] (Paired size e mine (rs ++ refusal_of a (attempt_in (get_or s.words 1 0)) ∷ []) u) keeps)
  refuses s r id at h is_open =
      let mine_is = r.views id me.0 at in let hs = r.hs in let n : ℕ = get_or s.words 1 0 in let long = r.long in
      let last = ends_open hs h is_open in let past = last.0.past in let is = last.0.is in
      let word : n ≡ 1 + 2 * h.attempt + h.end = r.lock ∙ ap lock_word is_open in
      let other : h.end ≢ e = λ same. true≢false (sym last.1 ∙ (sym (is_held-snoc (own e past) h) ∙ (ap is_last_open (sym (own-here e past h same) ∙ (ap (own e) (sym is) ∙ mine_is.3)) ∙ shut))) in
      let bound : h.end < 2 = all-last IsEnd (keys past) (key h) (subst (All IsEnd) (ap keys is ∙ keys-snoc past h) r.history.ends) in
      let who : h.end ≡ 1 - e = omega arith in let which : h.attempt ≡ attempt_in n = omega arith in
      let below = own_below a e hs (subst (All (IsHoldBelow a)) (sym mine_is.3) new) in
      moved size s r id e 1 n mine mine rs (rs ++ refusal_of a (attempt_in n) ∷ []) u u hs s.homes at
      record { history = r.history; same = λ f apart. refl; fits = λ f qs apart side. side; kept = λ f count w _ _ is. is }
      (λ h. omega arith)
      (get_or-set_same s.words 1 n 0 (omega arith) ∙ r.lock)
      r.room
      (λ nobody. absurd (none-some h (sym nobody ∙ is_open)))
      mine_is.3
      (side_refuses (keys hs) (keys past) e a (attempt_in n) rs mine_is.4 (ap keys is ∙ (keys-snoc past h ∙ ap (λ k. keys past ++ k ∷ []) (λ i. (who i, which i)))) below news)
      (λ held. absurd (true≢false (sym held ∙ shut)))

  marks : attempt_in mark ≡ a
  marks = omega arith

  -- the view after the exchange, if it found 0 or not
  abbrev after : Bool → ℕ → ℕ → List ℕ → View
  after b n x w = cond b (Paired size e (mine ++ new_hold e x ∷ []) rs w) (Paired size e mine (rs ++ refusal_of x (attempt_in n) ∷ []) u)

  pub tries : (slots id : ℕ) → Allows (IsShared size) slots id me 1 (λ n. either (eqb n 0) mark n) (Tries (step slots 1 0 mark none) me)
  tries slots id s r _ at _ = let n : ℕ = get_or s.words 1 0 in let mine_is = r.views id me.0 at in
      ⊎_elim
      (λ (f : (open_hold r.hs ≡ None) × (is_last_open r.hs ≡ false)). let hit = eq-eqb n 0 (r.lock ∙ ap lock_word f.0) in
      let home = r.home (λ h. let is : apart ≡ done = sym mine_is.0 ∙ h in cc) f.0 in (
        view_after_try (attempt_in mark) n home.now me.0,
        takes 0 home.now,
        home.there,
        subst (λ (x : Bool × ℕ). IsShared size (stepped s 1 (either x.0 mark n) id [] (after x.0 n x.1 home.now) (takes 0 home.now))) (λ i. (sym hit i, sym marks i)) (gets s r id at f.0 home),
        record {
          found = home.now;
          long = home.are.long;
          view = refl;
          slots = sym (ap (λ b. slots_of (after b n (attempt_in mark) home.now)) hit ∙ ap (λ b. cond b ((0, home.now) ∷ []) []) (is_held-snoc mine (new_hold e (attempt_in mark))));
        },
      ))
      (λ (f : (h : Hold) × (open_hold r.hs ≡ Some h) × (is_last_open r.hs ≡ true)). let some_word : n ≢ 0 = λ z. let w : n ≡ 1 + 2 * f.0.attempt + f.0.end = r.lock ∙ ap lock_word f.1 in omega arith in let miss = ne_eqb n 0 some_word in
      let none_found : List ℕ = replicate size 0 in (
        view_after_try (attempt_in mark) n none_found me.0,
        keeps,
        tt,
        subst (λ (x : Bool × ℕ). IsShared size (stepped s 1 (either x.0 mark n) id [] (after x.0 n x.1 none_found) keeps)) (λ i. (sym miss i, sym marks i)) (refuses s r id at f.0 f.1),
        record {
          found = none_found;
          long = length-replicate size 0;
          view = refl;
          slots = sym (ap (λ b. slots_of (after b n (attempt_in mark) none_found)) miss ∙ ap (λ b. cond b ((0, u) ∷ []) []) shut);
        },
      ))
      (none_or_held r.hs)

-- the same at a seat that is known to be one end's
pub tries_as : (size slots id e a w : ℕ) (me : M) → IsPaired size e me → w ≡ 1 + 2 * a + e → e < 2 → IsFree (lists_in me.0) → IsNew a (lists_in me.0)
    → Allows (IsShared size) slots id me 1 (λ n. either (eqb n 0) w n) (Tries (step slots 1 0 w none) me)
tries_as size slots id e a w me is word end free new =
    let slots_is : me.1 ≡ [] = is.slots ∙ (ap slots_of is.view ∙ ap (λ b. cond b ((0, now_in me.0) ∷ []) []) free) in
    subst (λ (x : M × ℕ). Allows (IsShared size) slots id x.0 1 (λ n. either (eqb n 0) x.1 n) (Tries (step slots 1 0 x.1 none) x.0)) (λ i. ((sym is.view i, sym slots_is i), sym word i))
    (tries size e a (lists_in me.0).holds (lists_in me.0).refusals (now_in me.0) end free new.holds new.refusals slots id)
