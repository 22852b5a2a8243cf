-- Each step of a plain edge keeps its rule.
use Rattle.std.proofs.Common.{◌≡◌, ◌≢◌, ℕ, zero, suc, ◌+◌, ◌-◌, ◌*◌, ◌<◌, eqb, Bool, true, false, cond, true≢false, List, [], ◌∷◌, ◌++◌, length, get_or, set, refl, sym, ap, ◌∙◌, subst, ⊎_elim, arith, eq-eqb, ne_eqb, length-set, get_or-set_same, Some, None}
use Rattle.std.specs.Prelude.{All}
use Rattle.std.proofs.lemmas.List.{set-get_or}
use mathlib.Core.Option.{none, some, some-injective, some-ne-none}
use lib.ListN.{get_elem?}
use prog.Atomic.{either}
use Rattle.atomic_table.specs.Table.{State, Me, Act, step, keeps, stepped, opening, Allows}
use Rattle.atomic_table.proofs.Lists.{at_set}
use Rattle.edge_lock.specs.declared.board.Take.{Take}
use Rattle.edge_lock.specs.declared.board.Take.TheVariants.{Got, Busy}
use Rattle.edge_lock.specs.declared.history.Access.{Access}
use Rattle.edge_lock.specs.declared.history.Access.TheVariants.{Read, Write}
use Rattle.edge_lock.specs.declared.history.Hold.{Hold}
use Rattle.edge_lock.specs.declared.history.Refusal.{Refusal}
use Rattle.edge_lock.specs.declared.plain_steps.PlainView.{PlainView}
use Rattle.edge_lock.specs.History.{own, trace, last_value, register_value, ReadsTrue, IsAllowed, IsAllowedAccess, open_hold, key, keys, site_count, IsEnd, IsSide, IsHistory}
use Rattle.edge_lock.specs.EndLists.{end_lists, new_hold, refusal_of, with_access, closed_hold, change_last, is_last_open, IsHoldBelow, IsRefusalBelow, last_accesses, last_shown, Shows, known_value, after_try, IsFree, IsHeld}
use Rattle.edge_lock.specs.SharedRule.{lock_word, attempt_in}
use Rattle.edge_lock.specs.PlainEdges.{plain_view, IsKept, Agrees, IsPlain, with_refusal, end_in, plain_view_after_try, PlainTries, plain_view_after_change, IsAccess, MayNote, PlainNotes, PlainGives, PlainEdgeValue, view_of, own_lists, edge_after_try, with_view, IsAnswer}
use Rattle.edge_lock.specs.RegistersNow.{AreNow}
use Rattle.edge_lock.proofs.RegistersNow.{now_took}
use Rattle.edge_lock.proofs.LastHolds.{open_hold-snoc, ends_open, ends_held, is_held-snoc, keys-snoc, none_or_held, change_last-snoc, last_accesses-snoc, trace-snoc}
use Rattle.edge_lock.proofs.HistorySteps.{all-last, own_below, side_takes, side_stays, side_refuses, history_takes, history_accesses, history_ends, keys-change, own-here, own-there}
use Rattle.edge_lock.proofs.SharedHolds.{holder, same_word, shows_value, allowed_value}
use Rattle.edge_lock.proofs.SharedSeats.{at_inside, side_none, history_none}

abbrev pub S : Type 0
S = State (Unit {0}) PlainView

abbrev pub M : Type 0
M = Me (Unit {0}) PlainView

-- the one seat steps: the words are then those of its new view
replaced : (s : S) (r : IsPlain s) (id i n : ℕ) (v w : PlainView) → get_elem? s.views id ≡ some v → Agrees (set s.words i n) w → IsPlain (stepped s i n id [] w keeps)
replaced s r id i n v w at now = record {
  one = length-set s.views id w ∙ r.one;
  agrees = λ j u p. ⊎_elim
      (λ (t : (j ≡ id) × (w ≡ u)). subst (Agrees (set s.words i n)) t.1 now)
      (λ (t : (j ≢ id) × (get_elem? s.views j ≡ some u)). let here = at_inside s.views id v at in let there = at_inside s.views j u t.1 in let one = r.one in let apart = t.0 in absurd (apart (omega arith)))
      (at_set s.views id j w u p);
}

-- the end e gets the edge
pub takes : (e a : ℕ) (v : PlainView) → e < 2 → IsKept v → open_hold v.holds ≡ None → All (IsHoldBelow a) (own e v.holds) → All (IsRefusalBelow a) (cond (eqb e 0) v.low v.high) → IsKept (plain_view v.registers (v.holds ++ new_hold e a ∷ []) v.low v.high)
takes zero a v end k free new news = let now = keys-snoc v.holds (new_hold 0 a) in record {
  holds = history_takes v.holds 0 a k.holds free end;
  lower = subst (λ ks. IsSide ks 0 v.low) (sym now) (side_takes (keys v.holds) 0 a v.low k.lower (own_below a 0 v.holds new) news);
  higher = subst (λ ks. IsSide ks 1 v.high) (sym now) (side_stays (keys v.holds) 0 1 a v.high (λ h. omega arith) k.higher);
}
takes (suc zero) a v end k free new news = let now = keys-snoc v.holds (new_hold 1 a) in record {
  holds = history_takes v.holds 1 a k.holds free end;
  lower = subst (λ ks. IsSide ks 0 v.low) (sym now) (side_stays (keys v.holds) 1 0 a v.low (λ h. omega arith) k.lower);
  higher = subst (λ ks. IsSide ks 1 v.high) (sym now) (side_takes (keys v.holds) 1 a v.high k.higher (own_below a 1 v.holds new) news);
}
takes (suc (suc e)) a v end k free new news = absurd (omega arith)

-- the end e is refused by the hold that comes last
pub refuses : (e a b : ℕ) (past : List (ℕ × ℕ)) (v : PlainView) → e < 2 → IsKept v → keys v.holds ≡ past ++ (1 - e, b) ∷ [] → All (IsHoldBelow a) (own e v.holds) → All (IsRefusalBelow a) (cond (eqb e 0) v.low v.high) → IsKept (with_refusal e (refusal_of a b) v)
refuses zero a b past v end k is new news = record {
  holds = k.holds;
  lower = side_refuses (keys v.holds) past 0 a b v.low k.lower is (own_below a 0 v.holds new) news;
  higher = k.higher;
}
refuses (suc zero) a b past v end k is new news = record {
  holds = k.holds;
  lower = k.lower;
  higher = side_refuses (keys v.holds) past 1 a b v.high k.higher is (own_below a 1 v.holds new) news;
}
refuses (suc (suc e)) a b past v end k is new news = absurd (omega arith)

same_holds : (e : ℕ) (r : Refusal) (v : PlainView) → (with_refusal e r v).holds ≡ v.holds
same_holds e r v = refl

-- the hold that is open where the end e has none
pub record Other (hs : List Hold) (e : ℕ) (h : Hold) : Type 0 where
  pub past : List Hold
  pub is : hs ≡ past ++ h ∷ []
  pub end : h.end ≡ 1 - e

pub other : {n : ℕ} (hs : List Hold) (e : ℕ) (h : Hold) → IsHistory n hs → e < 2 → is_last_open (own e hs) ≡ false → open_hold hs ≡ Some h → Other hs e h
other hs e h i end shut is_open =
    let last = ends_open hs h is_open in let past = last.0.past in let is = last.0.is in
    let not_own : h.end ≢ e = λ same. true≢false (sym last.1 ∙ (sym (is_held-snoc (own e past) h) ∙ (ap is_last_open (sym (own-here e past h same) ∙ ap (own e) (sym is)) ∙ shut))) in
    let bound : h.end < 2 = all-last IsEnd (keys past) (key h) (subst (All IsEnd) (ap keys is ∙ keys-snoc past h) i.ends) in
    record { past = past; is = is; end = omega arith }

pub tries : (slots id e a w : ℕ) (me : M) → me.1 ≡ [] → e < 2 → w ≡ 1 + 2 * a + e → is_last_open (own e me.0.holds) ≡ false → All (IsHoldBelow a) (own e me.0.holds) → All (IsRefusalBelow a) (cond (eqb e 0) me.0.low me.0.high)
    → Allows IsPlain slots id me 1 (λ n. either (eqb n 0) w n) (PlainTries (step slots 1 0 w none) me)
tries slots id e a w me bare end word shut new news s r _ at _ =
    let v : PlainView = me.0 in let agrees = r.agrees id v at in let n : ℕ = get_or s.words 1 0 in let found = agrees.lock in let long = agrees.long in
    let which : attempt_in w ≡ a = omega arith in let whose : end_in w ≡ e = omega arith in
    let told : (b : Bool) → eqb n 0 ≡ b → Agrees (set s.words 1 (either b w n)) (cond b (plain_view v.registers (v.holds ++ new_hold e a ∷ []) v.low v.high) (with_refusal e (refusal_of a (attempt_in n)) v))
    → (x : PlainView) × (y : Act (Unit {0})) × Rattle.atomic_table.specs.Table.Valid s.homes me.1 y × IsPlain (stepped s 1 (either (eqb n 0) w n) id me.1 x y) × PlainTries (step slots 1 0 w none) me n (x, Rattle.atomic_table.specs.Table.carried_after me.1 y)
    = λ b is now. let x : PlainView = cond b (plain_view v.registers (v.holds ++ new_hold e a ∷ []) v.low v.high) (with_refusal e (refusal_of a (attempt_in n)) v) in (
      x,
      keeps,
      tt,
      subst (λ (z : Bool × List (ℕ × Unit {0})). IsPlain (stepped s 1 (either z.0 w n) id z.1 x keeps)) (λ i. (sym is i, sym bare i)) (replaced s r id 1 (either b w n) v x at now),
      (
        (λ i. (cond (sym is i) (plain_view v.registers (v.holds ++ new_hold (sym whose i) (sym which i) ∷ []) v.low v.high) (with_refusal (sym whose i) (refusal_of (sym which i) (attempt_in n)) v), me.1)),
        found,
        now.history,
      ),
    ) in
    ⊎_elim
    (λ (f : (open_hold v.holds ≡ None) × (is_last_open v.holds ≡ false)). let is_zero : n ≡ 0 = found ∙ ap lock_word f.0 in
    told true (eq-eqb n 0 is_zero) record {
      history = takes e a v end agrees.history f.0 new news;
      long = length-set s.words 1 w ∙ long;
      lock = get_or-set_same s.words 1 w 0 (omega arith) ∙ (word ∙ ap lock_word (sym (open_hold-snoc v.holds (new_hold e a))));
    })
    (λ (f : (h : Hold) × (open_hold v.holds ≡ Some h) × (is_last_open v.holds ≡ true)).
    let h = f.0 in let is : n ≡ 1 + 2 * h.attempt + h.end = found ∙ ap lock_word f.1 in let some_word : n ≢ 0 = λ z. omega arith in
    let o = other v.holds e h agrees.history.holds end shut f.1 in let who = o.end in let that : h.attempt ≡ attempt_in n = omega arith in
    let same = same_holds e (refusal_of a (attempt_in n)) v in
    told false (ne_eqb n 0 some_word) record {
      history = refuses e a (attempt_in n) (keys o.past) v end agrees.history (ap keys o.is ∙ (keys-snoc o.past h ∙ ap (λ k. keys o.past ++ k ∷ []) (λ i. (who i, that i)))) new news;
      long = length-set s.words 1 n ∙ long;
      lock = get_or-set_same s.words 1 n 0 (omega arith) ∙ (found ∙ ap (λ l. lock_word (open_hold l)) (sym same));
    })
    (none_or_held v.holds)

pub kept_change : (v : PlainView) (past : List Hold) (h g : Hold) → IsKept v → v.holds ≡ past ++ h ∷ [] → key h ≡ key g → IsHistory (site_count v.registers) (past ++ g ∷ []) → IsKept (plain_view v.registers (past ++ g ∷ []) v.low v.high)
kept_change v past h g k is same i = let ks = ap keys is ∙ sym (keys-change past h g same) in record {
  holds = i;
  lower = subst (λ l. IsSide l 0 v.low) ks k.lower;
  higher = subst (λ l. IsSide l 1 v.high) ks k.higher;
}

-- the last hold h becomes f h
turned : (s : S) (r : IsPlain s) (id i n : ℕ) (me : M) → me.1 ≡ [] → get_elem? s.views id ≡ some me.0 → (f : Hold → Hold) (past : List Hold) (h : Hold) → me.0.holds ≡ past ++ h ∷ [] → key h ≡ key (f h) → IsHistory (site_count me.0.registers) (past ++ f h ∷ [])
    → length (set s.words i n) ≡ 3 → get_or (set s.words i n) 1 0 ≡ lock_word (open_hold (past ++ f h ∷ [])) → IsPlain (stepped s i n id me.1 (plain_view_after_change f me.0) keeps) × IsKept (plain_view_after_change f me.0)
turned s r id i n me bare at f past h is same history long lock =
    let v : PlainView = me.0 in let kept = (r.agrees id v at).history in
    let last : change_last f v.holds ≡ past ++ f h ∷ [] = ap (change_last f) is ∙ change_last-snoc f past h in
    let now : Agrees (set s.words i n) (plain_view v.registers (past ++ f h ∷ []) v.low v.high) = record { history = kept_change v past h (f h) kept is same history; long = long; lock = lock } in
    let now' = subst (λ l. Agrees (set s.words i n) (plain_view v.registers l v.low v.high)) (sym last) now in (
      subst (λ c. IsPlain (stepped s i n id c (plain_view_after_change f v) keeps)) (sym bare) (replaced s r id i n v (plain_view_after_change f v) at now'),
      now'.history,
    )

-- an access that may be noted makes a history again
history_notes : (x : Access) (v : PlainView) (past : List Hold) (h : Hold) → IsAccess x v → v.holds ≡ past ++ h ∷ [] → IsHistory (site_count v.registers) v.holds → IsHistory (site_count v.registers) (past ++ with_access x h ∷ [])
history_notes (Read q n) v past h ok is i =
    history_accesses past h (Read q n) (subst (IsHistory (site_count v.registers)) is i) (λ x y e. let a : q ≡ x = cc in let b : n ≡ y = cc in sym b ∙ (ok.1 ∙ (ap (λ l. register_value l q) is ∙ ap (register_value (past ++ h ∷ [])) a))) tt
history_notes (Write q n) v past h ok is i = history_accesses past h (Write q n) (subst (IsHistory (site_count v.registers)) is i) (λ x y e. absurd (cc)) ok.1

-- the load that notes an access in the open hold
pub notes : (slots id : ℕ) (me : M) (x : Access) → me.1 ≡ [] → MayNote x me.0 → Allows IsPlain slots id me 2 (λ n. n) (PlainNotes x (step slots 2 0 0 none) me)
notes slots id me x bare may s r _ at _ =
    let v : PlainView = me.0 in let agrees = r.agrees id v at in let n : ℕ = get_or s.words 2 0 in let words = set-get_or s.words 2 0 in
    let last = ends_held v.holds may.0 in let h = last.0 in let past = last.1.past in let is = last.1.is in
    let p = turned s r id 2 n me bare at (with_access x) past h is refl (history_notes x v past h may.1 is agrees.history.holds)
    (ap length words ∙ agrees.long) (ap (λ l. get_or l 1 0) words ∙ (agrees.lock ∙ (ap (λ l. lock_word (open_hold l)) is ∙ sym (same_word past h x)))) in
    (plain_view_after_change (with_access x) v, keeps, tt, p.0, (refl, p.1))

-- the store by which the end e gives the edge back
pub gives : (slots id e : ℕ) (me : M) → me.1 ≡ [] → is_last_open (own e me.0.holds) ≡ true → Allows IsPlain slots id me 1 (λ _. 0) (λ _. PlainGives (step slots 1 0 0 none) me 0)
gives slots id e me bare held s r _ at _ =
    let v : PlainView = me.0 in let agrees = r.agrees id v at in let long = agrees.long in
    let has = holder v.holds (own e v.holds) e agrees.history.holds refl held in let past = has.past in let h = has.h in
    let old : IsHistory (site_count v.registers) (past ++ h ∷ []) = subst (IsHistory (site_count v.registers)) has.is agrees.history.holds in
    let p = turned s r id 1 0 me bare at closed_hold past h has.is refl (history_ends past h old)
    (length-set s.words 1 0 ∙ long) (get_or-set_same s.words 1 0 0 (omega arith) ∙ ap lock_word (sym (open_hold-snoc past (closed_hold h)))) in
    (plain_view_after_change closed_hold v, keeps, tt, p.0, (refl, p.1))

-- what a read by the end that has the edge shows, of a history that is kept
pub shows_known : (e q n : ℕ) (v : PlainView) (rs : List Refusal) → IsKept v → is_last_open (own e v.holds) ≡ true → n ≡ register_value v.holds q → Shows (known_value (end_lists (own e v.holds) rs) q) n × IsAllowed (site_count v.registers) q n
shows_known e q n v rs k held is =
    let has = holder v.holds (own e v.holds) e k.holds refl held in let all = trace-snoc has.past has.h in
    let old : IsHistory (site_count v.registers) (has.past ++ has.h ∷ []) = subst (IsHistory (site_count v.registers)) has.is k.holds in
    let found : n ≡ last_value (trace has.past ++ has.h.accesses) q 0 = is ∙ (ap (λ l. register_value l q) has.is ∙ ap (λ t. last_value t q 0) all) in
    let mine_last : last_accesses (own e v.holds) ≡ has.h.accesses = ap last_accesses has.mine_is ∙ last_accesses-snoc (own e has.past) has.h in (
      subst (λ (x : List Access × ℕ). Shows (last_shown x.0 q None) x.1) (λ i. (sym mine_last i, sym found i)) (shows_value (trace has.past) has.h.accesses q None (subst ReadsTrue all old.reads) tt),
      subst (IsAllowed (site_count v.registers) q) (sym found) (allowed_value (site_count v.registers) q (trace has.past ++ has.h.accesses) 0 (subst (All (IsAllowedAccess (site_count v.registers))) all old.writes) (λ k _ _. refl)),
    )

-- where an end has the edge, the last hold of all is open
pub held_last : (e : ℕ) (v : PlainView) → IsKept v → is_last_open (own e v.holds) ≡ true → is_last_open v.holds ≡ true
held_last e v k held = let has = holder v.holds (own e v.holds) e k.holds refl held in ap is_last_open has.is ∙ (is_held-snoc has.past has.h ∙ has.is_open)

pub kept_none : (size : ℕ) → IsKept (plain_view size [] [] [])
kept_none size = record { holds = history_none; lower = side_none 0; higher = side_none 1 }

pub opens : (size : ℕ) (words : List ℕ) → words ≡ 0 ∷ 0 ∷ 0 ∷ [] → IsPlain (opening words [] (plain_view size [] [] []))
opens size words is = record { one = refl; agrees = λ id v e. only id v e record { history = kept_none size; long = ap length is; lock = ap (λ l. get_or l 1 0) is } }
  where
    only : (id : ℕ) (v : PlainView) → get_elem? (plain_view size [] [] [] ∷ []) id ≡ some v → Agrees words (plain_view size [] [] []) → Agrees words v
    only zero v e a = subst (Agrees words) (some-injective (plain_view size [] [] []) v e) a
    only (suc id) v e a = absurd (some-ne-none v (sym e))

-- the registers are those of the view's holds
abbrev pub HasNow : List ℕ → PlainView → Type 0
HasNow registers view = AreNow view.registers view.holds registers

-- a try leaves the registers as they are
pub now_tried : (e a n : ℕ) (v : PlainView) (registers : List ℕ) → HasNow registers v → HasNow registers (plain_view_after_try e a n v)
now_tried e a n v registers now = by (eqb n 0)
  where
    by : (b : Bool) → HasNow registers (cond b (plain_view v.registers (v.holds ++ new_hold e a ∷ []) v.low v.high) (with_refusal e (refusal_of a (attempt_in n)) v))
    by true = now_took v.registers e a v.holds registers now
    by false = now

-- what a try answers, by the word that it found
pub answers_got : (e n : ℕ) (x : PlainEdgeValue) → n ≡ lock_word (open_hold x.holds) → n ≡ 0 → IsAnswer e x Got
answers_got e n x is zero_word = ⊎_elim
    (λ (f : (open_hold x.holds ≡ None) × (is_last_open x.holds ≡ false)). f.0)
    (λ (f : (h : Hold) × (open_hold x.holds ≡ Some h) × (is_last_open x.holds ≡ true)). let w : n ≡ 1 + 2 * f.0.attempt + f.0.end = is ∙ ap lock_word f.1 in absurd (omega arith))
    (none_or_held x.holds)

pub answers_busy : (e n : ℕ) (x : PlainEdgeValue) → IsKept (view_of x) → e < 2 → IsFree (own_lists e x) → n ≡ lock_word (open_hold x.holds) → n ≢ 0 → IsAnswer e x (Busy (attempt_in n))
answers_busy e n x k end free is some_word = ⊎_elim
    (λ (f : (open_hold x.holds ≡ None) × (is_last_open x.holds ≡ false)). absurd (some_word (is ∙ ap lock_word f.0)))
    (λ (f : (h : Hold) × (open_hold x.holds ≡ Some h) × (is_last_open x.holds ≡ true)).
    let h = f.0 in let w : n ≡ 1 + 2 * h.attempt + h.end = is ∙ ap lock_word f.1 in let o = other x.holds e h k.holds end free f.1 in let who = o.end in (h, f.1, who, omega arith))
    (none_or_held x.holds)

-- what a try does to the lists of the end that tries
pub own_tried : (e a : ℕ) (t : Take) (x : PlainEdgeValue) → e < 2 → own_lists e (edge_after_try e a t x) ≡ after_try e a t (own_lists e x)
own_tried e a Got x end = λ i. end_lists (own-here e x.holds (new_hold e a) refl i) (cond (eqb e 0) x.low x.high)
own_tried zero a (Busy b) x end = refl
own_tried (suc zero) a (Busy b) x end = refl
own_tried (suc (suc e)) a (Busy b) x end = absurd (omega arith)

-- what a change of the last hold does to the lists of the end whose hold it is
pub own_changed : (e : ℕ) (f : Hold → Hold) (x : PlainEdgeValue) → ((h : Hold) → (f h).end ≡ h.end) → IsKept (view_of x) → IsHeld (own_lists e x) → own_lists e (with_view x (plain_view_after_change f (view_of x))) ≡ end_lists (change_last f (own e x.holds)) (cond (eqb e 0) x.low x.high)
own_changed e f x keeps_end k held =
    let has = holder x.holds (own e x.holds) e k.holds refl held in
    let now : own e (change_last f x.holds) ≡ change_last f (own e x.holds) =
    ap (own e) (ap (change_last f) has.is ∙ change_last-snoc f has.past has.h) ∙ (own-here e has.past (f has.h) (keeps_end has.h ∙ has.end) ∙ (sym (change_last-snoc f (own e has.past) has.h) ∙ ap (change_last f) (sym has.mine_is))) in
    λ i. end_lists (now i) (cond (eqb e 0) x.low x.high)

-- the other end's lists stay
pub other_tried : (e a : ℕ) (t : Take) (x : PlainEdgeValue) → e < 2 → own_lists (1 - e) (edge_after_try e a t x) ≡ own_lists (1 - e) x
other_tried e a Got x end = λ i. end_lists (own-there (1 - e) x.holds (new_hold e a) (λ h. omega arith) i) (cond (eqb (1 - e) 0) x.low x.high)
other_tried zero a (Busy b) x end = refl
other_tried (suc zero) a (Busy b) x end = refl
other_tried (suc (suc e)) a (Busy b) x end = absurd (omega arith)

pub other_changed : (e : ℕ) (f : Hold → Hold) (x : PlainEdgeValue) → e < 2 → ((h : Hold) → (f h).end ≡ h.end) → IsKept (view_of x) → IsHeld (own_lists e x) → own_lists (1 - e) (with_view x (plain_view_after_change f (view_of x))) ≡ own_lists (1 - e) x
other_changed e f x end keeps_end k held =
    let has = holder x.holds (own e x.holds) e k.holds refl held in let g = 1 - e in
    let apart : (h : Hold) → h.end ≡ e → h.end ≢ g = λ h is same. omega arith in
    let now : own g (change_last f x.holds) ≡ own g x.holds =
    ap (own g) (ap (change_last f) has.is ∙ change_last-snoc f has.past has.h)
    ∙ (own-there g has.past (f has.h) (apart (f has.h) (keeps_end has.h ∙ has.end)) ∙ (sym (own-there g has.past has.h (apart has.h has.end)) ∙ ap (own g) (sym has.is))) in
    λ i. end_lists (now i) (cond (eqb g 0) x.low x.high)
