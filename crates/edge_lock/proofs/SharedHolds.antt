-- The steps of the end that has the edge keep the rule.
use Rattle.std.proofs.Common.{◌≡◌, ◌≢◌, ℕ, ◌<◌, eqb, Bool, true, false, cond, true≢false, List, [], ◌∷◌, ◌++◌, length, get_or, set, refl, sym, ap, ◌∙◌, subst, ⊎_elim, arith, eq-eqb, ne_eqb, append_assoc, length-set, get_or-set_same, Option, Some, None}
use Rattle.std.specs.Prelude.{All}
use Rattle.std.proofs.lemmas.List.{append-nil, set-get_or}
use Rattle.std.proofs.lemmas.List.Elements.{All-filter}
use mathlib.Core.Logic.{dite}
use mathlib.Core.Option.{none, some}
use Rattle.std.proofs.lemmas.Option.{none-some}
use native.Mathlib.Decide.{ℕ_discrete}
use lib.ListN.{get_elem?}
use Rattle.atomic_table.specs.Table.{step, keeps, gives, stepped, Allows}
use Rattle.atomic_table.proofs.Lists.{set_here}
use Rattle.edge_lock.specs.declared.history.Access.{Access}
use Rattle.edge_lock.specs.declared.history.Access.TheVariants.{Read, Write}
use Rattle.edge_lock.specs.declared.history.Hold.{Hold}
use Rattle.edge_lock.specs.declared.history.Refusal.{Refusal}
use Rattle.edge_lock.specs.declared.edge_steps.View.TheVariants.{Paired}
use Rattle.edge_lock.specs.History.{own, trace, last_value, register_value, ReadsTrue, IsAllowed, IsAllowedAccess, OnlyLastOpen, open_hold, key, keys, site_count, IsSide, IsHistory}
use Rattle.edge_lock.specs.EndLists.{end_lists, is_last_open, change_last, with_access, closed_hold, last_accesses, last_shown, Shows, known_value, IsHeld}
use Rattle.edge_lock.specs.Passes.{IsPaired}
use Rattle.edge_lock.specs.RegistersNow.{AreNow}
use Rattle.edge_lock.specs.SharedRule.{lock_word, IsAtHome, IsPart, IsShared, lists_in, now_in, slots_of, now_after, HasEdge, CanNote, IsShown, IsNoted, GivesBack}
use Rattle.edge_lock.proofs.LastHolds.{open_hold-snoc, ends_open, change_last-snoc, last_accesses-snoc, none_or_held, trace-snoc, written-append}
use Rattle.edge_lock.proofs.HistorySteps.{all-cons, all-none, all-tail, all-head, history_accesses, history_ends, keys-change, register_value-read, register_value-write, register_value-ended, own-here, own-there}
use Rattle.edge_lock.proofs.RegistersNow.{now_same, now_set}
use Rattle.edge_lock.proofs.SharedSteps.{S, M, GoesOn, moved}

abbrev Shut : Hold → Type 0
Shut h = h.is_open ≡ false

shut_if : (b : Bool) (h : Hold) → cond b (Some h) None ≡ None → b ≡ false
shut_if true h e = absurd (none-some h (sym e))
shut_if false h e = refl

all_shut : (hs : List Hold) → OnlyLastOpen hs → open_hold hs ≡ None → All Shut hs
all_shut [] o e = all-none Shut
all_shut (x ∷ []) o e = all-cons Shut x [] (shut_if x.is_open x e) (all-none Shut)
all_shut (x ∷ y ∷ hs) o e = all-cons Shut x (y ∷ hs) o.0 (all_shut (y ∷ hs) o.1 e)

past_shut : (past : List Hold) (h : Hold) → OnlyLastOpen (past ++ h ∷ []) → All Shut past
past_shut [] h o = all-none Shut
past_shut (x ∷ []) h o = all-cons Shut x [] o.0 (all-none Shut)
past_shut (x ∷ y ∷ past) h o = all-cons Shut x (y ∷ past) o.0 (past_shut (y ∷ past) h o.1)

not_held : (hs : List Hold) → All Shut hs → is_last_open hs ≡ false
not_held [] a = refl
not_held (x ∷ []) a = all-head Shut x [] a
not_held (x ∷ y ∷ hs) a = not_held (y ∷ hs) (all-tail Shut x (y ∷ hs) a)

own_shut : (e : ℕ) (hs : List Hold) → All Shut hs → is_last_open (own e hs) ≡ false
own_shut e hs a = not_held (own e hs) (All-filter (λ (h : Hold). eqb h.end e) Shut hs a)

pub record Holder (hs mine : List Hold) (e : ℕ) : Type 0 where
  pub past : List Hold
  pub h : Hold
  pub is : hs ≡ past ++ h ∷ []
  pub mine_is : mine ≡ own e past ++ h ∷ []
  pub end : h.end ≡ e
  pub is_open : h.is_open ≡ true

-- the end whose own last hold is open has the last hold of all
pub holder : {n : ℕ} (hs mine : List Hold) (e : ℕ) → IsHistory n hs → own e hs ≡ mine → is_last_open mine ≡ true → Holder hs mine e
holder hs mine e i own_is held =
    ⊎_elim
    (λ (f : (open_hold hs ≡ None) × (is_last_open hs ≡ false)). absurd (true≢false (sym held ∙ (ap is_last_open (sym own_is) ∙ own_shut e hs (all_shut hs i.only_last f.0)))))
    (λ (f : (h : Hold) × (open_hold hs ≡ Some h) × (is_last_open hs ≡ true)). let h = f.0 in let last = ends_open hs h f.1 in let past = last.0.past in let is = last.0.is in
    dite (ℕ_discrete h.end e)
    (λ same. record { past = past; h = h; is = is; mine_is = sym own_is ∙ (ap (own e) is ∙ own-here e past h same); end = same; is_open = last.1 })
    (λ apart. absurd (true≢false (sym held ∙ (ap is_last_open (sym own_is ∙ (ap (own e) is ∙ own-there e past h apart)) ∙ own_shut e past (past_shut past h (subst OnlyLastOpen is i.only_last)))))))
    (none_or_held hs)

-- the last hold h, which is open, becomes g
changes : {n : ℕ} (hs past : List Hold) (h g : Hold) (e : ℕ) → hs ≡ past ++ h ∷ [] → key h ≡ key g → h.end ≡ e → OnlyLastOpen (past ++ h ∷ []) → IsHistory n (past ++ g ∷ []) → GoesOn n hs e (past ++ g ∷ [])
changes hs past h g e is same end only i = let ends : h.end ≡ g.end = ap (λ (k : ℕ × ℕ). k.0) same in
    let theirs : (f : ℕ) → f ≢ e → own f hs ≡ own f past = λ f apart. ap (own f) is ∙ own-there f past h (λ x. apart (sym x ∙ end)) in record {
      history = i;
      same = λ f apart. own-there f past g (λ x. apart (sym x ∙ (sym ends ∙ end))) ∙ sym (theirs f apart);
      fits = λ f rs apart side. subst (λ ks. IsSide ks f rs) (ap keys is ∙ sym (keys-change past h g same)) side;
      kept = λ f _ _ apart held _. absurd (true≢false (sym held ∙ (ap is_last_open (theirs f apart) ∙ own_shut f past (past_shut past h only))));
    }

pub same_word : (past : List Hold) (h : Hold) (x : Access) → lock_word (open_hold (past ++ with_access x h ∷ [])) ≡ lock_word (open_hold (past ++ h ∷ []))
same_word past h x = ap lock_word (open_hold-snoc past (with_access x h)) ∙ (either_way h.is_open ∙ ap lock_word (sym (open_hold-snoc past h)))
  where
    either_way : (b : Bool) → lock_word (cond b (Some (with_access x h)) None) ≡ lock_word (cond b (Some h) None)
    either_way true = refl
    either_way false = refl

pub allowed_value : (n : ℕ) (r : ℕ) (xs : List Access) (x : ℕ) → All (IsAllowedAccess n) xs → IsAllowed n r x → IsAllowed n r (last_value xs r x)
allowed_value n r [] x a i = i
allowed_value n r (Read q v ∷ xs) x a i = allowed_value n r xs x (all-tail (IsAllowedAccess n) (Read q v) xs a) i
allowed_value n r (Write q v ∷ xs) x a i = allowed_value n r xs (cond (eqb r q) v x) (all-tail (IsAllowedAccess n) (Write q v) xs a)
    (dite (ℕ_discrete r q)
    (λ same. subst (λ b. IsAllowed n r (cond b v x)) (sym (eq-eqb r q same)) (λ k few e. all-head (IsAllowedAccess n) (Write q v) xs a k few (sym same ∙ e)))
    (λ apart. subst (λ b. IsAllowed n r (cond b v x)) (sym (ne_eqb r q apart)) i))

shows_cond : (b : Bool) (o : Option ℕ) (v x : ℕ) → Shows o x → Shows (cond b (Some v) o) (cond b v x)
shows_cond true o v x s = refl
shows_cond false o v x s = s

-- what the last read or write of a hold showed is what the register has
pub shows_value : (before xs : List Access) (r : ℕ) (o : Option ℕ) → ReadsTrue (before ++ xs) → Shows o (last_value before r 0) → Shows (last_shown xs r o) (last_value (before ++ xs) r 0)
shows_value before [] r o t s = subst (λ l. Shows o (last_value l r 0)) (sym (append-nil before)) s
shows_value before (Read q v ∷ xs) r o t s =
    let now = append_assoc before (Read q v ∷ []) xs in
    subst (λ l. Shows (last_shown xs r (cond (eqb r q) (Some v) o)) (last_value l r 0)) now
    (shows_value (before ++ Read q v ∷ []) xs r (cond (eqb r q) (Some v) o) (subst ReadsTrue (sym now) t)
    (subst (λ x. Shows (cond (eqb r q) (Some v) o) x) (sym (written-append before (Read q v ∷ []) r 0))
    (dite (ℕ_discrete r q)
    (λ same. subst (λ b. Shows (cond b (Some v) o) (last_value before r 0)) (sym (eq-eqb r q same)) (ap (λ y. last_value before y 0) same ∙ sym (t before q v xs refl)))
    (λ apart. subst (λ b. Shows (cond b (Some v) o) (last_value before r 0)) (sym (ne_eqb r q apart)) s))))
shows_value before (Write q v ∷ xs) r o t s =
    let now = append_assoc before (Write q v ∷ []) xs in
    subst (λ l. Shows (last_shown xs r (cond (eqb r q) (Some v) o)) (last_value l r 0)) now
    (shows_value (before ++ Write q v ∷ []) xs r (cond (eqb r q) (Some v) o) (subst ReadsTrue (sym now) t)
    (subst (λ x. Shows (cond (eqb r q) (Some v) o) x) (sym (written-append before (Write q v ∷ []) r 0)) (shows_cond (eqb r q) o v (last_value before r 0) s)))

module _ (e : ℕ) (mine : List Hold) (rs : List Refusal) (u : List ℕ) (held : is_last_open mine ≡ true) (size : ℕ) (s : S) (r : IsShared size s) (id : ℕ) (at : get_elem? s.views id ≡ some (Paired size e mine rs u)) where
  abbrev mine_is : IsPart r.stage r.hs (length s.views) id (Paired size e mine rs u)
  mine_is = r.views id (Paired size e mine rs u) at

  abbrev has : Holder r.hs mine e
  has = holder r.hs mine e r.history mine_is.3 held

  abbrev history : IsHistory (site_count size) (has.past ++ has.h ∷ [])
  history = subst (IsHistory (site_count size)) has.is r.history

  are : AreNow size (has.past ++ has.h ∷ []) u
  are = subst (λ l. AreNow size l u) has.is (mine_is.5 held)

  -- the last hold becomes g, the word i becomes n, and the registers become w
  turned : (i n : ℕ) (f : Hold → Hold) (w : List ℕ) (homes : List (mathlib.Core.Option.Option (List ℕ))) → i ≢ 2 → key has.h ≡ key (f has.h) → IsHistory (site_count size) (has.past ++ f has.h ∷ [])
      → get_or (set s.words i n) 1 0 ≡ lock_word (open_hold (has.past ++ f has.h ∷ [])) → length homes ≡ 1 → (open_hold (has.past ++ f has.h ∷ []) ≡ None → IsAtHome size (has.past ++ f has.h ∷ []) homes)
      → AreNow size (has.past ++ f has.h ∷ []) w → IsShared size record { words = set s.words i n; homes = homes; views = set s.views id (Paired size e (change_last f mine) rs w) }
  turned i n f w homes not_claims same h lock room home now =
      let ends : has.h.end ≡ (f has.h).end = ap (λ (k : ℕ × ℕ). k.0) same in
      moved size s r id e i n mine (change_last f mine) rs rs u w (has.past ++ f has.h ∷ []) homes at (changes r.hs has.past has.h (f has.h) e has.is same has.end history.only_last h) not_claims lock room home
      (own-here e has.past (f has.h) (sym ends ∙ has.end) ∙ (sym (change_last-snoc f (own e has.past) has.h) ∙ ap (change_last f) (sym has.mine_is)))
      (subst (λ ks. IsSide ks e rs) (ap keys has.is ∙ sym (keys-change has.past has.h (f has.h) same)) mine_is.4)
      (λ _. now)

  -- the last hold has one more access, of which a load of the word 18 tells
  notes_one : (x : Access) (w : List ℕ) → IsHistory (site_count size) (has.past ++ with_access x has.h ∷ []) → AreNow size (has.past ++ with_access x has.h ∷ []) w
      → IsShared size (stepped s 18 (get_or s.words 18 0) id [] (Paired size e (change_last (with_access x) mine) rs w) keeps)
  notes_one x w i now =
      turned 18 (get_or s.words 18 0) (with_access x) w s.homes (λ h. omega arith) refl i
      (ap (λ l. get_or l 1 0) (set-get_or s.words 18 0) ∙ (r.lock ∙ (ap (λ l. lock_word (open_hold l)) has.is ∙ sym (same_word has.past has.h x))))
      r.room
      (λ nobody. absurd (none-some (with_access x has.h) (sym nobody ∙ (open_hold-snoc has.past (with_access x has.h) ∙ ap (λ b. cond b (Some (with_access x has.h)) None) has.is_open))))
      now

  reads_one : (q v : ℕ) → q < size → v ≡ get_or u q 0 → IsShared size (stepped s 18 (get_or s.words 18 0) id [] (Paired size e (change_last (with_access (Read q v)) mine) rs u) keeps)
  reads_one q v inside is =
      let found : v ≡ register_value (has.past ++ has.h ∷ []) q = is ∙ are.values q inside in
      notes_one (Read q v) u
      (history_accesses has.past has.h (Read q v) history (λ p w x. let a : q ≡ p = cc in let b : v ≡ w = cc in sym b ∙ (found ∙ ap (register_value (has.past ++ has.h ∷ [])) a)) tt)
      (now_same size (has.past ++ has.h ∷ []) (has.past ++ with_access (Read q v) has.h ∷ []) u (register_value-read has.past has.h q v) are)

  writes_one : (q v : ℕ) → q < size → IsAllowed (site_count size) q v → IsShared size (stepped s 18 (get_or s.words 18 0) id [] (Paired size e (change_last (with_access (Write q v)) mine) rs (set u q v)) keeps)
  writes_one q v inside ok =
      notes_one (Write q v) (set u q v)
      (history_accesses has.past has.h (Write q v) history (λ p w x. absurd (cc)) ok)
      (now_set size (has.past ++ has.h ∷ []) (has.past ++ with_access (Write q v) has.h ∷ []) u q v inside (register_value-write has.past has.h q v) are)

  gives_one : IsShared size (stepped s 1 0 id ((0, u) ∷ []) (Paired size e (change_last closed_hold mine) rs u) gives)
  gives_one =
      let long = r.long in let room = r.room in
      let now = now_same size (has.past ++ has.h ∷ []) (has.past ++ closed_hold has.h ∷ []) u (register_value-ended has.past has.h) are in
      turned 1 0 closed_hold u (set s.homes 0 (some u)) (λ h. omega arith) refl (history_ends has.past has.h history)
      (get_or-set_same s.words 1 0 0 (omega arith) ∙ ap lock_word (sym (open_hold-snoc has.past (closed_hold has.h))))
      (length-set s.homes 0 (some u) ∙ room)
      (λ _. record { now = u; there = set_here s.homes 0 (some u) (omega arith); are = now })
      now

  shows_one : (q v : ℕ) → q < size → v ≡ get_or u q 0 → Shows (known_value (end_lists mine rs) q) v × IsAllowed (site_count size) q v
  shows_one q v inside is =
      let all = trace-snoc has.past has.h in
      let found : v ≡ last_value (trace has.past ++ has.h.accesses) q 0 = is ∙ (are.values q inside ∙ ap (λ t. last_value t q 0) all) in
      let mine_last : last_accesses mine ≡ has.h.accesses = ap last_accesses has.mine_is ∙ last_accesses-snoc (own e has.past) has.h in (
        subst (λ (x : List Access × ℕ). Shows (last_shown x.0 q None) x.1) (λ i. (sym mine_last i, sym found i)) (shows_value (trace has.past) has.h.accesses q None (subst ReadsTrue all history.reads) tt),
        subst (IsAllowed (site_count size) q) (sym found) (allowed_value (site_count size) q (trace has.past ++ has.h.accesses) 0 (subst (All (IsAllowedAccess (site_count size))) all history.writes) (λ k _ _. refl)),
      )

  notes_as : (x : Access) → CanNote size u x
      → IsShared size (stepped s 18 (get_or s.words 18 0) id [] (Paired size e (change_last (with_access x) mine) rs (now_after x u)) keeps) × IsShown size (end_lists mine rs) x
  notes_as (Read q v) can = (reads_one q v can.0 can.1, shows_one q v can.0 can.1)
  notes_as (Write q v) can = (writes_one q v can.0 can.1, tt)

pub notes : (size slots id : ℕ) (me : M) (x : Access) → HasEdge size me.0 → CanNote size (now_in me.0) x → Allows (IsShared size) slots id me 18 (λ n. n) (λ _. IsNoted x me)
notes size slots id me x has can =
    subst (λ v. CanNote size (now_in v) x → Allows (IsShared size) slots id (v, me.1) 18 (λ n. n) (λ _. IsNoted x (v, me.1))) (sym has.1)
    (λ can s r _ at _. let mine = (lists_in me.0).holds in let rs = (lists_in me.0).refusals in let u = now_in me.0 in
    let both = notes_as has.0 mine rs u has.2 size s r id at x can in
    (Paired size has.0 (change_last (with_access x) mine) rs (now_after x u), keeps, tt, both.0, record { view = refl; slots = refl; shown = both.1 }))
    can

pub gives_back : (size slots id e : ℕ) (me : M) → IsPaired size e me → IsHeld (lists_in me.0) → Allows (IsShared size) slots id me 1 (λ _. 0) (λ _. GivesBack (step slots 1 0 0 none) me 0)
gives_back size slots id e me is held =
    let slots_is : me.1 ≡ (0, now_in me.0) ∷ [] = is.slots ∙ (ap slots_of is.view ∙ ap (λ b. cond b ((0, now_in me.0) ∷ []) []) held) in
    subst (λ m. Allows (IsShared size) slots id m 1 (λ _. 0) (λ _. GivesBack (step slots 1 0 0 none) m 0)) (λ i. (sym is.view i, sym slots_is i))
    (λ s r _ at _. let mine = (lists_in me.0).holds in let rs = (lists_in me.0).refusals in let u = now_in me.0 in
    (Paired size e (change_last closed_hold mine) rs u, gives, tt, gives_one e mine rs u held size s r id at, refl))
