-- What a caller of a board knows of the lists of one edge after its calls.
use Rattle.std.proofs.Common.{◌≡◌, ◌≢◌, ℕ, ◌+◌, ◌<◌, eqb, Bool, true, false, cond, true≢false, List, [], ◌∷◌, ◌++◌, refl, sym, ap, ◌∙◌, subst, arith, Option, Some, None}
use Rattle.std.specs.Prelude.{All}
use Rattle.std.proofs.lemmas.List.Elements.{All-push}
use Rattle.edge_lock.specs.declared.board.Take.{Take}
use Rattle.edge_lock.specs.declared.board.Take.TheVariants.{Got, Busy}
use Rattle.edge_lock.specs.declared.history.Access.{Access}
use Rattle.edge_lock.specs.declared.history.Access.TheVariants.{Read, Write}
use Rattle.edge_lock.specs.declared.history.Hold.{Hold}
use Rattle.edge_lock.specs.EndLists.{EndLists, change_last, is_last_open, new_hold, refusal_of, with_access, closed_hold, last_accesses, last_shown, writes_nothing, known_value, HasNoWrite, IsHeld, IsFree, IsNew, IsHoldBelow, IsRefusalBelow, after_try, after_access, after_give, replace_at, end_lists, hold_of, with_hold}
use Rattle.edge_lock.specs.EndValues.{EndValue, SameEnd}
use Rattle.edge_lock.proofs.LastHolds.{replace_at-here, replace_at-else, is_held-snoc, last_accesses-snoc, change_last-snoc}
use Rattle.edge_lock.proofs.HistorySteps.{all-cons, all-none, all-head, all-tail}

-- a board's end stays through two stretches if it stays through each
pub same_end : (a b d : EndValue) → SameEnd a b → SameEnd b d → SameEnd a d
same_end a b d p q = (q.0 ∙ p.0, q.1 ∙ p.1, q.2 ∙ p.2)

pub same_end_here : (a : EndValue) → SameEnd a a
same_end_here a = (refl, refl, refl)

-- the lists of an edge after a call on it
pub here_after : (f g : ℕ → EndLists) (e : ℕ) (x : EndLists) → g ≡ replace_at f e x → g e ≡ x
here_after f g e x is = ap (λ (h : ℕ → EndLists). h e) is ∙ replace_at-here f e x

-- the lists of all other edges stay
pub else_after : (f g : ℕ → EndLists) (e i : ℕ) (x : EndLists) → g ≡ replace_at f e x → i ≢ e → g i ≡ f i
else_after f g e i x is apart = ap (λ (h : ℕ → EndLists). h i) is ∙ replace_at-else f e i x apart

pub is_held-change_last : (f : Hold → Hold) (hs : List Hold) → ((h : Hold) → (f h).is_open ≡ h.is_open) → is_last_open (change_last f hs) ≡ is_last_open hs
is_held-change_last f [] k = refl
is_held-change_last f (x ∷ []) k = k x
is_held-change_last f (x ∷ y ∷ []) k = k y
is_held-change_last f (x ∷ y ∷ z ∷ hs) k = is_held-change_last f (y ∷ z ∷ hs) k

is_held-closed : (hs : List Hold) → is_last_open (change_last closed_hold hs) ≡ false
is_held-closed [] = refl
is_held-closed (x ∷ []) = refl
is_held-closed (x ∷ y ∷ []) = refl
is_held-closed (x ∷ y ∷ z ∷ hs) = is_held-closed (y ∷ z ∷ hs)

below-change_last : (a : ℕ) (f : Hold → Hold) (hs : List Hold) → ((h : Hold) → (f h).attempt ≡ h.attempt) → All (IsHoldBelow a) hs → All (IsHoldBelow a) (change_last f hs)
below-change_last a f [] k b = b
below-change_last a f (x ∷ []) k b = all-cons (IsHoldBelow a) (f x) [] (subst (λ n. n < a) (sym (k x)) (all-head (IsHoldBelow a) x [] b)) (all-none (IsHoldBelow a))
below-change_last a f (x ∷ y ∷ hs) k b = all-cons (IsHoldBelow a) x (change_last f (y ∷ hs)) (all-head (IsHoldBelow a) x (y ∷ hs) b) (below-change_last a f (y ∷ hs) k (all-tail (IsHoldBelow a) x (y ∷ hs) b))

pub held_got : (e a : ℕ) (l : EndLists) → IsHeld (after_try e a Got l)
held_got e a l = is_held-snoc l.holds (new_hold e a)

pub free_busy : (e a b : ℕ) (l : EndLists) → IsFree l → IsFree (after_try e a (Busy b) l)
free_busy e a b l f = f

pub held_accessed : (x : Access) (l : EndLists) → IsHeld l → IsHeld (after_access x l)
held_accessed x l h = is_held-change_last (with_access x) l.holds (λ y. refl) ∙ h

pub free_given : (l : EndLists) → IsFree (after_give l)
free_given l = is_held-closed l.holds

pub new_tried : (e a : ℕ) (t : Take) (l : EndLists) → IsNew a l → IsNew (a + 1) (after_try e a t l)
new_tried e a Got l n = record {
  holds = All-push (IsHoldBelow (a + 1)) l.holds (new_hold e a) (λ k d i. let b = n.holds k d i in omega arith) (omega arith);
  refusals = λ k d i. let b = n.refusals k d i in omega arith;
}
new_tried e a (Busy b) l n = record {
  holds = λ k d i. let b = n.holds k d i in omega arith;
  refusals = All-push (IsRefusalBelow (a + 1)) l.refusals (refusal_of a b) (λ k d i. let b = n.refusals k d i in omega arith) (omega arith);
}

pub new_accessed : (a : ℕ) (x : Access) (l : EndLists) → IsNew a l → IsNew a (after_access x l)
new_accessed a x l n = record { holds = below-change_last a (with_access x) l.holds (λ y. refl) n.holds; refusals = n.refusals }

pub new_given : (a : ℕ) (l : EndLists) → IsNew a l → IsNew a (after_give l)
new_given a l n = record { holds = below-change_last a closed_hold l.holds (λ y. refl) n.holds; refusals = n.refusals }

-- what is known of registers, and whether something was written, in the open hold after each kind of call
pub last_shown-append : (xs ys : List Access) (r : ℕ) (o : Option ℕ) → last_shown (xs ++ ys) r o ≡ last_shown ys r (last_shown xs r o)
last_shown-append [] ys r o = refl
last_shown-append (Read q v ∷ xs) ys r o = last_shown-append xs ys r (cond (eqb r q) (Some v) o)
last_shown-append (Write q v ∷ xs) ys r o = last_shown-append xs ys r (cond (eqb r q) (Some v) o)

-- the accesses of the open hold after one more
pub last_accesses-access : (x : Access) (hs : List Hold) → is_last_open hs ≡ true → last_accesses (change_last (with_access x) hs) ≡ last_accesses hs ++ x ∷ []
last_accesses-access x [] held = absurd (true≢false (sym held))
last_accesses-access x (h ∷ []) held = refl
last_accesses-access x (h ∷ g ∷ []) held = refl
last_accesses-access x (h ∷ g ∷ k ∷ hs) held = last_accesses-access x (g ∷ k ∷ hs) held

pub known_got : (e a r : ℕ) (l : EndLists) → known_value (after_try e a Got l) r ≡ None
known_got e a r l = ap (λ xs. last_shown xs r None) (last_accesses-snoc l.holds (new_hold e a))

pub known_read : (q v r : ℕ) (l : EndLists) → IsHeld l → known_value (after_access (Read q v) l) r ≡ cond (eqb r q) (Some v) (known_value l r)
known_read q v r l held = ap (λ xs. last_shown xs r None) (last_accesses-access (Read q v) l.holds held) ∙ last_shown-append (last_accesses l.holds) (Read q v ∷ []) r None

pub known_write : (q v r : ℕ) (l : EndLists) → IsHeld l → known_value (after_access (Write q v) l) r ≡ cond (eqb r q) (Some v) (known_value l r)
known_write q v r l held = ap (λ xs. last_shown xs r None) (last_accesses-access (Write q v) l.holds held) ∙ last_shown-append (last_accesses l.holds) (Write q v ∷ []) r None

writes_nothing-read : (xs : List Access) (q v : ℕ) → writes_nothing (xs ++ Read q v ∷ []) ≡ writes_nothing xs
writes_nothing-read [] q v = refl
writes_nothing-read (Read p u ∷ xs) q v = writes_nothing-read xs q v
writes_nothing-read (Write p u ∷ xs) q v = refl

pub no_write_got : (e a : ℕ) (l : EndLists) → HasNoWrite (after_try e a Got l)
no_write_got e a l = ap writes_nothing (last_accesses-snoc l.holds (new_hold e a))

pub no_write_read : (q v : ℕ) (l : EndLists) → IsHeld l → HasNoWrite l → HasNoWrite (after_access (Read q v) l)
no_write_read q v l held n = ap writes_nothing (last_accesses-access (Read q v) l.holds held) ∙ (writes_nothing-read (last_accesses l.holds) q v ∙ n)

-- the same calls where the last hold is written out
pub access_hold : (x : Access) (e a : ℕ) (xs : List Access) (b : Bool) (l : EndLists) → after_access x (with_hold l (hold_of e a xs b)) ≡ with_hold l (hold_of e a (xs ++ x ∷ []) b)
access_hold x e a xs b l = ap (λ hs. end_lists hs l.refusals) (change_last-snoc (with_access x) l.holds (hold_of e a xs b))

pub give_hold : (e a : ℕ) (xs : List Access) (b : Bool) (l : EndLists) → after_give (with_hold l (hold_of e a xs b)) ≡ with_hold l (hold_of e a xs false)
give_hold e a xs b l = ap (λ hs. end_lists hs l.refusals) (change_last-snoc closed_hold l.holds (hold_of e a xs b))

pub held_hold : (e a : ℕ) (xs : List Access) (l : EndLists) → IsHeld (with_hold l (hold_of e a xs true))
held_hold e a xs l = is_held-snoc l.holds (hold_of e a xs true)

pub free_hold : (e a : ℕ) (xs : List Access) (l : EndLists) → IsFree (with_hold l (hold_of e a xs false))
free_hold e a xs l = is_held-snoc l.holds (hold_of e a xs false)

pub known_hold : (e a r : ℕ) (xs : List Access) (b : Bool) (l : EndLists) → known_value (with_hold l (hold_of e a xs b)) r ≡ last_shown xs r None
known_hold e a r xs b l = ap (λ ys. last_shown ys r None) (last_accesses-snoc l.holds (hold_of e a xs b))

pub no_write_hold : (e a : ℕ) (xs : List Access) (b : Bool) (l : EndLists) → writes_nothing xs ≡ true → HasNoWrite (with_hold l (hold_of e a xs b))
no_write_hold e a xs b l n = ap writes_nothing (last_accesses-snoc l.holds (hold_of e a xs b)) ∙ n

pub new_after_hold : (m e a : ℕ) (xs : List Access) (b : Bool) (l : EndLists) → IsNew m l → a < m → IsNew m (with_hold l (hold_of e a xs b))
new_after_hold m e a xs b l n less = record { holds = All-push (IsHoldBelow m) l.holds (hold_of e a xs b) n.holds less; refusals = n.refusals }
