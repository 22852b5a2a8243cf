-- The last element of a list of holds, and lists of accesses that grow at their end.
use Rattle.std.proofs.Common.{◌≡◌, ◌≢◌, ◌⊎◌, ℕ, suc, ◌<◌, eqb, Bool, true, false, cond, true≢false, List, [], ◌∷◌, ◌++◌, refl, sym, ap, ◌∙◌, subst, inl, inr, ⊎_elim, arith, eq-eqb, ne_eqb, append_assoc, Some, None}
use Rattle.std.specs.Prelude.{All}
use Rattle.std.proofs.lemmas.List.{append-nil, map-append}
use Rattle.std.proofs.lemmas.List.Elements.{All-push}
use Rattle.std.proofs.lemmas.Option.{none-some, same_Some}
use Rattle.edge_lock.specs.declared.history.Access.{Access}
use Rattle.edge_lock.specs.declared.history.Access.TheVariants.{Read, Write}
use Rattle.edge_lock.specs.declared.history.Hold.{Hold}
use Rattle.edge_lock.specs.History.{trace, last_value, ReadsTrue, OnlyLastOpen, open_hold, key, keys, attempts_of, IsRising}
use Rattle.edge_lock.specs.declared.board.Take.TheVariants.{Got}
use Rattle.edge_lock.specs.EndLists.{EndLists, change_last, is_last_open, last_accesses, writes_nothing, new_hold, replace_at, after_try, IsHeld, HasNoWrite}

pub replace_at-here : (f : ℕ → EndLists) (e : ℕ) (x : EndLists) → replace_at f e x e ≡ x
replace_at-here f e x = ap (λ b. cond b x (f e)) (eq-eqb e e refl)

pub replace_at-else : (f : ℕ → EndLists) (e i : ℕ) (x : EndLists) → i ≢ e → replace_at f e x i ≡ f i
replace_at-else f e i x n = ap (λ b. cond b x (f i)) (ne_eqb i e n)

pub is_held-snoc : (hs : List Hold) (h : Hold) → is_last_open (hs ++ h ∷ []) ≡ h.is_open
is_held-snoc [] h = refl
is_held-snoc (x ∷ []) h = refl
is_held-snoc (x ∷ y ∷ hs) h = is_held-snoc (y ∷ hs) h

pub last_accesses-snoc : (hs : List Hold) (h : Hold) → last_accesses (hs ++ h ∷ []) ≡ h.accesses
last_accesses-snoc [] h = refl
last_accesses-snoc (x ∷ []) h = refl
last_accesses-snoc (x ∷ y ∷ hs) h = last_accesses-snoc (y ∷ hs) h

pub change_last-snoc : (f : Hold → Hold) (hs : List Hold) (h : Hold) → change_last f (hs ++ h ∷ []) ≡ hs ++ f h ∷ []
change_last-snoc f [] h = refl
change_last-snoc f (x ∷ []) h = refl
change_last-snoc f (x ∷ y ∷ hs) h = ap (λ (l : List Hold). x ∷ l) (change_last-snoc f (y ∷ hs) h)

pub open_hold-snoc : (hs : List Hold) (h : Hold) → open_hold (hs ++ h ∷ []) ≡ cond h.is_open (Some h) None
open_hold-snoc [] h = refl
open_hold-snoc (x ∷ []) h = refl
open_hold-snoc (x ∷ y ∷ hs) h = open_hold-snoc (y ∷ hs) h

if_open : (b : Bool) (h g : Hold) → cond b (Some h) None ≡ Some g → (b ≡ true) × (h ≡ g)
if_open true h g e = (refl, same_Some h g e)
if_open false h g e = absurd (none-some g e)

if_shut : (b : Bool) (h : Hold) → cond b (Some h) None ≡ None → b ≡ false
if_shut true h e = absurd (none-some h (sym e))
if_shut false h e = refl

pub record Ends (hs : List Hold) (h : Hold) : Type 0 where
  pub past : List Hold
  pub is : hs ≡ past ++ h ∷ []

pub ends_open : (hs : List Hold) (h : Hold) → open_hold hs ≡ Some h → Ends hs h × (h.is_open ≡ true)
ends_open [] h e = absurd (none-some h e)
ends_open (x ∷ []) h e = let p = if_open x.is_open x h e in (record { past = []; is = ap (λ y. y ∷ []) p.1 }, subst (λ (y : Hold). y.is_open ≡ true) p.1 p.0)
ends_open (x ∷ y ∷ hs) h e = let r = ends_open (y ∷ hs) h e in (record { past = x ∷ r.0.past; is = ap (λ l. x ∷ l) r.0.is }, r.1)

pub none_or_held : (hs : List Hold) → ((open_hold hs ≡ None) × (is_last_open hs ≡ false)) ⊎ ((h : Hold) × (open_hold hs ≡ Some h) × (is_last_open hs ≡ true))
none_or_held [] = inl (refl, refl)
none_or_held (x ∷ []) = one x x.is_open refl
  where
    one : (x : Hold) (b : Bool) → x.is_open ≡ b → ((open_hold (x ∷ []) ≡ None) × (is_last_open (x ∷ []) ≡ false)) ⊎ ((h : Hold) × (open_hold (x ∷ []) ≡ Some h) × (is_last_open (x ∷ []) ≡ true))
    one x true e = inr (x, ap (λ b. cond b (Some x) None) e, e)
    one x false e = inl (ap (λ b. cond b (Some x) None) e, e)
none_or_held (x ∷ y ∷ hs) = none_or_held (y ∷ hs)

pub ends_held : (hs : List Hold) → is_last_open hs ≡ true → (h : Hold) × Ends hs h × (h.is_open ≡ true)
ends_held [] e = absurd (true≢false (sym e))
ends_held (x ∷ []) e = (x, record { past = []; is = refl }, e)
ends_held (x ∷ y ∷ hs) e = let r = ends_held (y ∷ hs) e in (r.0, record { past = x ∷ r.1.past; is = ap (λ l. x ∷ l) r.1.is }, r.2)

pub trace-snoc : (hs : List Hold) (h : Hold) → trace (hs ++ h ∷ []) ≡ trace hs ++ h.accesses
trace-snoc [] h = append-nil h.accesses
trace-snoc (x ∷ hs) h = ap (λ l. x.accesses ++ l) (trace-snoc hs h) ∙ sym (append_assoc x.accesses (trace hs) h.accesses)

pub written-append : (xs ys : List Access) (r x : ℕ) → last_value (xs ++ ys) r x ≡ last_value ys r (last_value xs r x)
written-append [] ys r x = refl
written-append (Read q v ∷ xs) ys r x = written-append xs ys r x
written-append (Write q v ∷ xs) ys r x = written-append xs ys r (cond (eqb r q) v x)

module _ {A : Type 0} where
  no_end : (ys : List A) (y : A) (zs : List A) → [] ≡ ys ++ y ∷ zs → ⊥
  no_end [] y zs e = cc
  no_end (x ∷ ys) y zs e = cc

  -- where a list that grew at its end is split, the split is at the new element or before it
  pub split_snoc : (xs : List A) (x : A) (ys : List A) (y : A) (zs : List A) → xs ++ x ∷ [] ≡ ys ++ y ∷ zs
      → ((xs ≡ ys) × (x ≡ y)) ⊎ ((ws : List A) × (xs ≡ ys ++ y ∷ ws))
  split_snoc [] x [] y zs e = inl (refl, cc)
  split_snoc [] x (y' ∷ ys) y zs e = let t : [] ≡ ys ++ y ∷ zs = cc in absurd (no_end ys y zs t)
  split_snoc (x' ∷ xs) x [] y zs e = let h : x' ≡ y = cc in inr (xs, ap (λ a. a ∷ xs) h)
  split_snoc (x' ∷ xs) x (y' ∷ ys) y zs e =
      let h : x' ≡ y' = cc in let t : xs ++ x ∷ [] ≡ ys ++ y ∷ zs = cc in
      ⊎_elim (λ (p : (xs ≡ ys) × (x ≡ y)). inl ((λ i. h i ∷ p.0 i), p.1)) (λ (p : (ws : List A) × (xs ≡ ys ++ y ∷ ws)). inr (p.0, λ i. h i ∷ p.1 i)) (split_snoc xs x ys y zs t)

pub reads-snoc : (xs : List Access) (x : Access) → ReadsTrue xs → ((r v : ℕ) → x ≡ Read r v → v ≡ last_value xs r 0) → ReadsTrue (xs ++ x ∷ [])
reads-snoc xs x h new before r v rest e =
    ⊎_elim
    (λ (p : (xs ≡ before) × (x ≡ Read r v)). subst (λ (l : List Access). v ≡ last_value l r 0) p.0 (new r v p.1))
    (λ (p : (ws : List Access) × (xs ≡ before ++ Read r v ∷ ws)). h before r v p.0 p.1)
    (split_snoc xs x before (Read r v) rest e)

pub only_last-change : (past : List Hold) (h g : Hold) → OnlyLastOpen (past ++ h ∷ []) → OnlyLastOpen (past ++ g ∷ [])
only_last-change [] h g o = tt
only_last-change (x ∷ []) h g o = (o.0, tt)
only_last-change (x ∷ y ∷ past) h g o = (o.0, only_last-change (y ∷ past) h g o.1)

pub only_last-more : (hs : List Hold) (g : Hold) → OnlyLastOpen hs → open_hold hs ≡ None → OnlyLastOpen (hs ++ g ∷ [])
only_last-more [] g o e = tt
only_last-more (x ∷ []) g o e = (if_shut x.is_open x e, tt)
only_last-more (x ∷ y ∷ hs) g o e = (o.0, only_last-more (y ∷ hs) g o.1 e)

pub keys-snoc : (hs : List Hold) (h : Hold) → keys (hs ++ h ∷ []) ≡ keys hs ++ key h ∷ []
keys-snoc hs h = map-append key hs (h ∷ [])

cond_append : (b : Bool) (x : ℕ) (p q ls : List ℕ) → q ≡ p ++ ls → cond b (x ∷ q) q ≡ cond b (x ∷ p) p ++ ls
cond_append true x p q ls e = ap (λ l. x ∷ l) e
cond_append false x p q ls e = e

pub attempts-append : (e : ℕ) (ks ls : List (ℕ × ℕ)) → attempts_of e (ks ++ ls) ≡ attempts_of e ks ++ attempts_of e ls
attempts-append e [] ls = refl
attempts-append e (k ∷ ks) ls = cond_append (eqb k.0 e) k.1 (attempts_of e ks) (attempts_of e (ks ++ ls)) (attempts_of e ls) (attempts-append e ks ls)

pub rising-snoc : (xs : List ℕ) (a : ℕ) → IsRising xs → All (λ x. x < a) xs → IsRising (xs ++ a ∷ [])
rising-snoc [] a r b = ((λ k d l. absurd (omega arith)), tt)
rising-snoc (x ∷ xs) a r b = (All-push (λ y. x < y) xs a r.0 (b 0 0 (omega arith)), rising-snoc xs a r.1 (λ k d l. b (suc k) d (omega arith)))

pub after_got : (e a : ℕ) (l : EndLists) → IsHeld (after_try e a Got l) × HasNoWrite (after_try e a Got l)
after_got e a l = (is_held-snoc l.holds (new_hold e a), ap writes_nothing (last_accesses-snoc l.holds (new_hold e a)))
