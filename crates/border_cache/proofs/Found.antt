-- What is found by a run of reads.
use Rattle.std.proofs.Common.{◌≡◌, ℕ, eqb, Bool, true, false, cond, true≢false, List, [], ◌∷◌, ◌++◌, refl, sym, ap, ◌∙◌, arith, Option, None, Some}
use Rattle.std.proofs.lemmas.Option.{none-some}
use Rattle.list_laws.specs.Options.{or_zero}
use Rattle.edge_lock.specs.declared.history.Access.{Access}
use Rattle.edge_lock.specs.declared.history.Access.TheVariants.{Read, Write}
use Rattle.edge_lock.specs.History.{found_value}
use Rattle.edge_lock.specs.EndLists.{last_shown, writes_nothing, Shows}
use Rattle.border_cache.specs.Accesses.{with_known, IsHonest}

-- where reads found nothing, the next ones tell
new_if : (b : Bool) (x : ℕ) (o p q : Option ℕ) → (o ≡ None → p ≡ q) → cond b (Some x) o ≡ None → cond b (Some x) p ≡ q
new_if true x o p q f h = absurd (none-some x (sym h))
new_if false x o p q f h = f h

pub found_new : (xs ys : List Access) (r : ℕ) → writes_nothing xs ≡ true → found_value xs r ≡ None → found_value (xs ++ ys) r ≡ found_value ys r
found_new [] ys r w h = refl
found_new (Read at x ∷ xs) ys r w h = new_if (eqb r at) x (found_value xs r) (found_value (xs ++ ys) r) (found_value ys r) (found_new xs ys r w) h
found_new (Write at x ∷ xs) ys r w h = absurd (true≢false (sym w))

pub silent_both : (xs ys : List Access) → writes_nothing xs ≡ true → writes_nothing ys ≡ true → writes_nothing (xs ++ ys) ≡ true
silent_both [] ys w u = u
silent_both (Read at x ∷ xs) ys w u = silent_both xs ys w u
silent_both (Write at x ∷ xs) ys w u = absurd (true≢false (sym w))

-- reads alone change nothing that is known
pub shown_at : (k : Option ℕ) (x v : ℕ) → Shows k v → k ≡ Some x → v ≡ x
shown_at None x v s h = absurd (none-some x h)
shown_at (Some y) x v s h = s ∙ ap or_zero h

kept_if : (known : ℕ → Option ℕ) (r at x v : ℕ) → Shows (known at) v → known r ≡ Some x → (b : Bool) → eqb r at ≡ b → cond b (Some v) (known r) ≡ Some x
kept_if known r at x v s h true is = ap Some (shown_at (known at) x v s (let e : at ≡ r = grind (arith, is) in ap known e ∙ h))
kept_if known r at x v s h false is = h

pub known_stays : (xs : List Access) (known : ℕ → Option ℕ) (r x : ℕ) → writes_nothing xs ≡ true → IsHonest known xs → known r ≡ Some x → last_shown xs r (Some x) ≡ Some x
known_stays [] known r x w h is = refl
known_stays (Read at v ∷ xs) known r x w h is =
    let now : with_known known at v r ≡ Some x = kept_if known r at x v h.0 is (eqb r at) refl in
    let start : cond (eqb r at) (Some v) (Some x) ≡ Some x = ap (λ o. cond (eqb r at) (Some v) o) (sym is) ∙ now in
    ap (last_shown xs r) start ∙ known_stays xs (with_known known at v) r x w h.1 now
known_stays (Write at v ∷ xs) known r x w h is = absurd (true≢false (sym w))

-- what reads found is what is known of the register after them
pub steady : (xs : List Access) (known : ℕ → Option ℕ) (r v : ℕ) → writes_nothing xs ≡ true → IsHonest known xs → found_value xs r ≡ Some v → (s : Option ℕ) → last_shown xs r s ≡ Some v
steady [] known r v w h is s = absurd (none-some v is)
steady (Read at x ∷ xs) known r v w h is s = go (eqb r at) refl is (λ same. steady xs (with_known known at x) r v w h.1 same s)
  where
    go : (b : Bool) → eqb r at ≡ b → cond b (Some x) (found_value xs r) ≡ Some v → (found_value xs r ≡ Some v → last_shown xs r s ≡ Some v) → last_shown xs r (cond b (Some x) s) ≡ Some v
    go true at_it same f = known_stays xs (with_known known at x) r x w h.1 (ap (λ b. cond b (Some x) (known r)) at_it) ∙ same
    go false at_it same f = f same
steady (Write at x ∷ xs) known r v w h is s = absurd (true≢false (sym w))
