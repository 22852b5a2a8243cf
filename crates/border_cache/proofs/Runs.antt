-- Runs of reads and writes in one hold, one after another.
use Rattle.std.proofs.Common.{◌≡◌, ℕ, eqb, Bool, true, false, cond, true≢false, List, [], ◌∷◌, ◌++◌, refl, sym, ap, ◌∙◌, subst, arith, append_assoc, Option, None}
use Rattle.edge_lock.specs.declared.history.Access.{Access}
use Rattle.edge_lock.specs.declared.history.Access.TheVariants.{Read, Write}
use Rattle.edge_lock.specs.declared.history.Hold.{Hold}
use Rattle.edge_lock.specs.EndLists.{EndLists, change_last, is_last_open, last_accesses, last_shown, known_value, IsHeld, Shows, after_access, replace_at, end_lists, hold_of}
use Rattle.edge_lock.proofs.BoardLaws.{here_after, is_held-change_last, last_shown-append}
use Rattle.border_cache.specs.Accesses.{with_known, IsHonest, with_all, after_all, Adds}

-- what is known of a register after a run
abbrev pub known_after : (ℕ → Option ℕ) → List Access → ℕ → Option ℕ
known_after known xs r = last_shown xs r (known r)

pub honest_append : (known : ℕ → Option ℕ) (xs ys : List Access) → IsHonest known xs → IsHonest (known_after known xs) ys → IsHonest known (xs ++ ys)
honest_append known [] ys h k = k
honest_append known (Read at v ∷ xs) ys h k = (h.0, honest_append (with_known known at v) xs ys h.1 k)
honest_append known (Write at v ∷ xs) ys h k = honest_append (with_known known at v) xs ys h k

pub held_all : (more : List Access) (l : EndLists) → IsHeld l → IsHeld (after_all more l)
held_all more l h = is_held-change_last (with_all more) l.holds (λ x. refl) ∙ h

accesses_all : (more : List Access) (hs : List Hold) → is_last_open hs ≡ true → last_accesses (change_last (with_all more) hs) ≡ last_accesses hs ++ more
accesses_all more [] held = absurd (true≢false (sym held))
accesses_all more (h ∷ []) held = refl
accesses_all more (h ∷ g ∷ []) held = refl
accesses_all more (h ∷ g ∷ k ∷ hs) held = accesses_all more (g ∷ k ∷ hs) held

pub known_all : (more : List Access) (l : EndLists) → IsHeld l → known_value (after_all more l) ≡ known_after (known_value l) more
known_all more l held = λ i r. (ap (λ xs. last_shown xs r None) (accesses_all more l.holds held) ∙ last_shown-append (last_accesses l.holds) more r None) i

change_both : (xs ys : List Access) (hs : List Hold) → change_last (with_all ys) (change_last (with_all xs) hs) ≡ change_last (with_all (xs ++ ys)) hs
change_both xs ys [] = refl
change_both xs ys (h ∷ []) = ap (λ zs. hold_of h.end h.attempt zs h.is_open ∷ []) (append_assoc h.accesses xs ys)
change_both xs ys (h ∷ g ∷ []) = ap (λ zs. h ∷ hold_of g.end g.attempt zs g.is_open ∷ []) (append_assoc g.accesses xs ys)
change_both xs ys (h ∷ g ∷ k ∷ hs) = ap (λ zs. h ∷ zs) (change_both xs ys (g ∷ k ∷ hs))

pub after_both : (xs ys : List Access) (l : EndLists) → after_all ys (after_all xs l) ≡ after_all (xs ++ ys) l
after_both xs ys l = ap (λ hs. end_lists hs l.refusals) (change_both xs ys l.holds)

change_none : (hs : List Hold) → hs ≡ change_last (with_all []) hs
change_none [] = refl
change_none (h ∷ []) = ap (λ zs. hold_of h.end h.attempt zs h.is_open ∷ []) (sym (nil_right h.accesses))
  where
    nil_right : (xs : List Access) → xs ++ [] ≡ xs
    nil_right [] = refl
    nil_right (x ∷ xs) = ap (λ ys. x ∷ ys) (nil_right xs)
change_none (h ∷ g ∷ hs) = ap (λ zs. h ∷ zs) (change_none (g ∷ hs))

pub after_none : (l : EndLists) → l ≡ after_all [] l
after_none l = ap (λ hs. end_lists hs l.refusals) (change_none l.holds)

replace_twice : (a : ℕ → EndLists) (e : ℕ) (u w : EndLists) → replace_at (replace_at a e u) e w ≡ replace_at a e w
replace_twice a e u w = λ i d. go (eqb d e) d i
  where
    go : (b : Bool) (d : ℕ) → cond b w (cond b u (a d)) ≡ cond b w (a d)
    go true d = refl
    go false d = refl

replace_same : (a : ℕ → EndLists) (e d : ℕ) (b : Bool) → eqb d e ≡ b → a d ≡ cond b (a e) (a d)
replace_same a e d true is = ap a (grind (arith, is))
replace_same a e d false is = refl

pub adds_none : (a : ℕ → EndLists) (e : ℕ) → Adds a a e []
adds_none a e = record {
  lists = λ i d. (replace_same a e d (eqb d e) refl ∙ ap (λ l. cond (eqb d e) l (a d)) (after_none (a e))) i;
  honest = tt;
}

pub held_adds : (a b : ℕ → EndLists) (e : ℕ) (xs : List Access) → IsHeld (a e) → Adds a b e xs → IsHeld (b e)
held_adds a b e xs held s = subst IsHeld (sym (here_after a b e (after_all xs (a e)) s.lists)) (held_all xs (a e) held)

pub known_adds : (a b : ℕ → EndLists) (e : ℕ) (xs : List Access) → IsHeld (a e) → Adds a b e xs → known_value (b e) ≡ known_after (known_value (a e)) xs
known_adds a b e xs held s = ap known_value (here_after a b e (after_all xs (a e)) s.lists) ∙ known_all xs (a e) held

pub adds_then : (a b c : ℕ → EndLists) (e : ℕ) (xs ys : List Access) → IsHeld (a e) → Adds a b e xs → Adds b c e ys → Adds a c e (xs ++ ys)
adds_then a b c e xs ys held s t =
    let here : b e ≡ after_all xs (a e) = here_after a b e (after_all xs (a e)) s.lists in
    record {
      lists = t.lists ∙ ((λ i. replace_at (s.lists i) e (after_all ys (here i))) ∙ (replace_twice a e (after_all xs (a e)) (after_all ys (after_all xs (a e))) ∙ ap (replace_at a e) (after_both xs ys (a e))));
      honest = honest_append (known_value (a e)) xs ys s.honest (subst (λ k. IsHonest k ys) (known_adds a b e xs held s) t.honest);
    }

-- one call of the board
pub adds_read : (a b : ℕ → EndLists) (e r v : ℕ) → b ≡ replace_at a e (after_access (Read r v) (a e)) → Shows (known_value (a e) r) v → Adds a b e (Read r v ∷ [])
adds_read a b e r v is shows = record { lists = is; honest = (shows, tt) }

pub adds_write : (a b : ℕ → EndLists) (e r v : ℕ) → b ≡ replace_at a e (after_access (Write r v) (a e)) → Adds a b e (Write r v ∷ [])
adds_write a b e r v is = record { lists = is; honest = tt }
