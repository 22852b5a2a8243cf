-- The topmost operands of a stack.
use Rattle.std.proofs.Common.{◌≡◌, ℕ, ◌-◌, ◌≤◌, List, [], ◌∷◌, ◌++◌, length, take, drop, refl, sym, ap, ◌∙◌, arith}
use Rattle.std.specs.Prelude.{reverse}
use Rattle.std.proofs.lemmas.List.{reverse-append, take-append-drop, length-reverse, length-drop, reverse-reverse}

take_front : {A : Type 0} (a b : List A) (n : ℕ) → n ≡ length a → take n (a ++ b) ≡ a
take_front [] b n e = rw e refl
take_front (x ∷ a) b n e = rw e (ap (λ l. x ∷ l) (take_front a b (length a) refl))

drop_front : {A : Type 0} (a b : List A) (n : ℕ) → n ≡ length a → drop n (a ++ b) ≡ b
drop_front [] b n e = rw e refl
drop_front (x ∷ a) b n e = rw e (drop_front a b (length a) refl)

module _ {A : Type 0} (xs : List A) (k : ℕ) (fits : k ≤ length xs) where
  split : reverse xs ≡ reverse (drop (length xs - k) xs) ++ reverse (take (length xs - k) xs)
  split = ap reverse (sym (take-append-drop (length xs - k) xs)) ∙ reverse-append (take (length xs - k) xs) (drop (length xs - k) xs)

  size : k ≡ length (reverse (drop (length xs - k) xs))
  size = omega (arith, length-reverse (drop (length xs - k) xs), length-drop (length xs - k) xs)

  pub handed : drop (length xs - k) xs ≡ reverse (take k (reverse xs))
  handed = sym (ap (λ l. reverse (take k l)) split ∙ ap reverse (take_front (reverse (drop (length xs - k) xs)) (reverse (take (length xs - k) xs)) k size) ∙ reverse-reverse (drop (length xs - k) xs))

  pub left : reverse (take (length xs - k) xs) ≡ drop k (reverse xs)
  left = sym (ap (drop k) split ∙ drop_front (reverse (drop (length xs - k) xs)) (reverse (take (length xs - k) xs)) k size)
