-- What an iterator gives whose state is the list of what is left.
use Rattle.std.proofs.Common.{◌≡◌, ℕ, ◌++◌, List, [], ◌∷◌, All, length-append, sym, ap, subst, ◌∙◌, arith}
use Rattle.std.specs.Iterator.{Yields, YieldsFirst, Drains, HoldsAlong}
use Rattle.std.proofs.lemmas.List.{append-nil}
use Rattle.std.proofs.Math.ListN.{get_or-append}

-- what holds of each of two lists together holds of each of the first
front : (P : ℕ → Type 0) (xs ys : List ℕ) → All P (xs ++ ys) → All P xs
front P xs ys a = λ k d lt. subst P (get_or-append xs ys d k lt) (a k d (omega (arith, lt, length-append xs ys)))

-- what was given stands before what is left
given : (s t xs : List ℕ) → Yields (YieldsFirst {A = ℕ} (λ rest. rest)) s xs t → s ≡ xs ++ t
given s t [] y = y
given s t (x ∷ xs) y = y.1 ∙ ap (λ zs. x ∷ zs) (given y.0 t xs y.2)

-- all that is given is the list
pub given_all : (s xs : List ℕ) → Drains (YieldsFirst {A = ℕ} (λ rest. rest)) s xs → xs ≡ s
given_all s xs d = sym (given s d.1.0 xs d.1.1 ∙ ap (λ zs. xs ++ zs) d.1.2.0 ∙ append-nil xs)

-- what holds of each item holds of all that is given
pub holds_along : (P : ℕ → Type 0) (s : List ℕ) → All P s → HoldsAlong (YieldsFirst {A = ℕ} (λ rest. rest)) s (All P)
holds_along P s a xs t y = front P xs t (subst (All P) (given s t xs y) a)
