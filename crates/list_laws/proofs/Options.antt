-- Options by what they hold.
use Rattle.std.proofs.Common.{ℕ, ◌≡◌, Option, Some, None, refl, sym, ◌∙◌}

-- the number, or d if there is none
abbrev pub value_or : ℕ → Option ℕ → ℕ
value_or d None = d
value_or d (Some n) = n

-- an option that holds nothing
pub none_from : (o : Option ℕ) → ((v : ℕ) → o ≡ Some v → ⊥) → o ≡ None
none_from None f = refl
none_from (Some v) f = absurd (f v refl)

-- an option holds one value
pub some_once : {A : Type 0} (o : Option A) (x y : A) → o ≡ Some x → o ≡ Some y → x ≡ y
some_once o x y h k = let q : Some x ≡ Some y = sym h ∙ k in cc
