-- Taking the fields of a line one after another.
use Rattle.std.specs.Prelude.{ℕ, List, [], ◌∷◌, Option, Some, None, option_map}
use Rattle.text_lines.specs.Fields.{field_number, hex_of}

-- applies a function to an answer, if there is one
abbrev pub with : {X Y : Type 0} → Option X → (X → Option Y) → Option Y
with None next = None
with (Some x) next = next x

-- the number that the first field is, and the other fields
unfoldable pub take_number : List (List ℕ) → Option (ℕ × List (List ℕ))
take_number [] = None
take_number (f ∷ fs) = option_map (λ n. (n, fs)) (field_number f)

-- one field alone
unfoldable pub one_field : List (List ℕ) → Option (List ℕ)
one_field [] = None
one_field (f ∷ []) = Some f
one_field (f ∷ g ∷ fs) = None

-- the number that the one field is
abbrev pub one_number : List (List ℕ) → Option ℕ
one_number args = with (one_field args) field_number

-- the number whose 16 digits the one field is
abbrev pub one_seed : List (List ℕ) → Option ℕ
one_seed args = with (one_field args) (hex_of 16)

abbrev pub two_numbers : List (List ℕ) → Option (ℕ × ℕ)
two_numbers args = with (take_number args) (λ a. option_map (λ b. (a.0, b)) (one_number a.1))
