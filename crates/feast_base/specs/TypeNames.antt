-- The form of the names of types.
use Rattle.std.specs.Prelude.{ℕ, ◌+◌, ◌==◌, Bool, false, ◌||◌, ◌&&◌, List, [], ◌∷◌, length, nat_le, slice_index_or, ◌-◌}
use Rattle.std.specs.Char.{is_ascii_alphanumeric, is_ascii_uppercase}
use Rattle.std.specs.List.{list_all}
use Rattle.feast_base.specs.declared.type_name.TheConstants.{LONGEST_NAME}

-- what a name may go on with: letters, digits and `_`
abbrev pub is_word_byte : ℕ → Bool
is_word_byte b = is_ascii_alphanumeric b || b == 95

-- the name of a type: A to Z, then letters, digits and `_`, no longer than a name may be
abbrev pub is_type_name : List ℕ → Bool
is_type_name [] = false
is_type_name (b ∷ bs) = is_ascii_uppercase b && list_all is_word_byte bs && nat_le (length bs + 1) LONGEST_NAME

-- the name of a type number, which counts from 1
abbrev pub name_of : List (List ℕ) → ℕ → List ℕ
name_of names kind = slice_index_or names (kind - 1) []
