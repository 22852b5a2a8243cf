-- The fields of a line, and the numbers and digits that they are.
use Rattle.std.specs.Prelude.{ℕ, ◌+◌, ◌-◌, ◌*◌, ◌==◌, ◌≢◌, Bool, false, not, ◌&&◌, ◌||◌, List, [], ◌∷◌, ◌++◌, All, Option, Some, None, length, fold, nat_le, option_copied, option_map, if◌then◌else◌}
use denote.Ref.{Bor}
use Rattle.std.specs.List.{list_all}

-- bytes that do not have this one
abbrev pub Lacks : List ℕ → ℕ → Type 0
Lacks bytes end = All (λ b. b ≢ end) bytes

-- the fields of `front` followed by the bytes, if `front` has no space
unfoldable pub fields_after : List ℕ → List ℕ → List (List ℕ)
fields_after front [] = front ∷ []
fields_after front (b ∷ bs) = if b == 32 then front ∷ fields_after [] bs else fields_after (front ++ b ∷ []) bs

-- the parts of a line between its spaces
abbrev pub fields : List ℕ → List (List ℕ)
fields line = fields_after [] line

-- the fields that are left: none if the line has ended
abbrev pub args_of : Option (List ℕ) → List (List ℕ)
args_of None = []
args_of (Some rest) = fields rest

-- the fields of the text that a reader has left, behind a reference; none if the line has ended
abbrev pub fields_left : Option (Bor (List ℕ)) → List (List ℕ)
fields_left rest = args_of (option_copied rest)

-- a number that was taken from the front, and the fields that are left
abbrev pub number_and_fields : Option (ℕ × Option (Bor (List ℕ))) → Option (ℕ × List (List ℕ))
number_and_fields found = option_map (λ (p : ℕ × Option (Bor (List ℕ))). (p.0, fields_left p.1)) found

-- how much is left to read
abbrev pub size_of : Option (List ℕ) → ℕ
size_of None = 0
size_of (Some rest) = length rest + 1

abbrev pub is_digit : ℕ → Bool
is_digit b = nat_le 48 b && nat_le b 57

-- a canonical decimal: 0, or a first digit that is not 0; at most 20 digits
abbrev pub is_canonical : List ℕ → Bool
is_canonical [] = false
is_canonical (d ∷ ds) = list_all is_digit (d ∷ ds) && (not (d == 48) || length ds == 0) && nat_le (length (d ∷ ds)) 20

-- what decimal digits are worth
abbrev pub worth : List ℕ → ℕ
worth ds = fold (λ (v d : ℕ). v * 10 + (d - 48)) 0 ds

-- the number that a field is
abbrev pub field_number : List ℕ → Option ℕ
field_number f = if is_canonical f then Some (worth f) else None

-- a lower-case hexadecimal digit, and its value
abbrev pub is_nibble : ℕ → Bool
is_nibble b = is_digit b || (nat_le 97 b && nat_le b 102)

abbrev pub nibble : ℕ → ℕ
nibble b = if nat_le b 57 then b - 48 else b - 87

-- what hexadecimal digits are worth
abbrev pub hex_worth : List ℕ → ℕ
hex_worth ds = fold (λ (v d : ℕ). v * 16 + nibble d) 0 ds

-- the number that k lower-case hexadecimal digits are
abbrev pub hex_of : ℕ → List ℕ → Option ℕ
hex_of k f = if length f == k && list_all is_nibble f then Some (hex_worth f) else None
