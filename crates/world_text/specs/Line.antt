-- What a line of a world says.
use Rattle.std.specs.Prelude.{ℕ, ◌≡◌, ◌<◌, ◌^◌, Bool, true, false, List}
use Rattle.feast_base.specs.TypeNames.{is_type_name}

-- a line: its numbers are of any size that its form allows
pub data Line : Type 0 where
  header : Bool → Line
  tiles : ℕ → ℕ → Line
  size : ℕ → ℕ → Line
  off : ℕ → Line
  seed : ℕ → Line
  attempts : ℕ → Line
  try : ℕ → ℕ → ℕ → ℕ → Line
  atom : ℕ → ℕ → List ℕ → ℕ → Line
  order_seed : ℕ → Line
  order : List ℕ → Line

-- what the forms of digits and names give: a seed of 64 bits, and the name of a type
abbrev pub IsFormed : Line → Type 0
IsFormed (try t x y s) = s < 2 ^ 64
IsFormed (atom x y name s) = is_type_name name ≡ true
IsFormed l = Unit {0}

-- a line that adds to no list
abbrev pub is_number : Line → Bool
is_number (tiles a b) = false
is_number (try t x y s) = false
is_number (atom x y name s) = false
is_number (order ts) = false
is_number l = true
