-- Fields that can be printed as a line that reads back as them.
use Rattle.std.specs.Prelude.{ℕ, ◌≡◌, ◌≤◌, Bool, true, List, length, nat_le}
use Rattle.std.specs.List.{list_all}

-- a byte that is neither a blank nor a sign below the digits
abbrev pub is_high : ℕ → Bool
is_high b = nat_le 48 b

abbrev pub is_field : List ℕ → Bool
is_field f = list_all is_high f

-- a line has a field, and no byte of its fields is a blank
pub record IsLine (fields : List (List ℕ)) : Type 0 where
  pub some : 1 ≤ length fields
  pub high : list_all is_field fields ≡ true
