-- Numbers as bytes, the greatest byte first.
use Rattle.std.specs.Prelude.{ℕ, zero, suc, ◌-◌, ◌*◌, ◌/◌, ◌%◌, ◌^◌, ℤ, pos, negsuc, List, [], ◌∷◌, ◌++◌, length}
use Rattle.std.specs.List.{flat_map}

-- the low w bytes of a number
unfoldable pub be : ℕ → ℕ → List ℕ
be zero n = []
be (suc w) n = n / 2 ^ (8 * w) % 256 ∷ be w n

-- a number with its sign, in nine bytes of two's complement
abbrev pub bytes_of_signed : ℤ → List ℕ
bytes_of_signed (pos n) = 0 ∷ be 8 n
bytes_of_signed (negsuc n) = 255 ∷ be 8 (2 ^ 64 - 1 - n)

-- the length of a list, in w bytes, and the list
abbrev pub with_length : {A : Type 0} → ℕ → (A → List ℕ) → List A → List ℕ
with_length w item xs = be w (length xs) ++ flat_map item xs

-- the length of a name, and the name
abbrev pub name_bytes : List ℕ → List ℕ
name_bytes name = be 4 (length name) ++ name
