-- Hexadecimal digits.
use Rattle.std.specs.Prelude.{ℕ, zero, suc, ◌+◌, ◌-◌, ◌*◌, ◌/◌, ◌%◌, ◌^◌, List, [], ◌∷◌, if◌then◌else◌, nat_lt}

-- the byte of the digit `0`, and that of the digit `a`
abbrev pub digit_zero : ℕ
digit_zero = 48

abbrev pub digit_a : ℕ
digit_a = 97

-- a lower-case hexadecimal digit
abbrev pub glyph : ℕ → ℕ
glyph d = if nat_lt d 10 then digit_zero + d else digit_a + (d - 10)

-- the low k hexadecimal digits of n, the greatest first
unfoldable pub hex : ℕ → ℕ → List ℕ
hex zero n = []
hex (suc k) n = glyph (n / 2 ^ (4 * k) % 16) ∷ hex k n
