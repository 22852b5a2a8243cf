-- Fields of atoms as numbers.
use Rattle.std.specs.Prelude.{ℕ, ℤ}
use Rattle.bit_field.specs.Atom.{AtomValue, field}
use Rattle.sat_math.specs.Numbers.{value}
use Rattle.sat_math.specs.declared.NumType.{NumType}

-- a field as a number of its type
abbrev pub get_field : AtomValue → ℕ → NumType → ℤ
get_field a f t = value t (field a f t.width)
