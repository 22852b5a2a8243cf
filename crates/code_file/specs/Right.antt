-- Elements that can act as a set.
use Rattle.std.specs.Prelude.{ℕ, ◌≡◌, true, false, take, slice_get, Some}
use Rattle.stack_code.specs.Valid.{valid}
use Rattle.code_file.specs.Form.{CodesValue, ElementValue, names_of}
use Rattle.code_file.specs.Judging.{is_among}

-- no element has the name of an earlier one, and each code is valid
abbrev pub AreRight : CodesValue → Type 0
AreRight es = (k : ℕ) (e : ElementValue) → slice_get es k ≡ Some e → (is_among e.name (names_of (take k es)) ≡ false) × (valid e.code ≡ true)
