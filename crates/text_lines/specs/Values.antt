-- The code's fields as texts.
use Rattle.std.specs.Prelude.{ℕ, List, decimal}
use Rattle.feast_base.specs.Digits.{hex}
use Rattle.text_lines.specs.declared.field.Field.{Field}
use Rattle.text_lines.specs.declared.field.Field.TheVariants.{Word, Number, Seed, State}

-- the text of a field
abbrev pub field_text : Field → List ℕ
field_text (Word word) = word.now
field_text (Number n) = decimal n
field_text (Seed n) = hex 16 n
field_text (State n) = hex 18 n
