-- The text that shows the codes of a set.
use Rattle.std.specs.Prelude.{ℕ, List, [], ◌∷◌, ◌++◌}
use Rattle.stack_code.specs.Machine.{CodeValue}
use Rattle.stack_code.specs.Text as stack
use Rattle.code_gen.specs.Compiling.{element_codes}
use Rattle.element_set.specs.Names.{names_in}
use Rattle.element_set.specs.Value.{SetValue, program_of}

-- the codes, each under its name, as many as there are of both
abbrev pub codes_text : List (List ℕ) → List CodeValue → List ℕ
codes_text [] cs = []
codes_text (n ∷ ns) [] = []
codes_text (n ∷ ns) (c ∷ cs) = stack.code_text n c ++ codes_text ns cs

-- the code of each element under its name, in order
abbrev pub code_text : SetValue → List ℕ
code_text s = codes_text (names_in s.classes) (element_codes (program_of s))
