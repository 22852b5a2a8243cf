-- The elements of a world, however they were given.
use Rattle.std.specs.Prelude.{ℕ, List}
use Rattle.code_file.specs.Acting.{after as after_codes}
use Rattle.code_file.specs.Form.{CodesValue, codes_of, names_of}
use Rattle.element_set.specs.Sets.{SetValue, element_names, program_of}
use Rattle.ulam_meaning.specs.Events.{after}
use Rattle.window_sites.specs.Window.{WindowValue}

-- what elements are called, by type number from 1, and do
pub record ElementsValue : Type 0 where
  pub names : List (List ℕ)
  pub meaning : WindowValue → ℕ → WindowValue

-- the elements of a set, which do what their source means
abbrev pub source_elements : SetValue → ElementsValue
source_elements set = record { names = element_names set; meaning = after (program_of set) }

-- the elements of a code file, which do what their codes do
abbrev pub code_elements : CodesValue → ElementsValue
code_elements es = record { names = names_of es; meaning = after_codes (codes_of es) }
