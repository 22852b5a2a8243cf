-- The code file of some elements.
use Rattle.std.specs.Prelude.{ℕ, List}
use Rattle.code_file.specs.Form.{elements, file_bytes}
use Rattle.code_gen.specs.Compiling.{element_codes}
use Rattle.element_set.specs.Sets.{SetValue, element_names, program_of}

-- the one spelling of the names and the codes of a set's elements
abbrev pub pack_text : SetValue → List ℕ
pack_text s = file_bytes (elements (element_names s) (element_codes (program_of s)))
