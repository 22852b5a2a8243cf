-- The elements of a set as a code file says them.
use Rattle.std.specs.Prelude.{ℕ, ◌≡◌, Ok, Result}
use Rattle.window_sites.specs.Window.{WindowValue}
use Rattle.ulam_meaning.specs.Events as meaning
use Rattle.code_gen.specs.Compiling.{element_codes}
use Rattle.element_set.specs.Sets.{SetValue, element_names, program_of}
use Rattle.code_file.specs.Acting.{after}
use Rattle.code_file.specs.Form.{CodesValue, codes_of, elements, file_bytes}
use Rattle.code_file.specs.Judging.{Reads}
use Rattle.code_file.specs.declared.fault.CodeFault.{CodeFault}

-- the names of the elements, each with its code, in the order of their type numbers
abbrev pub codes_of_set : SetValue → CodesValue
codes_of_set set = elements (element_names set) (element_codes (program_of set))

-- the code file of some elements is read as them
abbrev pub ReadsBack : CodesValue → Type 0
ReadsBack es = Reads (file_bytes es) (Ok es)

-- the code file of some elements is read as nothing else
abbrev pub ReadsAsOnly : CodesValue → Type 0
ReadsAsOnly es = (r : Result CodesValue CodeFault) → Reads (file_bytes es) r → r ≡ Ok es

-- on each window and seed the codes leave the window that the elements of the set mean
abbrev pub ActsAs : CodesValue → SetValue → Type 0
ActsAs es set = (w : WindowValue) (seed : ℕ) → after (codes_of es) w seed ≡ meaning.after (program_of set) w seed
