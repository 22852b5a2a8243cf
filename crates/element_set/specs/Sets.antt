-- Sets of elements, and which files are one.
use Rattle.std.specs.Prelude.{ℕ, suc, List, Option, option_map, position, bytes_eq, Result, Ok, Err}
use Rattle.feast_base.specs.Outside.{File}
use Rattle.feast_base.specs.declared.place.Refusal.{Refusal}
use Rattle.element_set.specs.declared.fault.BuildFault.{BuildFault}
use Rattle.element_set.specs.declared.set.ElementSet.{ElementSet}
use Rattle.element_set.specs.Kept.{set_view}
use Rattle.element_set.specs.Names.{names_in}
use Rattle.element_set.specs.Told.{Tells}
use Rattle.element_set.specs.Stages.{set_of}
pub use Rattle.element_set.specs.Value.{SetValue, program_of}
pub use Rattle.element_set.specs.Faults.{Coded}
pub use Rattle.element_set.specs.CheckText.{check_text}
pub use Rattle.element_set.specs.CodeText.{code_text}

-- no stage refuses the files, and this is their set
abbrev pub AcceptsFiles : List File → SetValue → Type 0
AcceptsFiles files s = set_of files (Ok s)

-- the first stage that refuses the files has this refusal
abbrev pub RefusesFiles : List File → Refusal → Type 0
RefusesFiles files r = set_of files (Err r)

-- the files have a set, or a refusal
abbrev pub HaveSet : List File → Type 0
HaveSet files = (s : SetValue) × AcceptsFiles files s

abbrev pub HaveRefusal : List File → Type 0
HaveRefusal files = (r : Refusal) × RefusesFiles files r

-- what contracts see of a set
abbrev pub set_value : ElementSet → SetValue
set_value s = set_view s.typed s.layout

-- the answer of building
abbrev pub Builds : List File → Result ElementSet BuildFault → Type 0
Builds files result = Tells set_value (set_of files) result

-- the names of the elements, the first of which has the number 1
abbrev pub element_names : SetValue → List (List ℕ)
element_names s = names_in s.classes

-- the number of the element of a name
abbrev pub element_number : SetValue → List ℕ → Option ℕ
element_number s name = option_map suc (position (bytes_eq name) (element_names s))
