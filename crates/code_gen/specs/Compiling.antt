-- The codes of a program's elements, and what the compiler answers.
use Rattle.std.specs.Prelude.{◌≡◌, ◌<◌, ℕ, suc, true, false, List, map, slice_get, Some, None, Result, Ok, Err, Vec}
use Rattle.std.specs.Option.{option_map_or}
use Rattle.std.specs.declared.alloc.Global.{Global}
use Rattle.feast_base.specs.Places.{no_place}
use Rattle.feast_base.specs.declared.place.Place.{Place}
use Rattle.ulam_tree.specs.Typed as t
use Rattle.type_rules.specs.Well.{IsWellProgram}
use Rattle.stack_code.specs.Machine.{CodeValue}
use Rattle.stack_code.specs.Valid.{valid}
use Rattle.ulam_meaning.specs.Programs.{Program, element_classes, number_of, element_of}
use Rattle.ulam_meaning.specs.Laws.{IsLaidOut}
use Rattle.ulam_meaning.specs.Events.{behave_key}
use Rattle.code_gen.specs.Limits.{IsShort}
use Rattle.code_gen.specs.Scheme.{draft_of}
use Rattle.code_gen.specs.Named.{IsNamedProgram, HasBehave}
use Rattle.code_gen.specs.Compiled.{element_code}
use Rattle.code_gen.specs.Means.{Means}
pub use Rattle.code_gen.specs.Sized.{program_view}
use Rattle.code_gen.specs.declared.fault.GenFault.{GenFault}
use Rattle.code_gen.specs.declared.fault.GenFault.TheVariants.{CodeTooLong, NoMemory}

-- what the compiler needs of a program: its types, its names and its layout are right, and each
-- element has a `behave` without parameters and without a result
pub record IsCompilable (g : Program) : Type 0 where
  pub well : IsWellProgram g.classes
  pub named : IsNamedProgram g
  pub laid : IsLaidOut g
  pub acts : (c : ℕ) (e : t.Class) → slice_get g.classes c ≡ Some e → e.quark ≡ false → HasBehave g c

-- class c is an element
pub record IsElementClass (classes : List t.Class) (c : ℕ) : Type 0 where
  pub class : t.Class
  pub stands : slice_get classes c ≡ Some class
  pub acts : class.quark ≡ false

-- the code of the element that is class c, with the element's type number
abbrev pub class_code : Program → ℕ → CodeValue
class_code g c = element_code g (number_of g c) c

-- the codes of the elements, in the order of their classes
abbrev pub element_codes : Program → List CodeValue
element_codes g = map (class_code g) (element_classes 0 g.classes)

-- code `number` of the codes is that of class c, whose type number is one more
abbrev pub HasCodeAt : Program → ℕ → ℕ → Type 0
HasCodeAt g number c = slice_get (element_codes g) number ≡ Some (element_code g (suc number) c)

-- no code is at a number among the codes
abbrev pub LacksCodeAt : Program → ℕ → Type 0
LacksCodeAt g number = slice_get (element_codes g) number ≡ None

-- the limits let the code of class c through
abbrev pub HasShort : Program → ℕ → Type 0
HasShort g c = IsShort (draft_of g) (behave_key g c)

-- the limits let the code of each element through
abbrev pub AreShort : Program → Type 0
AreShort g = (c : ℕ) (e : t.Class) → slice_get g.classes c ≡ Some e → e.quark ≡ false → HasShort g c

-- class c is the first element whose code the limits don't let through
pub record IsFirstLong (g : Program) (c : ℕ) : Type 0 where
  pub element : t.Class
  pub stands : slice_get g.classes c ≡ Some element
  pub acts : element.quark ≡ false
  pub long : HasShort g c → ⊥
  pub before : (d : ℕ) (e : t.Class) → d < c → slice_get g.classes d ≡ Some e → e.quark ≡ false → HasShort g d

-- there is a first element whose code the limits don't let through
abbrev pub HasLong : Program → Type 0
HasLong g = (c : ℕ) × IsFirstLong g c

-- the place of the name of class c
abbrev pub long_place : List t.Class → ℕ → Place
long_place cs c = option_map_or (λ (k : t.Class). k.word.place) (slice_get cs c) no_place

-- The codes of all elements, if the limits let them through; otherwise the place of the name of the
-- first element whose code they don't.
abbrev pub Compiles : Program → Result (Vec CodeValue Global) GenFault → Type 0
Compiles g (Ok codes) = (codes.items ≡ element_codes g) × AreShort g
Compiles g (Err (CodeTooLong at)) = (c : ℕ) × IsFirstLong g c × (at ≡ long_place g.classes c)
Compiles g (Err NoMemory) = Unit {0}

-- the code of a type number is valid and does what the element does that is class c
pub record HasCode (g : Program) (codes : List CodeValue) (kind c : ℕ) : Type 0 where
  pub code : CodeValue
  pub stands : slice_get codes kind ≡ Some code
  pub is_valid : valid code ≡ true
  pub means : Means g c code

-- each element has a code that does what it does, at its type number, if the first one has number 1
abbrev pub AreCompiled : Program → Result (Vec CodeValue Global) GenFault → Type 0
AreCompiled g (Ok codes) = (kind c : ℕ) → element_of g (suc kind) ≡ Some c → HasCode g codes.items kind c
AreCompiled g (Err fault) = Unit {0}
