-- What holds of a place, of what is there, and of each of several.
use Rattle.std.specs.Prelude.{List, [], ◌∷◌, Option, Some, None}
use Rattle.feast_base.specs.declared.place.Place.{Place}

-- what may hold of a place
abbrev pub OfPlace : Type 1
OfPlace = Place → Type 0

-- it holds of what is there, if anything is
abbrev pub IfAny : {A : Type 0} → (A → Type 0) → Option A → Type 0
IfAny P None = Unit {0}
IfAny P (Some x) = P x

-- it holds of each of the list
abbrev pub Each : {A : Type 0} → (A → Type 0) → List A → Type 0
Each P [] = Unit {0}
Each P (x ∷ xs) = P x × Each P xs
