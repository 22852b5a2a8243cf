-- Which class contains which, through data members.
use Rattle.std.specs.Prelude.{ℕ, zero, suc, ◌≡◌, List, [], ◌∷◌, Bool, false, ◌||◌, nat_eq, slice_get, flat_map}
use Rattle.std.specs.Option.{option_map_or}
use Rattle.std.specs.List.{list_any}
use Rattle.ulam_tree.specs.declared.resolved.Ty.{Ty}
use Rattle.ulam_tree.specs.declared.resolved.Ty.TheVariants as y
use Rattle.ulam_tree.specs.Resolved.{Class, Member, field, function}

-- the class that a type is
abbrev pub class_number : Ty → List ℕ
class_number (y.Class k) = k ∷ []
class_number ty = []

-- Whether a class leads to another through at most this many data members. `parts` gives the classes that the data members of a class have as types.
unfoldable pub leads : (ℕ → List ℕ) → ℕ → ℕ → ℕ → Bool
leads parts zero k goal = false
leads parts (suc m) k goal = list_any (λ j. nat_eq j goal || leads parts m j goal) (parts k)

abbrev pub member_parts : Member → List ℕ
member_parts (field n w len) = class_number n.ty
member_parts (function n w ps b) = []

-- the classes that the data members of a class have as types
abbrev pub class_parts : List Class → ℕ → List ℕ
class_parts cs k = option_map_or (λ (c : Class). flat_map member_parts c.members) (slice_get cs k) []

-- No class contains itself through any number of data members.
abbrev pub NoneContainsItself : List Class → Type 0
NoneContainsItself cs = (m k : ℕ) → leads (class_parts cs) m k k ≡ false
