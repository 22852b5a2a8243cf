-- Classes and their bases.
use Rattle.std.specs.Prelude.{ℕ, zero, suc, ◌+◌, ◌==◌, ◌≡◌, List, [], ◌∷◌, length, reverse, flat_map, Option, Some, None, Bool, false, ◌&&◌, if◌then◌else◌, bytes_eq, slice_get}
use Rattle.std.specs.Option.{option_map_or, option_and_then, option_to_list}
use Rattle.feast_base.specs.declared.place.Place.{Place}
use Rattle.ulam_tree.specs.Raw.{Word, Class}
use Rattle.ulam_tree.specs.Ways.{leads}

-- a class, the name of its base if it has one, and the places in its file at which a type name follows `virtual`
pub record Heir : Type 0 where
  pub class : Class
  pub base : Option Word
  pub virtuals : List Place

abbrev pub same_place : Place → Place → Bool
same_place a b = a.file == b.file && a.line == b.line && a.column == b.column

-- the number of the first class of a name, if the classes are numbered from k on
abbrev pub class_named : ℕ → List ℕ → List Heir → Option ℕ
class_named k name [] = None
class_named k name (h ∷ hs) = if bytes_eq h.class.word.name name then Some k else class_named (k + 1) name hs

-- the number of the base of a class: the first class of that name
abbrev pub base_number : List Heir → Heir → Option ℕ
base_number hs h = option_and_then (λ (w : Word). class_named 0 w.name hs) h.base

-- the number of the base of class k
abbrev pub base_of : List Heir → ℕ → Option ℕ
base_of hs k = option_and_then (base_number hs) (slice_get hs k)

abbrev pub base_list : List Heir → ℕ → List ℕ
base_list hs k = option_to_list (base_of hs k)

-- the bases of a class lead back to it
abbrev pub is_own_base : List Heir → ℕ → Bool
is_own_base hs k = leads (base_list hs) (length hs) k k

-- no class is its own base, through however many others
abbrev pub NoneIsOwnBase : List Heir → Type 0
NoneIsOwnBase hs = (k : ℕ) → is_own_base hs k ≡ false

-- a class, its base, the base of that, and so on: at most m classes
unfoldable pub upward : ℕ → (ℕ → Option ℕ) → ℕ → List ℕ
upward zero base k = []
upward (suc m) base k = k ∷ option_map_or (upward m base) (base k) []

-- The numbers of the classes in the line of a class: its root base first, itself last. If no class is its own base, a line
-- has at most as many classes as there are.
abbrev pub line_numbers : List Heir → ℕ → List ℕ
line_numbers hs k = reverse (upward (length hs) (base_of hs) k)

-- the class of a number, if there is one
abbrev pub class_at : {A : Type 0} → List A → ℕ → List A
class_at hs k = option_to_list (slice_get hs k)

abbrev pub classes_at : List Heir → List ℕ → List Heir
classes_at hs ks = flat_map (λ j. class_at hs j) ks

-- the line of a class
abbrev pub line : List Heir → ℕ → List Heir
line hs k = classes_at hs (line_numbers hs k)

-- the bases of a class: the line of its base
abbrev pub bases : List Heir → ℕ → List Heir
bases hs k = option_map_or (line hs) (base_of hs k) []
