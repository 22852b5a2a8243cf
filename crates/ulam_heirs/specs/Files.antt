-- Files, with what was taken out of their tokens, and flat files.
use Rattle.std.specs.Prelude.{ℕ, suc, ◌+◌, List, [], ◌∷◌, ◌++◌, Option, Some, None, Bool, true, false, ◌&&◌, if◌then◌else◌}
use Rattle.feast_base.specs.declared.place.Place.{Place}
use Rattle.ulam_tree.specs.Raw.{Word, Class, Item, ulam, uses, class}
use Rattle.ulam_heirs.specs.Heads.{Base, Heads}
use Rattle.ulam_heirs.specs.Lines.{Heir, same_place}
use Rattle.ulam_heirs.specs.Flat.{flat_members}

-- the base of the class whose name is at a place
abbrev pub base_at : Place → List Base → Option Word
base_at p [] = None
base_at p (b ∷ bs) = if same_place b.class p then Some b.base else base_at p bs

-- the classes of a file
abbrev pub heirs_in : Heads → List Item → List Heir
heirs_in h [] = []
heirs_in h (ulam n ∷ xs) = heirs_in h xs
heirs_in h (uses w ∷ xs) = heirs_in h xs
heirs_in h (class c ∷ xs) = record { class = c; base = base_at c.word.place h.bases; virtuals = h.virtuals } ∷ heirs_in h xs

-- the classes of all files in order
abbrev pub all_heirs : List (List Item) → List Heads → List Heir
all_heirs [] hs = []
all_heirs (f ∷ fs) [] = []
all_heirs (f ∷ fs) (h ∷ hs) = heirs_in h f ++ all_heirs fs hs

abbrev pub class_count : List Item → ℕ
class_count [] = 0
class_count (ulam n ∷ xs) = class_count xs
class_count (uses w ∷ xs) = class_count xs
class_count (class c ∷ xs) = suc (class_count xs)

abbrev pub all_count : List (List Item) → ℕ
all_count [] = 0
all_count (f ∷ fs) = class_count f + all_count fs

-- a class with the members of its bases
abbrev pub flat_class : List Heir → ℕ → Class → Item
flat_class hs k c = class (record { quark = c.quark; word = c.word; members = flat_members hs k })

-- an item with flat classes, which is the class of number k if it is a class
abbrev pub flat_item : List Heir → ℕ → Item → Item
flat_item hs k (ulam n) = ulam n
flat_item hs k (uses w) = uses w
flat_item hs k (class c) = flat_class hs k c

-- the number of the next class after an item, if that of the next class before it is k
abbrev pub next_number : ℕ → Item → ℕ
next_number k (ulam n) = k
next_number k (uses w) = k
next_number k (class c) = k + 1

-- a file with flat classes, whose first class has the number k
abbrev pub flat_items : List Heir → ℕ → List Item → List Item
flat_items hs k [] = []
flat_items hs k (ulam n ∷ xs) = ulam n ∷ flat_items hs k xs
flat_items hs k (uses w ∷ xs) = uses w ∷ flat_items hs k xs
flat_items hs k (class c ∷ xs) = flat_class hs k c ∷ flat_items hs (k + 1) xs

abbrev pub flat_files_from : List Heir → ℕ → List (List Item) → List (List Item)
flat_files_from hs k [] = []
flat_files_from hs k (f ∷ fs) = flat_items hs k f ∷ flat_files_from hs (k + class_count f) fs

-- all files with flat classes
abbrev pub flat_files : List (List Item) → List Heads → List (List Item)
flat_files fs hs = flat_files_from (all_heirs fs hs) 0 fs

abbrev pub is_empty : {A : Type 0} → List A → Bool
is_empty [] = true
is_empty (x ∷ xs) = false

-- nothing was taken out of a file
abbrev pub is_plain : Heads → Bool
is_plain h = is_empty h.bases && is_empty h.virtuals
