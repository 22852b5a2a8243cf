-- Flat files cut short: each class with only so many members; where there are too many classes, the files as they are.
use Rattle.std.specs.Prelude.{ℕ, ◌≤◌, List, map, take, Option, Some, None, Bool, false, ◌||◌, nat_le, nat_lt, if◌then◌else◌}
use Rattle.std.specs.List.{list_all}
use Rattle.ulam_tree.specs.Raw.{Item, ulam, uses, class}
use Rattle.ulam_heirs.specs.Heads.{Heads}
use Rattle.ulam_heirs.specs.Files.{all_count, flat_files, is_plain}

-- the first members, if there is a bound, and else all
abbrev pub first_of : {A : Type 0} → Option ℕ → List A → List A
first_of None xs = xs
first_of (Some most) xs = take most xs

-- n is within the bound, if there is one
abbrev pub IsWithin : Option ℕ → ℕ → Type 0
IsWithin None n = Unit {0}
IsWithin (Some most) n = n ≤ most

-- there is a bound, and n is no less
abbrev pub is_full : Option ℕ → ℕ → Bool
is_full None n = false
is_full (Some most) n = nat_le most n

-- an item; of a class only the first members
abbrev pub cut_item : Option ℕ → Item → Item
cut_item most (ulam n) = ulam n
cut_item most (uses w) = uses w
cut_item most (class c) = class (record { quark = c.quark; word = c.word; members = first_of most c.members })

abbrev pub cut_items : Option ℕ → List Item → List Item
cut_items most xs = map (cut_item most) xs

abbrev pub cut_files : Option ℕ → List (List Item) → List (List Item)
cut_files most fs = map (cut_items most) fs

-- there are more classes than so many
abbrev pub are_above : ℕ → List (List Item) → Bool
are_above classes fs = nat_lt classes (all_count fs)

-- Where nothing was taken out the files are flat as they are, and stay uncut. They also stay where there are more classes
-- than so many. Else each class gets the first members of its flat class, no more than so many.
abbrev pub files_within : ℕ → ℕ → List (List Item) → List Heads → List (List Item)
files_within classes members fs hs =
    if list_all is_plain hs || are_above classes fs then fs else cut_files (Some members) (flat_files fs hs)

-- For the code's steps alone: None where the files stay, and the flat files cut short where they are made.
abbrev pub made_within : ℕ → ℕ → List (List Item) → List Heads → Option (List (List Item))
made_within classes members fs hs = if are_above classes fs then None else Some (cut_files (Some members) (flat_files fs hs))
