-- Rows of marks, one mark for each class. A round goes over all classes and makes the next row from the last one.
use Rattle.std.specs.Prelude.{ℕ, zero, suc, List, [], length, map, flat_map, get_or, slice_get, Bool, true, false, ◌||◌, nat_eq}
use Rattle.std.specs.List.{list_any}
use Rattle.std.specs.Option.{option_map_or}
use Rattle.ulam_tree.specs.declared.resolved.Ty.{Ty}
use Rattle.ulam_tree.specs.Ways.{class_number}
use Rattle.ulam_names.specs.Scopes.{Text, Head}

-- whether a class is the goal, or is marked in a row
abbrev pub leads_by : List Bool → ℕ → ℕ → Bool
leads_by row goal k = nat_eq k goal || get_or row k false

-- the classes that data members have as types
abbrev pub field_parts : List (Text × Ty) → List ℕ
field_parts fields = flat_map (λ (p : Text × Ty). class_number p.1) fields

-- the class that is the type of the data member with this number, if it is one
abbrev pub field_part : List (Text × Ty) → ℕ → List ℕ
field_part fields number = option_map_or (λ (p : Text × Ty). class_number p.1) (slice_get fields number) []

-- The row of the next round marks a class that has a data member of a class that is the goal, or is marked in this row.
abbrev pub leads_row : List Bool → ℕ → List Head → List Bool
leads_row row goal heads = map (λ (h : Head). list_any (leads_by row goal) (field_parts h.fields)) heads

-- After n rounds a class is marked if at most n steps, each from a class to one of a data member, lead from it to the goal.
unfoldable pub row_after : ℕ → List Head → ℕ → List Bool
row_after zero heads goal = []
row_after (suc m) heads goal = leads_row (row_after m heads goal) goal heads

-- After n rounds a class is open if a chain of n steps begins at it, each from a class to one of a data member. Before the first round all are open.
abbrev pub open_by : List Bool → ℕ → Bool
open_by row k = get_or row k true

-- The row of the next round: a class is open if it has a data member of an open class.
abbrev pub open_row : List Bool → List Head → List Bool
open_row row heads = map (λ (h : Head). list_any (open_by row) (field_parts h.fields)) heads

-- the row after a number of rounds
unfoldable pub open_after : ℕ → List Head → List Bool
open_after zero heads = []
open_after (suc m) heads = open_row (open_after m heads) heads

-- some class is open after as many rounds as there are classes
abbrev pub some_open : List Head → Bool
some_open heads = list_any (λ b. b) (open_after (length heads) heads)
