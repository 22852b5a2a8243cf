-- The code's lists of kinds: each is an earlier list with one kind on top, and places are noted by the numbers of their lists.
use Rattle.std.specs.Prelude.{◌≡◌, ℕ, zero, suc, ◌+◌, ◌≤◌, nat_eq, Bool, true, false, Option, Some, None, List, [], ◌∷◌, length, map, slice_get, get_or, ◌⊎◌, if◌then◌else◌}
use Rattle.stack_code.specs.Valid.{Kinds, Notes, Exits, Around, around, Passing, passing, pop}
use Rattle.stack_code.specs.declared.instr.Operand.TheVariants.{Number}
use Rattle.stack_code.specs.declared.exits.Exit.{Exit}
use Rattle.stack_code.specs.declared.exits.Around.{Around as InCode}
use Rattle.stack_code.specs.declared.kind_lists.Node.{Node}

-- all lists but the empty one, the newest first, and how many more there is room for
pub record Lists : Type 0 where
  pub nodes : List Node
  pub room : ℕ

-- the list of a number, from the nodes, the newest first: 0 is the empty list
abbrev pub list_at : List Node → ℕ → Kinds
list_at [] id = []
list_at (n ∷ older) id = if nat_eq id (length older + 1) then n.top ∷ list_at older n.below else list_at older id

-- below each node there is an older list, and its depth is the length of its own list
abbrev pub IsTree : List Node → Type 0
IsTree [] = Unit {0}
IsTree (n ∷ older) = (n.below ≤ length older) × (n.depth ≡ length (list_at older n.below) + 1) × IsTree older

-- there are more lists, and no list was changed
pub record Grows (old new : List Node) : Type 0 where
  pub more : length old ≤ length new
  pub by : (id : ℕ) → id ≤ length old → list_at new id ≡ list_at old id

-- what is noted at a place: 0 for nothing, else one more than the list's number
abbrev pub list_of_note : List Node → ℕ → Option Kinds
list_of_note lists zero = None
list_of_note lists (suc id) = Some (list_at lists id)

abbrev pub notes_of : List Node → List ℕ → Notes
notes_of lists notes = map (list_of_note lists) notes

-- all lists that are noted exist
abbrev pub NotesFit : List Node → List ℕ → Type 0
NotesFit lists notes = (p : ℕ) (e : ℕ) → slice_get notes p ≡ Some e → e ≤ length lists + 1

-- the list of a number, if there is a number
abbrev pub maybe : List Node → Option ℕ → Option Kinds
maybe lists None = None
maybe lists (Some id) = Some (list_at lists id)

-- if there is a number, it is that of a list
abbrev pub MaybeFits : List Node → Option ℕ → Type 0
MaybeFits lists None = Unit {0}
MaybeFits lists (Some id) = id ≤ length lists

-- what is noted at a place, if there is such a place
abbrev pub maybe_noted : List Node → Option (Option ℕ) → Option (Option Kinds)
maybe_noted lists None = None
maybe_noted lists (Some None) = Some None
maybe_noted lists (Some (Some id)) = Some (Some (list_at lists id))

abbrev pub NotedFits : List Node → Option (Option ℕ) → Type 0
NotedFits lists None = Unit {0}
NotedFits lists (Some None) = Unit {0}
NotedFits lists (Some (Some id)) = id ≤ length lists

-- the code found this list, or that there is none, and may have added lists
abbrev pub Leaves : List Node → List Node → Option Kinds → Option ℕ → Type 0
Leaves old new o r = (o ≡ maybe new r) × MaybeFits new r × Grows old new

-- the same of what `change` makes of the list of a number
abbrev pub Changes : (Kinds → Option Kinds) → List Node → List Node → ℕ → Option ℕ → Type 0
Changes change old new id r = Leaves old new (change (list_at old id)) r

-- a function in its code, as the pass sees it
abbrev pub around_of : InCode → Around
around_of a = around a.code.now a.function.now a.end

-- where a place leads, by the numbers of lists
abbrev pub jump_of : List Node → Option (ℕ × ℕ) → Option (ℕ × Kinds)
jump_of lists None = None
jump_of lists (Some j) = Some (j.0, list_at lists j.1)

abbrev pub JumpFits : List Node → Option (ℕ × ℕ) → Type 0
JumpFits lists None = Unit {0}
JumpFits lists (Some j) = j.1 ≤ length lists

abbrev pub exit_of : List Node → Exit → Exits
exit_of lists e = record { falls = maybe lists e.falls; jumps = jump_of lists e.jumps }

abbrev pub maybe_exit : List Node → Option Exit → Option Exits
maybe_exit lists None = None
maybe_exit lists (Some e) = Some (exit_of lists e)

abbrev pub ExitFits : List Node → Option Exit → Type 0
ExitFits lists None = Unit {0}
ExitFits lists (Some e) = MaybeFits lists e.falls × JumpFits lists e.jumps

-- the code found this exit, or that there is none, and may have added lists
abbrev pub ExitLeaves : List Node → List Node → Option Exits → Option Exit → Type 0
ExitLeaves old new o r = (o ≡ maybe_exit new r) × ExitFits new r × Grows old new

-- the same of the exit to which an instruction leads from the list of a number
abbrev pub FindsExit : (Kinds → Option Exits) → List Node → List Node → ℕ → Option Exit → Type 0
FindsExit leads old new id r = ExitLeaves old new (leads (list_at old id)) r

-- the code found this exit, or that there is none, and added no lists
abbrev pub IsExit : List Node → Option Exits → Option Exit → Type 0
IsExit lists o r = ExitLeaves lists lists o r

-- how the pass comes to the next place, if the code says what falls through to it
abbrev pub passing_of : List Node → List ℕ → Option (Option ℕ) → Option Passing
passing_of lists notes None = None
passing_of lists notes (Some falls) = Some (passing (maybe lists falls) (notes_of lists notes))

abbrev pub FallsFit : List Node → Option (Option ℕ) → Type 0
FallsFit lists None = Unit {0}
FallsFit lists (Some falls) = MaybeFits lists falls

-- The code has passed one place, and says how the pass comes to the next one, or that it ends there because the code is not valid.
abbrev pub PlaceLeaves : Option Passing → List Node → List ℕ → Option (Option ℕ) → Type 0
PlaceLeaves o lists notes r = (o ≡ passing_of lists notes r) × FallsFit lists r × NotesFit lists notes

-- The code has passed all places of a function, and these are the notes; or the function is not valid.
abbrev pub PassLeaves : Option Notes → List Node → List ℕ → Bool → Type 0
PassLeaves o lists notes true = (o ≡ Some (notes_of lists notes)) × NotesFit lists notes
PassLeaves o lists notes false = o ≡ None

abbrev pub and_takes : (Kinds → Option Kinds) → Option Kinds → Option Kinds
and_takes go None = None
and_takes go (Some ks) = go ks

-- the kinds without n arguments, if these are on top: the kinds of the first n slots, the last one topmost
abbrev pub takes : ℕ → Kinds → Kinds → Option Kinds
takes zero slots ks = Some ks
takes (suc n) slots ks = and_takes (takes n slots) (pop (get_or slots n Number) ks)

-- the same, where the code may also say no because the function ends after the code
abbrev pub FunctionLeaves : Option Notes → Type 0 → List Node → List ℕ → Bool → Type 0
FunctionLeaves o IsTooLong lists notes true = (o ≡ Some (notes_of lists notes)) × NotesFit lists notes
FunctionLeaves o IsTooLong lists notes false = (o ≡ None) ⊎ IsTooLong
