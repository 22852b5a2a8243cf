-- Programs of typed trees, and the sizes that ensure room for the numbers of their code.
use Rattle.std.specs.Prelude.{ℕ, ◌≤◌, ◌-◌, ◌^◌, List, length}
use Rattle.ulam_tree.specs.TypedViews.{typed_program}
use Rattle.ulam_tree.specs.declared.typed.Typed.{Typed}
use Rattle.ulam_meaning.specs.Programs.{Program, slot_types}
use Rattle.ulam_meaning.specs.Paths.{Key, function_of}
use Rattle.ulam_meaning.specs.Laws.{IsLaidOut}
use Rattle.stack_code.specs.declared.limits.TheConstants.{MOST_SLOTS}

-- the program of typed trees with a layout
abbrev pub program_view : Typed → List (List ℕ) → Program
program_view typed layout = record { classes = typed_program typed; layout = layout }

-- a program is laid out; it has no more classes than there are type numbers, and no function has more than 72 slots
pub record IsSized (g : Program) : Type 0 where
  pub laid : IsLaidOut g
  pub classes : length g.classes ≤ 2 ^ 16 - 1
  pub slots : (f : Key) → length (slot_types (function_of g f)) ≤ MOST_SLOTS
