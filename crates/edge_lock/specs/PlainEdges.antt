-- One edge of the plain board. Its one seat knows the whole history. The lock word is that of the history; the registers
-- are plain memory and no words of the table (`RegistersNow`).
use Rattle.std.specs.Prelude.{◌≡◌, ℕ, ◌-◌, ◌%◌, ◌<◌, ◌==◌, true, List, [], ◌∷◌, ◌++◌, length, slice_index, Some, None, if◌then◌else◌}
use mathlib.Core.Option.{some}
use lib.ListN.{get_elem?}
use Rattle.atomic_table.specs.Table.{State, Me, Step}
use Rattle.edge_lock.specs.declared.board.Take.{Take}
use Rattle.edge_lock.specs.declared.board.Take.TheVariants.{Got, Busy}
use Rattle.edge_lock.specs.declared.history.Access.{Access}
use Rattle.edge_lock.specs.declared.history.Access.TheVariants.{Read, Write}
use Rattle.edge_lock.specs.declared.history.Hold.{Hold}
use Rattle.edge_lock.specs.declared.history.Refusal.{Refusal}
use Rattle.edge_lock.specs.declared.plain_steps.PlainView.{PlainView}
use Rattle.edge_lock.specs.History.{own, register_value, open_hold, site_count, IsAllowed, IsEdgeHistory}
use Rattle.edge_lock.specs.EndLists.{EndLists, end_lists, new_hold, refusal_of, with_access, closed_hold, change_last, is_last_open}
use Rattle.edge_lock.specs.SharedRule.{lock_word, attempt_in}

abbrev pub plain_view : ℕ → List Hold → List Refusal → List Refusal → PlainView
plain_view registers holds low high = record { registers = registers; holds = holds; low = low; high = high }

-- the view is the history of an edge
abbrev pub IsKept : PlainView → Type 0
IsKept view = IsEdgeHistory (site_count view.registers) view.holds view.low view.high

-- the lock word is that of the history that the seat knows
pub record Agrees (words : List ℕ) (view : PlainView) : Type 0 where
  pub history : IsKept view
  pub long : length words ≡ 3
  pub lock : slice_index words 1 ≡ lock_word (open_hold view.holds)

-- the rule of a plain edge: there is one seat, and the lock word is that of its history
pub record IsPlain (s : State (Unit {0}) PlainView) : Type 0 where
  pub one : length s.views ≡ 1
  pub agrees : (id : ℕ) (view : PlainView) → get_elem? s.views id ≡ some view → Agrees s.words view

abbrev Seated : Type 0
Seated = Me (Unit {0}) PlainView

abbrev Taken : Type 0
Taken = Step (Unit {0})

-- one more refusal of an end
abbrev pub with_refusal : ℕ → Refusal → PlainView → PlainView
with_refusal end refusal view = plain_view view.registers view.holds (if end == 0 then view.low ++ refusal ∷ [] else view.low) (if end == 0 then view.high else view.high ++ refusal ∷ [])

-- a try that found this lock word
abbrev pub plain_view_after_try : ℕ → ℕ → ℕ → PlainView → PlainView
plain_view_after_try end attempt word view =
    if word == 0 then plain_view view.registers (view.holds ++ new_hold end attempt ∷ []) view.low view.high else with_refusal end (refusal_of attempt (attempt_in word)) view

-- the end in a lock word
abbrev pub end_in : ℕ → ℕ
end_in word = (word - 1) % 2

abbrev pub PlainTries : Taken → Seated → ℕ → Seated → Type 0
PlainTries step me word next = (next ≡ (plain_view_after_try (end_in step.second) (attempt_in step.second) word me.0, me.1)) × (word ≡ lock_word (open_hold me.0.holds)) × IsKept next.0

-- a change of the last hold
abbrev pub plain_view_after_change : (Hold → Hold) → PlainView → PlainView
plain_view_after_change change view = plain_view view.registers (change_last change view.holds) view.low view.high

-- an access that the register allows: a read of what it has, or a write of an allowed word
abbrev pub IsAccess : Access → PlainView → Type 0
IsAccess (Read register value) view = (register < view.registers) × (value ≡ register_value view.holds register)
IsAccess (Write register value) view = (register < view.registers) × IsAllowed (site_count view.registers) register value

-- an access may be noted in a hold that is open
abbrev pub MayNote : Access → PlainView → Type 0
MayNote access view = (is_last_open view.holds ≡ true) × IsAccess access view

-- the open hold has this access more
abbrev pub PlainNotes : Access → Taken → Seated → ℕ → Seated → Type 0
PlainNotes access step me word next = (next ≡ (plain_view_after_change (with_access access) me.0, me.1)) × IsKept next.0

abbrev pub PlainGives : Taken → Seated → ℕ → Seated → Type 0
PlainGives step me word next = (next ≡ (plain_view_after_change closed_hold me.0, me.1)) × IsKept next.0

-- a plain edge: its two tiles, its number of registers, the holds of both ends, and the refusals of each end
pub record PlainEdgeValue : Type 0 where
  pub lower : ℕ
  pub higher : ℕ
  pub registers : ℕ
  pub holds : List Hold
  pub low : List Refusal
  pub high : List Refusal

abbrev pub plain_edge_value : ℕ → ℕ → PlainView → PlainEdgeValue
plain_edge_value lower higher view = record { lower = lower; higher = higher; registers = view.registers; holds = view.holds; low = view.low; high = view.high }

abbrev pub view_of : PlainEdgeValue → PlainView
view_of edge = plain_view edge.registers edge.holds edge.low edge.high

abbrev pub with_view : PlainEdgeValue → PlainView → PlainEdgeValue
with_view edge view = plain_edge_value edge.lower edge.higher view

-- what one end did on the edge
abbrev pub own_lists : ℕ → PlainEdgeValue → EndLists
own_lists end edge = end_lists (own end edge.holds) (if end == 0 then edge.low else edge.high)

-- an edge on which nothing has happened
abbrev pub IsUntouched : PlainEdgeValue → ℕ → ℕ → ℕ → Type 0
IsUntouched edge lower higher registers = edge ≡ plain_edge_value lower higher (plain_view registers [] [] [])

-- the edge after an end's attempt got this answer
abbrev pub edge_after_try : ℕ → ℕ → Take → PlainEdgeValue → PlainEdgeValue
edge_after_try end attempt Got edge = with_view edge (plain_view edge.registers (edge.holds ++ new_hold end attempt ∷ []) edge.low edge.high)
edge_after_try end attempt (Busy holder) edge = with_view edge (with_refusal end (refusal_of attempt holder) (view_of edge))

-- Got is answered exactly when nobody has the edge, Busy exactly when the other end has it, with
-- the attempt that has it
abbrev pub IsAnswer : ℕ → PlainEdgeValue → Take → Type 0
IsAnswer end edge Got = open_hold edge.holds ≡ None
IsAnswer end edge (Busy holder) = (hold : Hold) × (open_hold edge.holds ≡ Some hold) × (hold.end ≡ 1 - end) × (hold.attempt ≡ holder)

-- the edge after a read or write in the open hold
abbrev pub edge_after_access : Access → PlainEdgeValue → PlainEdgeValue
edge_after_access access edge = with_view edge (plain_view_after_change (with_access access) (view_of edge))

-- the edge after it was given back
abbrev pub edge_after_give : PlainEdgeValue → PlainEdgeValue
edge_after_give edge = with_view edge (plain_view_after_change closed_hold (view_of edge))
