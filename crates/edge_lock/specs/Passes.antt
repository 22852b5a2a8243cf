-- What contracts see of a shared edge, of its two passes, and of the edge when it is closed.
use Rattle.std.specs.Prelude.{◌≡◌, ℕ, List, [], length, None}
use Rattle.atomic_table.specs.Seated.{TableId}
use Rattle.atomic_table.specs.Table.{Me}
use Rattle.edge_lock.specs.declared.history.Hold.{Hold}
use Rattle.edge_lock.specs.declared.history.Refusal.{Refusal}
use Rattle.edge_lock.specs.declared.edge_steps.View.{View}
use Rattle.edge_lock.specs.declared.edge_steps.View.TheVariants.{Paired, Settled}
use Rattle.edge_lock.specs.History.{site_count, open_hold}
use Rattle.edge_lock.specs.EndLists.{EndLists, end_lists}
use Rattle.edge_lock.specs.RegistersNow.{AreNow}
use Rattle.edge_lock.specs.SharedRule.{lists_in, now_in, slots_of, IsBoth}

-- an edge: its table, its number and how many registers it has
pub record EdgeValue : Type 0 where
  pub table : TableId
  pub number : ℕ
  pub registers : ℕ

abbrev pub edge_value : TableId → ℕ → ℕ → EdgeValue
edge_value table number registers = record { table = table; number = number; registers = registers }

-- a pass: the edge with which it was made, which end it is, and what that end did
pub record PassValue : Type 0 where
  pub of : EdgeValue
  pub end : ℕ
  pub lists : EndLists

abbrev pub pass_value : EdgeValue → ℕ → EndLists → PassValue
pass_value edge end lists = record { of = edge; end = end; lists = lists }

abbrev pub with_lists : PassValue → EndLists → PassValue
with_lists pass lists = pass_value pass.of pass.end lists

-- a pass of this edge and end that has done nothing
abbrev pub IsFresh : PassValue → EdgeValue → ℕ → Type 0
IsFresh pass edge end = pass ≡ pass_value edge end (end_lists [] [])

-- the seat is one of two, has this end, and has the registers exactly while its last hold is open
pub record IsPaired (registers end : ℕ) (me : Me (List ℕ) View) : Type 0 where
  pub view : me.0 ≡ Paired registers end (lists_in me.0).holds (lists_in me.0).refusals (now_in me.0)
  pub slots : me.1 ≡ slots_of me.0
  pub long : length (now_in me.0) ≡ registers

-- a closed edge: its number of registers, the one list of holds of both ends, and the refusals of each end
pub record ClosedValue : Type 0 where
  pub registers : ℕ
  pub holds : List Hold
  pub low : List Refusal
  pub high : List Refusal

abbrev pub holds_in : View → List Hold
holds_in (Settled all low_refusals high_refusals now) = all
holds_in view = []

abbrev pub low_in : View → List Refusal
low_in (Settled all low_refusals high_refusals now) = low_refusals
low_in view = []

abbrev pub high_in : View → List Refusal
high_in (Settled all low_refusals high_refusals now) = high_refusals
high_in view = []

abbrev pub closed_value : ℕ → View → ClosedValue
closed_value registers view = record { registers = registers; holds = holds_in view; low = low_in view; high = high_in view }

-- the seat keeps the one history, and has the registers, with their values after it
pub record KeepsHistory (registers : ℕ) (me : Me (List ℕ) View) : Type 0 where
  pub view : me.0 ≡ Settled (holds_in me.0) (low_in me.0) (high_in me.0) (now_in me.0)
  pub slots : me.1 ≡ slots_of me.0
  pub are : AreNow registers (holds_in me.0) (now_in me.0)

-- at close the holds and refusals of both ends are one history, which has each end's own holds in order, and no hold is open
pub record IsClosed (closed : ClosedValue) (lower higher : EndLists) : Type 0 where
  pub both : IsBoth (site_count closed.registers) lower higher closed.holds
  pub low : closed.low ≡ lower.refusals
  pub high : closed.high ≡ higher.refusals
  pub shut : open_hold closed.holds ≡ None
