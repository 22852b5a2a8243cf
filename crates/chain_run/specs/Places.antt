-- How far a rewind has come.
use Rattle.std.specs.Prelude.{ℕ, ◌≡◌, ◌≤◌, ◌-◌, List, length, take}
use Rattle.window_sites.specs.Window.{WindowValue}
use Rattle.cell_grid.specs.Grid.{GridValue}
use Rattle.cell_grid.specs.declared.record.Record.{Record}
use Rattle.chain_text.specs.Chain.{ChainValue}
use Rattle.report_text.specs.Report.{AreNamed}
use Rattle.chain_run.specs.Legs.{Making}
use Rattle.chain_run.specs.Reader.{IsKnownBetween, grid_by}
use Rattle.chain_run.specs.Reading.{LegSaid}
use Rattle.chain_run.specs.Replays.{events_in, grid_at}
use Rattle.chain_run.specs.declared.rewinding.Place.{Place}

-- a place in a chain: its grid has only atoms that have names, and if events behind it remain, it is one that a leg may begin with
pub record IsPlace (names : List (List ℕ)) (c : ChainValue) (meaning : WindowValue → ℕ → WindowValue) (p : Place) : Type 0 where
  pub named : AreNamed names p.grid.atoms
  pub known : 1 ≤ p.left → IsKnownBetween names c meaning p.grid

-- the place behind leg k, which has these events, if some remain before it: those of them that remain are made, or all
abbrev pub place_past : Making → ℕ → List Record → Place → Place
place_past c k records p = record { grid = grid_by c k p.grid (take p.left records); left = p.left - length records }

-- what a rewind comes to: the grid after the events that remain, and how many of these there are not
pub record Sought : Type 0 where
  pub answer : GridValue
  pub missing : ℕ

-- what is to be found, if this is the place before the legs that are left, with the numbers from k on
abbrev pub IsSought : Making → ℕ → Place → List LegSaid → Sought → Type 0
IsSought c k p ls s = (s.answer ≡ grid_at c k p.grid ls p.left) × (s.missing ≡ p.left - events_in ls)

-- what acts still means the same, if a leg behind the place is to be made
abbrev pub IsMeant : (WindowValue → ℕ → WindowValue) → (WindowValue → ℕ → WindowValue) → Place → Type 0
IsMeant old new p = 1 ≤ p.left → new ≡ old
