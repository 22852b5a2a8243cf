-- The legs of a chain: each is a run that begins where the acts on the grid of the leg before it have led.
use Rattle.std.specs.Prelude.{ℕ, ◌+◌, List, [], ◌∷◌}
use Rattle.window_sites.specs.Window.{WindowValue}
use Rattle.cell_grid.specs.Grid.{GridValue}
use Rattle.cell_grid.specs.declared.record.Record.{Record}
use Rattle.draw_stream.specs.Plans.{PlanValue}
use Rattle.tile_map.specs.Plane.{MapValue}
use Rattle.event_journal.specs.Serial.{Course, IsSerial, course}
use Rattle.event_journal.specs.declared.abandoned.Abandoned.{Abandoned}

-- What makes the legs of a chain, by their numbers: the map of its tiles, what the elements mean, the attempts of each leg, and
-- what the acts before each leg make of a grid.
pub record Making : Type 0 where
  pub map : MapValue
  pub meaning : WindowValue → ℕ → WindowValue
  pub plan : ℕ → PlanValue
  pub acts : ℕ → GridValue → GridValue

-- what a leg leaves: its grid, its events, and its abandoned attempts
pub record Leg : Type 0 where
  pub grid : GridValue
  pub records : List Record
  pub abandoned : List Abandoned

-- what leg k is a run of, if the leg before it left grid g
abbrev pub leg_course : Making → ℕ → GridValue → Course
leg_course c k g = course c.map (c.plan k) c.meaning (c.acts k g)

-- the grid that legs leave, one after another, if g was there before the first
unfoldable pub grid_after : GridValue → List Leg → GridValue
grid_after g [] = g
grid_after g (l ∷ ls) = grid_after l.grid ls

-- legs with the numbers from k on, if grid g was there before the first: the events of each stand in one serial order
unfoldable pub AreLegs : Making → ℕ → GridValue → List Leg → Type 0
AreLegs c k g [] = Unit {0}
AreLegs c k g (l ∷ ls) = IsSerial (leg_course c k g) l.grid l.records l.abandoned × AreLegs c (k + 1) l.grid ls
