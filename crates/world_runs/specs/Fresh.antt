-- The tiles of a plane before their first step, and what the run of a world starts from.
use Rattle.std.specs.Prelude.{ℕ, ◌≡◌, ◌<◌, List, All, map, slice_get, Some}
use Rattle.window_sites.specs.Window.{WindowValue}
use Rattle.cell_grid.specs.Grid.{GridValue}
use Rattle.draw_stream.specs.Plans.{PlanValue, attempts}
use Rattle.event_journal.specs.Serial.{Course, course}
use Rattle.tile_core.specs.Underway.{CanAttempt, IsFreshTile}
use Rattle.tile_core.specs.Values.{TileWith, atoms_of}
use Rattle.tile_map.specs.Plane.{MapValue, tiles_of}
use Rattle.world_runs.specs.Start.{start_of}
use Rattle.world_text.specs.Named.{WorldValue}

-- the plan's attempts of each tile are ones that it can make
abbrev pub AllCanAttempt : MapValue → PlanValue → Type 0
AllCanAttempt m plan = (t : ℕ) → t < tiles_of m → CanAttempt m t (attempts plan t)

-- tiles that have only been made, from the first one on, each with its attempts of the plan, and with these to act
pub record AreMade {B : Type 0} (m : MapValue) (start : GridValue) (plan : PlanValue) (behaves : List B) (tiles : List (TileWith B)) : Type 0 where
  pub fresh : (t : ℕ) (x : TileWith B) → slice_get tiles t ≡ Some x → IsFreshTile m t (atoms_of start) (attempts plan t) x.core
  pub acts : map (λ (x : TileWith B). x.behave) tiles ≡ behaves

-- the course of a world, where events do this
abbrev pub world_course : WorldValue → (WindowValue → ℕ → WindowValue) → Course
world_course w meaning = course w.plane w.plan meaning (start_of w)

-- this holds of the meaning that all of these have
abbrev pub OfTheMeaning : {B : Type 0} → (B → WindowValue → ℕ → WindowValue) → List B → ((WindowValue → ℕ → WindowValue) → Type 0) → Type 0
OfTheMeaning after behaves P = (meaning : WindowValue → ℕ → WindowValue) → All (λ b. after b ≡ meaning) behaves → P meaning
