-- What a run needs of a world.
use Rattle.std.specs.Prelude.{ℕ, ◌≡◌, ◌*◌, ◌<◌, true, List, All, Ok, length}
use Rattle.cell_grid.specs.declared.record.Record.{Record}
use Rattle.draw_stream.specs.declared.attempt.Attempt.{Attempt}
use Rattle.draw_stream.specs.Plans.{PlanValue, attempts}
use Rattle.report_text.specs.Reading.{Said, read_report}
use Rattle.tile_map.specs.Plane.{MapValue, IsMap, site, tiles_of, is_on, is_live}
use Rattle.world_text.specs.Named.{WorldValue}
use Rattle.world_text.specs.Printed.{IsNamed}
use Rattle.world_text.specs.declared.world.Placed.{Placed}

-- an attempt of a tile that is on, at a position of the tile's rectangle
pub record IsAttempt (m : MapValue) (t : ℕ) (a : Attempt) : Type 0 where
  pub on : is_on m t ≡ true
  pub centre : a.centre < m.w * m.h

-- an atom on a live site
abbrev pub IsPlaced : MapValue → Placed → Type 0
IsPlaced m p = is_live m (site p.x p.y) ≡ true

-- an event at a live site
abbrev pub IsLiveEvent : MapValue → Record → Type 0
IsLiveEvent m r = is_live m (site r.x r.y) ≡ true

-- a plan can be run on a plane: each of its tiles has attempts that it can make, and those that are off have none
pub record CanRun (m : MapValue) (plan : PlanValue) : Type 0 where
  pub map : IsMap m
  pub lists : length plan.lists ≡ tiles_of m
  pub attempts : (t : ℕ) → All (IsAttempt m t) (attempts plan t)

-- the tiles have attempts, those that are off have none, and the atoms are on live sites
pub record IsWorld (w : WorldValue) : Type 0 where
  pub map : IsMap w.plane
  pub lists : length w.plan.lists ≡ tiles_of w.plane
  pub attempts : (t : ℕ) → All (IsAttempt w.plane t) (attempts w.plan t)
  pub atoms : All (IsPlaced w.plane) w.atoms

-- a world that has names has what a run needs
abbrev pub NamedWorldsAreValid : Type 0
NamedWorldsAreValid = (names : List (List ℕ)) (w : WorldValue) → IsNamed names w → IsWorld w

-- in a report that is read for such a world, each event is at a live site
abbrev pub ReadEventsAreLive : Type 0
ReadEventsAreLive = (w : WorldValue) (bytes : List ℕ) (d : Said) → IsWorld w → read_report w.plane w.plan.lists bytes ≡ Ok d → All (IsLiveEvent w.plane) d.journal
