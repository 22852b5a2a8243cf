-- The entries of one tile, taken beside its attempts, one after another.
use Rattle.std.specs.Prelude.{ℕ, ◌+◌, ◌≡◌, ◌==◌, ◌*◌, ◌<◌, Bool, true, false, ◌&&◌, if◌then◌else◌, List, [], ◌∷◌, All, length}
use Rattle.cell_grid.specs.declared.record.Record.{Record}
use Rattle.draw_stream.specs.declared.attempt.Attempt.{Attempt}
use Rattle.draw_stream.specs.Plans.{PlanValue, attempts}
use Rattle.tile_map.specs.Plane.{MapValue, site_in, tiles_of, is_on}
use Rattle.event_journal.specs.declared.abandoned.Abandoned.{Abandoned}

-- the plan of a plane: a list for each tile, empty for a tile that is off, and each attempt at a
-- position of its tile's rectangle
pub record IsPlanOf (m : MapValue) (plan : PlanValue) : Type 0 where
  pub lists : length plan.lists ≡ tiles_of m
  pub on : (t : ℕ) → 0 < length (attempts plan t) → is_on m t ≡ true
  pub centres : (t : ℕ) → All (λ (a : Attempt). a.centre < m.w * m.h) (attempts plan t)

-- whether a position of a tile is the site
abbrev pub is_at : MapValue → ℕ → ℕ → ℕ → ℕ → Bool
is_at m t centre x y = (site_in m t centre).x == x && (site_in m t centre).y == y

-- whether an event is one of an attempt of the tile
abbrev pub is_event : MapValue → ℕ → Attempt → Record → Bool
is_event m t a r = is_at m t a.centre r.x r.y && a.seed == r.seed

-- whether the first abandoned attempt is attempt i, and the rest passes too
abbrev pub next_abandoned : MapValue → ℕ → ℕ → Attempt → List Abandoned → (List Abandoned → Bool) → Bool
next_abandoned m t i a [] rest = false
next_abandoned m t i a (g ∷ gs) rest = (g.attempt == i && is_at m t a.centre g.x g.y) && rest gs

-- whether attempt i is the tile's next event, or else its next abandoned attempt, and the rest passes too
abbrev pub next_entry : MapValue → ℕ → ℕ → Attempt → List Record → List Abandoned → (List Record → List Abandoned → Bool) → Bool
next_entry m t i a [] gs rest = next_abandoned m t i a gs (rest [])
next_entry m t i a (r ∷ rs) gs rest = if r.attempt == i then is_event m t a r && rest rs gs else next_abandoned m t i a gs (rest (r ∷ rs))

abbrev pub are_none : List Record → List Abandoned → Bool
are_none [] [] = true
are_none [] (g ∷ gs) = false
are_none (r ∷ rs) gs = false

-- whether the events and the abandoned attempts are a tile's attempts from number i on, each once, and nothing else
unfoldable pub are_entries : MapValue → ℕ → ℕ → List Attempt → List Record → List Abandoned → Bool
are_entries m t i [] rs gs = are_none rs gs
are_entries m t i (a ∷ more) rs gs = next_entry m t i a rs gs (are_entries m t (i + 1) more)
