-- The tiles that are left of an order.
use Rattle.std.specs.Prelude.{ℕ, ◌%◌, ◌≤◌, List, [], ◌∷◌, flat_map}
use Rattle.std.specs.List.{cons_option}
use Rattle.draw_stream.specs.declared.attempt.Attempt.{Attempt}
use Rattle.draw_stream.specs.Attempts.{next_attempts}
use Rattle.feast_base.specs.declared.limits.TheConstants.{MOST_TILES}
use Rattle.world_runs.specs.declared.turns.DrawnTurns.{DrawnTurns}
use Rattle.world_runs.specs.declared.turns.Rest.{Rest}
use Rattle.world_runs.specs.declared.turns.Rest.TheVariants.{Listed, Drawn}

-- the two tiles that the words of an attempt name
abbrev pub pair_of : ℕ → Attempt → List ℕ
pair_of tiles a = a.centre ∷ a.seed % tiles ∷ []

-- the tiles that are left of those that are drawn
abbrev pub turns_drawn : DrawnTurns → List ℕ
turns_drawn d = cons_option d.second (flat_map (pair_of d.tiles) (next_attempts d.stream d.tiles d.pairs))

-- tiles can be drawn
pub record IsDrawn (d : DrawnTurns) : Type 0 where
  pub some : 1 ≤ d.tiles
  pub most : d.tiles ≤ MOST_TILES

-- the tiles that are left
abbrev pub rest_of : Rest → List ℕ
rest_of (Listed tiles) = tiles.now
rest_of (Drawn d) = turns_drawn d

-- the tiles that are left can be given
abbrev pub CanGive : Rest → Type 0
CanGive (Listed tiles) = Unit {0}
CanGive (Drawn d) = IsDrawn d
