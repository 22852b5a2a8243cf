-- The order of a stepped run: which tile makes each step, until the tiles are finished one after another.
use Rattle.std.specs.Prelude.{ℕ, ◌*◌, ◌%◌, ◌<◌, List, All, length, map, sum_by}
use Rattle.std.specs.List.{range_with_len}
use Rattle.draw_stream.specs.Plans.{PlanValue}
use Rattle.draw_stream.specs.Words.{tile_word}
use Rattle.tile_map.specs.Plane.{MapValue, tiles_of}
use Rattle.world_text.specs.Named.{WorldValue, OrderValue, listed, drawn}

-- the tiles that the first words of a seed's generator name: the remainder of a word modulo the
-- number of tiles
unfoldable pub drawn_order : (seed tiles count : ℕ) → List ℕ
drawn_order seed tiles count = map (λ i. tile_word seed i % tiles) (range_with_len 0 count)

-- how many attempts all tiles have together
abbrev pub attempts_in : PlanValue → ℕ
attempts_in plan = sum_by length plan.lists

-- the tiles that are written out, or 16 for each attempt, drawn from a seed
abbrev pub turns_of : MapValue → PlanValue → OrderValue → List ℕ
turns_of m plan (listed turns) = turns
turns_of m plan (drawn seed) = drawn_order seed (tiles_of m) (16 * attempts_in plan)

-- the order of a world
abbrev pub order_in : WorldValue → List ℕ
order_in w = turns_of w.plane w.plan w.order

-- an order that is written out names tiles of the plane
abbrev pub IsOrder : MapValue → OrderValue → Type 0
IsOrder m (listed turns) = All (λ t. t < tiles_of m) turns
IsOrder m (drawn seed) = Unit {0}
