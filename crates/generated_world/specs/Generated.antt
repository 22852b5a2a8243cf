-- The world that a number gives: 4 by 4 tiles of 16 by 16 sites, all of them on.
use Rattle.std.specs.Prelude.{ℕ, zero, suc, ◌*◌, ◌/◌, ◌%◌, List, [], ◌∷◌, flat_map}
use Rattle.std.specs.List.{range_with_len}
use Rattle.draw_stream.specs.Attempts.{stream_seed}
use Rattle.draw_stream.specs.Plans.{seeded}
use Rattle.draw_stream.specs.Words.{tile_word}
use Rattle.tile_map.specs.Plane.{MapValue, whole_plane}
use Rattle.world_text.specs.Named.{WorldValue, drawn}
use Rattle.world_text.specs.declared.world.Placed.{Placed}

abbrev pub plane : MapValue
plane = whole_plane 4 4 16 16

-- the atom of this type, with state 0, on the site of a place in row order
abbrev pub placed_at : ℕ → ℕ → Placed
placed_at place kind = record { x = place % 64; y = place / 64; atom = record { kind = kind; state = 0 } }

-- what a word puts on the site of a place, by its remainder modulo 8: an atom of type 1, of type 2,
-- or none
abbrev pub put_by : ℕ → ℕ → List Placed
put_by place zero = placed_at place 1 ∷ []
put_by place (suc zero) = placed_at place 2 ∷ []
put_by place (suc (suc rest)) = []

-- the atoms of the first n sites in row order, each of which takes the next word of the seed's
-- generator
unfoldable pub drawn_atoms : (seed sites : ℕ) → List Placed
drawn_atoms seed sites = flat_map (λ place. put_by place (tile_word seed place % 8)) (range_with_len 0 sites)

-- the world: each tile draws 500 attempts from the number, the order of a stepped run is drawn from the next number, and
-- the atoms of its 4,096 sites from the one after that
abbrev pub world_of_number : ℕ → WorldValue
world_of_number number = record {
  plane = plane;
  plan = seeded number 500 plane.off (16 * 16);
  atoms = drawn_atoms (stream_seed number 2) 4096;
  order = drawn (stream_seed number 1);
}
