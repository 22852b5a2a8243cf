-- The attempts of a tile: its part of a script, or words of its stream.
use Rattle.std.specs.Prelude.{ℕ, zero, suc, ◌+◌, ◌*◌, ◌%◌, ◌^◌, List, [], ◌∷◌, map}
use Rattle.std.specs.List.{range_with_len}
use Rattle.draw_stream.specs.declared.attempt.Attempt.{Attempt}
use Rattle.draw_stream.specs.Words.{tile_step, tile_word}

-- the seed of a tile's stream
abbrev pub stream_seed : ℕ → ℕ → ℕ
stream_seed seed tile = (seed + tile) % 2 ^ 64

-- attempt i of a stream: word 2i modulo the number of sites is the centre, and word 2i + 1 is the event's seed
abbrev pub attempt_at : ℕ → ℕ → ℕ → Attempt
attempt_at stream sites i = record { centre = tile_word stream (2 * i) % sites; seed = tile_word stream (2 * i + 1) }

-- the attempts of a tile that draws `count` of them
unfoldable pub seeded_attempts : ℕ → ℕ → ℕ → ℕ → List Attempt
seeded_attempts seed count sites tile = map (attempt_at (stream_seed seed tile) sites) (range_with_len 0 count)

-- the attempt that a generator gives at a state, and the state after it
abbrev pub next_attempt : List ℕ → ℕ → Attempt
next_attempt state sites = record { centre = (tile_step state).0 % sites; seed = (tile_step (tile_step state).1).0 }

abbrev pub state_after : List ℕ → List ℕ
state_after state = (tile_step (tile_step state).1).1

-- the next k attempts that a generator gives
unfoldable pub next_attempts : List ℕ → ℕ → ℕ → List Attempt
next_attempts state sites zero = []
next_attempts state sites (suc k) = next_attempt state sites ∷ next_attempts (state_after state) sites k
