-- The words of the two generators, by position. A generator is a state and a step, which gives a word and the next state.
use Rattle.std.specs.Prelude.{ℕ, zero, suc, List}
use Rattle.rand_xoshiro.specs.SplitMix64.{splitmix_seed, mix_u64}
use Rattle.rand_xoshiro.specs.Xoshiro256.{plus_plus, of_seed}

-- one step of Xoshiro256++
unfoldable pub tile_step : List ℕ → ℕ × List ℕ
tile_step state = plus_plus state

-- the state that `seed_from_u64` makes of a seed, after i words
unfoldable pub tile_state : ℕ → ℕ → List ℕ
tile_state seed zero = of_seed (splitmix_seed 32 seed)
tile_state seed (suc i) = (tile_step (tile_state seed i)).1

-- word i of the stream of a seed
abbrev pub tile_word : ℕ → ℕ → ℕ
tile_word seed i = (tile_step (tile_state seed i)).0

-- one step of SplitMix64
unfoldable pub event_step : ℕ → ℕ × ℕ
event_step state = mix_u64 state

-- the state that `seed_from_u64` makes of an event's seed, after k words
unfoldable pub event_state : ℕ → ℕ → ℕ
event_state seed zero = seed
event_state seed (suc k) = (event_step (event_state seed k)).1

-- word k of an event
abbrev pub event_word : ℕ → ℕ → ℕ
event_word seed k = (event_step (event_state seed k)).0
