-- Orders that are drawn, two tiles at a time.
use Rattle.std.proofs.Common.{◌≡◌, ℕ, zero, suc, ◌+◌, ◌*◌, ◌-◌, ◌%◌, ◌<◌, ◌≤◌, List, [], ◌∷◌, ◌++◌, All, get_or, map, refl, sym, ap, ◌∙◌, arith}
use Rattle.std.specs.Prelude.{None, flat_map}
use Rattle.std.specs.List.{range_with_len, cons_option}
use Rattle.std.proofs.Math.Nat.{mod-lt}
use Rattle.std.proofs.lemmas.List.Elements.{All-map}
use Rattle.draw_stream.specs.Words.{tile_state, tile_word}
use Rattle.draw_stream.specs.Attempts.{attempt_at, next_attempt, next_attempts, state_after}
use Rattle.draw_stream.proofs.Places.{next_attempts-at, next_attempts_none, next_attempts_some}
use Rattle.world_runs.specs.declared.turns.DrawnTurns.{DrawnTurns}
use Rattle.world_runs.specs.Orders.{drawn_order}
use Rattle.world_runs.specs.Turns.{pair_of, turns_drawn}

-- the tiles that some attempts of a stream name, by the places of its words
two_each : (seed tiles i k : ℕ) → flat_map (pair_of tiles) (map (attempt_at seed tiles) (range_with_len i k)) ≡ map (λ j. tile_word seed j % tiles) (range_with_len (2 * i) (2 * k))
two_each seed tiles i zero = refl
two_each seed tiles i (suc k) =
    let named = λ (j : ℕ). tile_word seed j % tiles in
    let count : 2 * suc k ≡ suc (suc (2 * k)) = omega arith in
    let place : 2 * (i + 1) ≡ 2 * i + 1 + 1 = omega arith in
    ap (λ xs. named (2 * i) ∷ named (2 * i + 1) ∷ xs) (two_each seed tiles (i + 1) k ∙ ap (λ a. map named (range_with_len a (2 * k))) place)
    ∙ ap (λ n. map named (range_with_len (2 * i) n)) (sym count)

-- a seed's tiles are those of the attempts of its stream
pub drawn_pairs : (seed tiles pairs : ℕ) → flat_map (pair_of tiles) (next_attempts (tile_state seed 0) tiles pairs) ≡ drawn_order seed tiles (2 * pairs)
unfolding drawn_order
drawn_pairs seed tiles pairs = ap (flat_map (pair_of tiles)) (next_attempts-at seed tiles 0 pairs) ∙ two_each seed tiles 0 pairs

abbrev pairs_left : DrawnTurns → List ℕ
pairs_left d = flat_map (pair_of d.tiles) (next_attempts d.stream d.tiles d.pairs)

-- no tiles are left, or two and the others
pub turns_none : (d : DrawnTurns) → d.second ≡ None → d.pairs ≡ 0 → turns_drawn d ≡ []
turns_none d none over = ap (λ o. cons_option o (pairs_left d)) none ∙ ap (λ k. flat_map (pair_of d.tiles) (next_attempts d.stream d.tiles k)) over ∙ ap (flat_map (pair_of d.tiles)) (next_attempts_none d.stream d.tiles)

pub turns_two : (d : DrawnTurns) → d.second ≡ None → 0 < d.pairs →
    turns_drawn d ≡ pair_of d.tiles (next_attempt d.stream d.tiles) ++ flat_map (pair_of d.tiles) (next_attempts (state_after d.stream) d.tiles (d.pairs - 1))
turns_two d none some = ap (λ o. cons_option o (pairs_left d)) none ∙ ap (flat_map (pair_of d.tiles)) (next_attempts_some d.stream d.tiles d.pairs some)

-- tiles that are drawn are tiles of the plane
pub drawn_within : (seed tiles count : ℕ) → 1 ≤ tiles → All (λ t. t < tiles) (drawn_order seed tiles count)
unfolding drawn_order
drawn_within seed tiles count some = All-map (λ t. t < tiles) (λ i. tile_word seed i % tiles) (range_with_len 0 count) (λ i d lt. mod-lt (tile_word seed (get_or (range_with_len 0 count) i d)) some)
