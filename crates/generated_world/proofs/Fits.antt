-- A generated world has what a run needs.
use Rattle.std.proofs.Common.{◌≡◌, ℕ, ◌*◌, ◌<◌, [], All, true, get_or, refl, sym, subst, arith, inl, inr}
use Rattle.std.specs.List.{range_with_len}
use Rattle.std.proofs.Math.Nat.{mod-lt}
use Rattle.std.proofs.Math.ListN.{get_or-eq_default}
use Rattle.std.proofs.lemmas.Bool.{agree_below_at, cases_lt}
use Rattle.std.proofs.lemmas.List.Elements.{All-map, All-nil}
use Rattle.draw_stream.specs.Attempts.{attempt_at, seeded_attempts, stream_seed}
use Rattle.draw_stream.specs.Plans.{attempts, count_of, seeded}
use Rattle.draw_stream.specs.Words.{tile_word}
use Rattle.draw_stream.proofs.Plans.{length_seeded_lists, seeded_lists_at}
use Rattle.tile_map.specs.Plane.{IsMap, is_on}
use Rattle.world_runs.specs.Worlds.{IsAttempt, IsWorld}
use Rattle.world_text.specs.Named.{WorldValue}
use Rattle.generated_world.specs.Generated.{world_of_number, plane}
use Rattle.generated_world.proofs.Drawing.{drawn_live}

plane_fits : IsMap plane
plane_fits = record {
  sizes = record { tx_low = omega arith; tx_high = omega arith; ty_low = omega arith; ty_high = omega arith; w_low = omega arith; w_high = omega arith; h_low = omega arith; h_high = omega arith };
  marks = refl;
}

all_on : (tile : ℕ) → tile < 16 → is_on plane tile ≡ true
all_on tile within = agree_below_at (is_on plane) (λ t. true) 16 tile refl within

drawn_fit : (seed tile count : ℕ) → tile < 16 → All (IsAttempt plane tile) (seeded_attempts seed count 256 tile)
unfolding seeded_attempts
drawn_fit seed tile count within =
    let some : 0 < 256 = omega arith in
    All-map (IsAttempt plane tile) (attempt_at (stream_seed seed tile) 256) (range_with_len 0 count)
    (λ i d lt. record { on = all_on tile within; centre = mod-lt (tile_word (stream_seed seed tile) (2 * get_or (range_with_len 0 count) i d)) some })

attempts_fit : (seed tile : ℕ) → All (IsAttempt plane tile) (attempts (seeded seed 500 plane.off 256) tile)
attempts_fit seed tile = elim (cases_lt tile 16) [
  | inl within ↦ subst (All (IsAttempt plane tile)) (sym (seeded_lists_at seed 500 plane.off 256 tile within)) (drawn_fit seed tile (count_of 500 plane.off tile) within)
  | inr past ↦ subst (All (IsAttempt plane tile)) (sym (get_or-eq_default (seeded seed 500 plane.off 256).lists [] {n = tile} (omega (arith, past, length_seeded_lists seed 500 plane.off 256)))) (All-nil (IsAttempt plane tile))
]

generated_fits : (number : ℕ) → IsWorld (world_of_number number)
generated_fits number = record {
  map = plane_fits;
  lists = length_seeded_lists number 500 plane.off 256;
  attempts = attempts_fit number;
  atoms = drawn_live (stream_seed number 2) 4096 (omega arith);
}

pub fits_by : (number : ℕ) (w : WorldValue) → w ≡ world_of_number number → IsWorld w
fits_by number w e = subst IsWorld (sym e) (generated_fits number)
