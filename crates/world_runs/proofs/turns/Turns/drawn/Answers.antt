use Rattle.std.proofs.Common.{◌%◌, ap, ◌∙◌, arith}
use Rattle.std.specs.Prelude.{◌^◌, flat_map}
use Rattle.std.proofs.Math.Nat.{mod-eq_of_lt}
use Rattle.draw_stream.specs.Attempts.{next_attempts}
use Rattle.draw_stream.specs.Words.{tile_state}
use Rattle.world_runs.specs.Turns.{pair_of}
use Rattle.world_runs.proofs.Drawing.{drawn_pairs}
use Rattle.world_runs.proofs.turns.Turns.drawn.Goals as goal

pub returns : goal.returns
returns c =
    let state = c.new.ensures ∙ ap (λ s. tile_state s 0) (ap (λ n. n % 2 ^ 64) (omega arith) ∙ mod-eq_of_lt c.ranges.seed.fits) in
    ap (λ s. flat_map (pair_of c.from.result) (next_attempts s c.from.result c.args.pairs)) state
    ∙ ap (λ n. flat_map (pair_of n) (next_attempts (tile_state c.args.seed 0) n c.args.pairs)) c.from.ensures
    ∙ drawn_pairs c.args.seed c.args.tiles c.args.pairs
