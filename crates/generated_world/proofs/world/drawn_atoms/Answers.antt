use Rattle.std.proofs.Common.{◌++◌, ◌*◌, ◌+◌, ◌%◌, ap, sym, ◌∙◌, arith}
use Rattle.std.specs.Prelude.{◌^◌}
use Rattle.std.proofs.Math.Nat.{mod-eq_of_lt}
use Rattle.draw_stream.specs.declared.attempt.Attempt.{Attempt}
use Rattle.draw_stream.specs.Words.{tile_state}
use Rattle.generated_world.proofs.Drawing.{drawn_none, drawn_two}
use Rattle.generated_world.specs.Generated.{put_by}
use Rattle.generated_world.proofs.world.drawn_atoms.Goals as goal

pub loop-pair-init : goal.loop-pair-init
loop-pair-init c = record {
  stream = c.new-stream.ensures ∙ ap (λ s. tile_state s 0) (ap (λ n. n % 2 ^ 64) (omega arith) ∙ mod-eq_of_lt c.ranges.seed.fits);
  atoms = c.new-atoms.ensures.items ∙ sym (drawn_none c.args.seed);
}

pub loop-pair-preserved : goal.loop-pair-preserved
loop-pair-preserved c =
    let p = c.attempt-words.ensures.place c.args.seed c.loop-pair.pair c.loop-pair.invariant.stream in
    let pair = c.loop-pair.pair in
    let words = c.attempt-words.result in
    record {
      stream = c.attempt-words.ensures.after c.args.seed pair c.loop-pair.invariant.stream;
      atoms = c.in_ok-put_two.ensures ∙ (ap (λ xs. xs ++ (put_by (2 * pair) words.centre ++ put_by (2 * pair + 1) (words.seed % 8))) c.loop-pair.invariant.atoms
          ∙ sym (drawn_two c.args.seed pair words.centre (words.seed % 8) (ap (λ (a : Attempt). a.centre) p) (ap (λ (a : Attempt). a.seed % 8) p)));
    }
