use Rattle.std.proofs.Common.{◌≡◌, ◌+◌, ◌-◌, ◌/◌, ◌%◌, ◌^◌, arith}
use Rattle.std.specs.Prelude.{slice_index_or, bit_and}
use Rattle.std.proofs.lemmas.Bool.Decides.{nat_tests}
use Rattle.border_cache.proofs.RunBits.{clear_in_one, clear_in_two}
use Rattle.border_cache.proofs.masks.are_clear_in.Goals as goal

pub returns-then-low-end-le64 : goal.returns-then-low-end-le64
returns-then-low-end-le64 c = λ yes. clear_in_one c.args.words.now c.args.start c.args.end c.ones-bits.result c.ones-bits.ensures c.requires.some (omega (arith, c.if-low-end-le64.true)) c.if-words-word-ne0.false

pub returns : goal.returns
returns c = λ yes.
    let empty : bit_and (slice_index_or c.args.words.now (c.args.start / 64 + 1) 0) (c.ones-bits.result / 2 ^ (64 - c.args.start % 64)) ≡ 0 = grind (arith, nat_tests, yes) in
    clear_in_two c.args.words.now c.args.start c.args.end c.ones-bits.result c.ones-bits.ensures c.requires.some c.requires.short c.if-words-word-ne0.false empty
