use Rattle.std.proofs.Common.{rules, arith, map, ◌+◌, ◌-◌}
use Rattle.std.proofs.lemmas.Grind.{common_steps}
use Rattle.ulam_tree.specs.RawViews.{word_of}
use Rattle.ulam_parse.specs.Views.{from, first_word}
use Rattle.ulam_parse.specs.Marks.{word_at}
use Rattle.ulam_parse.proofs.Loops.{words_step}
use Rattle.ulam_parse.specs.Reading.{names_after_dots, with_front}
use Rattle.ulam_parse.proofs.Turns.{one_more, no_more}
use Rattle.ulam_parse.proofs.types.words_after.Goals as goal

pub returns-in_default : goal.returns-in_default
unfolding names_after_dots
returns-in_default c =
    let e = one_more (λ n. with_front (map word_of c.turns.words.items) (names_after_dots n (from c.args.tape.now c.turns.next))) _ c.turns._turn c.turns-test.true c.turns.invariant in
    first_of (search rules, grind (arith, common_steps))

pub returns-in_err-mark : goal.returns-in_err-mark
unfolding names_after_dots
returns-in_err-mark c =
    let e = one_more (λ n. with_front (map word_of c.turns.words.items) (names_after_dots n (from c.args.tape.now c.turns.next))) _ c.turns._turn c.turns-test.true c.turns.invariant in
    first_of (search rules, grind (arith, common_steps))

pub turns-preserved : goal.turns-preserved
turns-preserved c =
    let e = one_more (λ n. with_front (map word_of c.turns.words.items) (names_after_dots n (from c.args.tape.now c.turns.next))) _ c.turns._turn c.turns-test.true c.turns.invariant in
    let st = words_step (c.count_from-turn-end.result + 1 - (c.turns._turn + 1)) c.turns.words.items c.in_ok-word.field-0 (word_at c.args.tape.now.bytes.now c.in_ok-mark.mark) (first_word (from c.args.tape.now c.turns.next))
    (from c.args.tape.now c.turns.next) (from c.args.tape.now c.in-Some.behind) (from c.args.tape.now c.in_ok-mark.behind) (search rules) (search rules) (search rules) (search rules) in
    first_of (search rules, grind (arith, common_steps))

pub returns : goal.returns
unfolding names_after_dots
returns c =
    let e = no_more (λ n. with_front (map word_of c.turns.words.items) (names_after_dots n (from c.args.tape.now c.turns.next))) _ c.turns._turn c.turns-test.false c.turns.invariant in
    first_of (search rules, grind (arith, common_steps))
