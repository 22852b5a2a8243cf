use Rattle.std.proofs.Common.{◌≡◌, ◌+◌, ◌-◌, true, false, sym, ap, ◌∙◌, take, get_or, arith, []}
use Rattle.code_file.specs.Reading.{letters_at}
use Rattle.code_file.specs.Words.{stands}
use Rattle.code_file.proofs.Loops.{letter_bad, letter_missing, letter_more, letters_done, letters_from}
use Rattle.code_file.proofs.names.letters.Goals as goal

pub loop-place-init : goal.loop-place-init
unfolding letters_at
loop-place-init c = let k : c.args.count - 0 ≡ c.args.count = omega arith in record { within = omega arith; read = ap (λ n. letters_from c.args.form n [] c.args.bytes.now) k }

pub returns-then-place-bytes : goal.returns-then-place-bytes
returns-then-place-bytes c = letter_missing c.args.form c.args.count c.loop-place.place c.args.bytes.now _ c.loop-place-test.true c.if-place-bytes.true c.loop-place.invariant.read

pub returns-then-not-stands : goal.returns-then-not-stands
returns-then-not-stands c =
    let bytes = c.args.bytes.now in
    let i = c.loop-place.place in
    let left : c.args.count - i - 1 ≡ c.args.count - (i + 1) = omega arith in
    let bad : stands c.args.form (take i bytes) (c.args.count - (i + 1)) (get_or bytes i 0) ≡ false = ap (λ n. stands c.args.form (take i bytes) n (get_or bytes i 0)) (sym left) ∙ sym c.stands.ensures ∙ c.if-not-stands.true in
    letter_bad c.args.form c.args.count i bytes _ c.loop-place-test.true c.if-place-bytes.false bad c.loop-place.invariant.read

pub loop-place-preserved : goal.loop-place-preserved
loop-place-preserved c =
    let bytes = c.args.bytes.now in
    let i = c.loop-place.place in
    let left : c.args.count - i - 1 ≡ c.args.count - (i + 1) = omega arith in
    let good : stands c.args.form (take i bytes) (c.args.count - (i + 1)) (get_or bytes i 0) ≡ true = ap (λ n. stands c.args.form (take i bytes) n (get_or bytes i 0)) (sym left) ∙ sym c.stands.ensures ∙ c.if-not-stands.false in
    record { within = omega arith; read = letter_more c.args.form c.args.count i bytes _ c.loop-place-test.true c.if-place-bytes.false good c.loop-place.invariant.read }

pub returns : goal.returns
returns c = letters_done c.args.form c.args.count c.loop-place.place c.args.bytes.now c.split_at.result.0.now c.split_at.result.1.now _ c.loop-place-test.false (omega arith) c.split_at.ensures.front c.split_at.ensures.back c.loop-place.invariant.read
