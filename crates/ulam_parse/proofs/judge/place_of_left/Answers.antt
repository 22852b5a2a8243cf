use Rattle.std.proofs.Common.{◌-◌, ◌+◌, refl, ◌∙◌, arith}
use Rattle.ulam_parse.specs.Marks.{tok_at}
use Rattle.ulam_parse.specs.Views.{from}
use Rattle.ulam_parse.proofs.Laws.{from_drop, gone}
use Rattle.ulam_parse.proofs.judge.place_of_left.Goals as goal

pub unreachable-requires : goal.unreachable-requires
unreachable-requires c =
    let at = c.count_from.result - c.args.left in
    gone (from c.args.tape.now 0) at (omega (arith, c.count_from.ensures.count, c.requires.some, c.requires.few)) (from_drop c.args.tape.now at ∙ c.in-None.ensures.none)

pub returns : goal.returns
returns c =
    let at = c.count_from.result - c.args.left in
    record {
      index = at;
      at = tok_at c.args.tape.now.bytes.now c.in-Some.mark;
      rest = from c.args.tape.now (at + 1);
      counts = omega (arith, c.count_from.ensures.count, c.requires.few);
      stands = from_drop c.args.tape.now at ∙ c.in-Some.ensures.some;
      placed = refl;
    }
