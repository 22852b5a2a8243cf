use Rattle.std.proofs.Common.{rules, ◌≡◌, pos, sym, ap}
use Rattle.std.specs.Prelude.{int_div}
use Rattle.stack_code.specs.Sorts.{divide}
use Rattle.event_machine.proofs.numbers.quotient.Goals as goal

pub returns-in-Err : goal.returns-in-Err
returns-in-Err c =
    let zero : c.args.b ≡ pos 0 = search rules in
    sym (ap (divide c.args.how int_div c.args.a) zero)
