use Rattle.std.proofs.Common.{◌<◌, ◌*◌, length, arith}
use Rattle.text_lines.specs.Fields.{worth}
use Rattle.chain_text.proofs.Chances.{places_are, scaled, worth_below}
use Rattle.chain_text.proofs.chance.billionths.Goals as goal

pub overflow_mul-result : goal.overflow_mul-result
overflow_mul-result c =
    let ds = c.args.digits.now in
    let p = places_are ds c.requires in
    let small : c.worth.result * c.pow.result < 1000000000 = rw (c.worth.ensures.value, c.pow.ensures) (scaled (worth ds) (length ds) p.2 (worth_below ds p.0)) in
    omega (arith, small)

pub returns-clause-bound : goal.returns-clause-bound
returns-clause-bound c =
    let ds = c.args.digits.now in
    let p = places_are ds c.requires in
    rw (c.worth.ensures.value, c.pow.ensures) (scaled (worth ds) (length ds) p.2 (worth_below ds p.0))
