use Rattle.std.proofs.Common.{◌<◌, rules, arith}
use Rattle.std.proofs.lemmas.Grind.{common_steps}
use Rattle.event_machine.proofs.fields.with_part.Goals as goal

pub returns-else-kind-eq0 : goal.returns-else-kind-eq0
returns-else-kind-eq0 c =
    let other : 0 < c.args.atom.kind = omega arith in
    first_of (search rules, grind (arith, common_steps))
