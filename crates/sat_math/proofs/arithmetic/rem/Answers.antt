use Rattle.std.proofs.Common.{ap, rules, refl}
use Rattle.std.specs.Prelude.{int_rem}
use Rattle.sat_math.specs.Operations.{saturate}
use Rattle.sat_math.proofs.Handed.{answered, quotient_fits}
use Rattle.sat_math.proofs.arithmetic.rem.Goals as goal

pub returns-in-Some-clause-value : goal.returns-in-Some-clause-value
returns-in-Some-clause-value c =
    let a = c.args in
    let f = quotient_fits a.a a.b c.requires.left in
    answered a.how _ _ (int_rem a.a a.b) _ refl (record { sfits = c.nearest.type_inv }) c.nearest.ensures.value (ap (saturate a.how) (search rules))
