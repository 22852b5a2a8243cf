use Rattle.std.proofs.Common.{◌≡◌, true, rules}
use Rattle.stack_code.specs.Valid.{valid}
use Rattle.stack_code.proofs.Bound.{runs_well}
use Rattle.stack_code.proofs.Stays.{jumps_stay}
use Rattle.stack_code.proofs.code.Code.laws.Goals as goal

pub returns-clause-runs : goal.returns-clause-runs
returns-clause-runs c =
    let e : valid c.args.self.now ≡ true = search rules in
    λ w seed. runs_well c.args.self.now e w seed

pub returns-clause-jumps : goal.returns-clause-jumps
returns-clause-jumps c =
    let e : valid c.args.self.now ≡ true = search rules in
    jumps_stay c.args.self.now e
