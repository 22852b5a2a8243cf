use Rattle.element_set.specs.declared.set.ElementSet.{ElementSet}
use Rattle.element_set.specs.Faults.{gen_fault}
use Rattle.element_set.specs.Kept.{set_view}
use Rattle.element_set.specs.Sets.{set_value}
use Rattle.element_set.specs.Stages as stage
use Rattle.element_set.proofs.Telling.{tells_exit, gen_told}
use Rattle.element_set.proofs.build.coded_set.Goals as goal

pub returns-in_err-codes : goal.returns-in_err-codes
returns-in_err-codes c =
    let s = set_view c.args.typed c.args.layout in
    let fault = c.in_err-codes.field-0.0 in
    tells_exit set_value (stage.limit_stage s) (gen_fault fault) c.from_residual.result c.from_residual.ensures.1 (gen_told ElementSet set_value s fault c.in_err-codes.ensures.codes)

pub of-requires-clause-coded : goal.of-requires-clause-coded
of-requires-clause-coded c = c.in_ok-codes.ensures.codes.0

pub of-requires-clause-compiled : goal.of-requires-clause-compiled
of-requires-clause-compiled c = record { compilable = c.requires.compilable; short = c.in_ok-codes.ensures.codes.1 }
