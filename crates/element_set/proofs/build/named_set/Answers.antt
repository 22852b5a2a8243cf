use Rattle.std.proofs.Common.{subst}
use Rattle.ulam_names.specs.Classes.{program}
use Rattle.ulam_names.specs.Files.{all_items}
use Rattle.ulam_names.specs.Shown.{Fails}
use Rattle.element_set.specs.declared.set.ElementSet.{ElementSet}
use Rattle.element_set.specs.Faults.{name_fault}
use Rattle.element_set.specs.Sets.{set_value}
use Rattle.element_set.specs.Stages as stage
use Rattle.element_set.proofs.Telling.{tells_exit, name_told}
use Rattle.element_set.proofs.build.named_set.Goals as goal

pub returns-in_err-program : goal.returns-in_err-program
returns-in_err-program c =
    let xs = all_items c.args.files.items in
    let fault = c.in_err-program.field-0.0 in
    let fails = subst (λ fs. Fails fault (program (all_items fs))) c.as_slice.ensures.value c.in_err-program.ensures.found in
    tells_exit set_value (stage.named_set xs) (name_fault fault) c.from_residual.result c.from_residual.ensures.1 (name_told ElementSet set_value xs stage.laid_set fault fails)

pub laid_set-requires : goal.laid_set-requires
laid_set-requires c = record { items = all_items c.as_slice.result.now; is = c.in_ok-program.ensures.is }
