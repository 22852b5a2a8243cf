use Rattle.ulam_tree.specs.ResolvedViews.{resolved_program}
use Rattle.element_set.specs.Sets.{set_value}
use Rattle.element_set.specs.Stages as stage
use Rattle.element_set.proofs.Telling.{tells_then}
use Rattle.element_set.proofs.build.laid_set.Goals as goal

pub returns : goal.returns
returns c =
    let cs = resolved_program c.args.program in
    let found = c.in_ok-layout.ensures in
    tells_then set_value (stage.layout_stage cs) (stage.typed_set cs) c.in_ok-layout.layout c.typed_set.result (found.narrow, found.layout) c.typed_set.ensures
