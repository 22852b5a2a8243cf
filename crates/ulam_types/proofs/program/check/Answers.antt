use Rattle.ulam_tree.specs.ResolvedViews.{resolved_program}
use Rattle.ulam_types.proofs.Programs.{gives_is, gives_well, gives_none}
use Rattle.ulam_types.proofs.program.check.Goals as goal

pub returns : goal.returns
returns c =
    let cs = resolved_program c.args.program.now in
    record { found = c.find.ensures; is = gives_is c.find.result cs c.find.ensures; well = gives_well c.find.result cs c.find.ensures; none = gives_none c.find.result cs c.find.ensures }
