use Rattle.std.proofs.Common.{◌≡◌, get_or}
use Rattle.ulam_tree.specs.declared.resolved.Step.TheVariants.{Own, Member}
use Rattle.code_gen.specs.Seen.{program_of, spot_of}
use Rattle.code_gen.proofs.PathSteps.{through_step}
use Rattle.code_gen.proofs.path.+through.Goals as goal

pub returns-in-Member-2 : goal.returns-in-Member-2
returns-in-Member-2 t c =
    let x = c.in-Member-2 in
    let first : get_or c.args.steps.now 0 Own ≡ Member x.class x.member = cc in
    through_step (program_of c.args.classes.now) c.args.slot c.args.steps.now Own x.class x.member c.args.base c.bit_of.result (spot_of c.through.result) first x.len_at_least c.bit_of.ensures c.through.ensures
