use Rattle.std.proofs.Common.{◌≡◌, get_or}
use Rattle.ulam_tree.specs.declared.resolved.Step.TheVariants.{Own, Member}
use Rattle.code_gen.specs.Seen.{program_of, callee_of}
use Rattle.code_gen.proofs.PathSteps.{callee_step}
use Rattle.code_gen.proofs.path.+callee_from.Goals as goal

pub returns-in-Member : goal.returns-in-Member
returns-in-Member t c =
    let x = c.in-Member in
    let first : get_or c.args.steps.now 0 Own ≡ Member x.class x.member = cc in
    callee_step (program_of c.args.classes.now) c.args.steps.now Own x.class x.member c.args.base c.bit_of.result (callee_of c.callee_from-in-Member.result) first x.len_at_least c.bit_of.ensures c.callee_from-in-Member.ensures
