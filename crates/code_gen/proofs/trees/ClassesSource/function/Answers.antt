use Rattle.std.proofs.Common.{arith, ◌∙◌}
use Rattle.code_gen.specs.Seen.{program_of}
use Rattle.code_gen.specs.Views.{key_of}
use Rattle.code_gen.proofs.TreeSource.{few_params, value_is}
use Rattle.code_gen.proofs.trees.ClassesSource.function.Goals as goal

pub overflow_cast-params : goal.overflow_cast-params
overflow_cast-params c =
    let few = few_params (program_of c.args.self.now) (key_of c.args.key) c.function-found.result c.function-found.ensures c.args.self.now.sized in
    omega (arith, few)

pub returns : goal.returns
returns c =
    let g = program_of c.args.self.now in
    let types = c.as_slice.result.now in
    c.new-2.ensures
    ∙ value_is g (key_of c.args.key) c.function-found.result c.function-found.ensures c.args.first c.in_ok-name.name types c.in_ok-slots.slots.items c.answer_of.result
    c.in_ok-name.ensures (c.as_slice.ensures.value ∙ c.in_ok-types.ensures) c.in_ok-slots.ensures c.answer_of.ensures
