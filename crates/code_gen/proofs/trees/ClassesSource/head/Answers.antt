use Rattle.std.proofs.Common.{arith}
use Rattle.code_gen.specs.Seen.{program_of}
use Rattle.code_gen.specs.Views.{key_of}
use Rattle.code_gen.proofs.TreeSource.{few_params, head_is}
use Rattle.code_gen.proofs.trees.ClassesSource.head.Goals as goal

pub overflow_cast-result : goal.overflow_cast-result
overflow_cast-result c =
    let few = few_params (program_of c.args.self.now) (key_of c.args.key) c.function-found.result c.function-found.ensures c.args.self.now.sized in
    omega (arith, few)

pub returns : goal.returns
returns c = head_is (program_of c.args.self.now) (key_of c.args.key) c.function-found.result c.function-found.ensures c.answer_of.result c.type_number.result c.answer_of.ensures c.type_number.ensures
