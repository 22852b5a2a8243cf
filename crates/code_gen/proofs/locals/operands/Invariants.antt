use Rattle.std.proofs.Common.{◌≡◌, map, take}
use Rattle.code_gen.specs.Scheme.{operand_of}
use Rattle.code_gen.proofs.locals.operands.Given as goal

abbrev pub invariant-loop-ty : goal.invariant-loop-ty
invariant-loop-ty l = l.operands.items ≡ map operand_of (take l.ty-index l.types)
