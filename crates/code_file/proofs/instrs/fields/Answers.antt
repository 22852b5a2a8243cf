use Rattle.std.proofs.Common.{◌≡◌, refl, arith}
use Rattle.stack_code.specs.declared.instr.Instr.TheVariants.{StorePart}
use Rattle.code_file.specs.Reading.{args_at, part_at}
use Rattle.code_file.proofs.Arguments.{arg_made, arg_fails}
use Rattle.code_file.proofs.Loops.{stops_at}
use Rattle.code_file.proofs.instrs.fields.Goals as goal

pub returns-in_err-s-in_default : goal.returns-in_err-s-in_default
unfolding args_at
returns-in_err-s-in_default c = let k : c.args.code ≡ 8 = omega arith in λ most.
    stops_at (λ x. (x.0, x.1.now)) c.from_residual-in_err-s-in_default.result c.in_err-s-in_default.field-0.0 (args_at most c.args.code c.args.bytes.now) c.from_residual-in_err-s-in_default.ensures.1
    (arg_fails most c.args.code 8 part_at (λ x. StorePart x.0 x.1.first x.1.width x.1.kind) c.args.bytes.now c.in_err-s-in_default.field-0.0 k refl c.in_err-s-in_default.ensures)

pub returns-in_ok-s-in_default : goal.returns-in_ok-s-in_default
unfolding args_at
returns-in_ok-s-in_default c = let k : c.args.code ≡ 8 = omega arith in λ most.
    arg_made most c.args.code 8 part_at (λ x. StorePart x.0 x.1.first x.1.width x.1.kind) c.args.bytes.now (c.in_ok-s-in_default.s, c.in_ok-s-in_default.f) c.in_ok-s-in_default.rest.now k refl c.in_ok-s-in_default.ensures
