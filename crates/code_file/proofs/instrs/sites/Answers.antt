use Rattle.std.proofs.Common.{◌≡◌, refl, arith}
use Rattle.stack_code.specs.declared.instr.Instr.TheVariants.{IsKind}
use Rattle.code_file.specs.Reading.{args_at, type_at}
use Rattle.code_file.proofs.Arguments.{arg_made, arg_fails}
use Rattle.code_file.proofs.Loops.{stops_at}
use Rattle.code_file.proofs.instrs.sites.Goals as goal

pub returns-in_err-k-in_default : goal.returns-in_err-k-in_default
unfolding args_at
returns-in_err-k-in_default c = let k : c.args.code ≡ 17 = omega arith in λ most.
    stops_at (λ x. (x.0, x.1.now)) c.from_residual.result c.in_err-k-in_default.field-0.0 (args_at most c.args.code c.args.bytes.now) c.from_residual.ensures.1
    (arg_fails most c.args.code 17 (type_at 65535) IsKind c.args.bytes.now c.in_err-k-in_default.field-0.0 k refl c.in_err-k-in_default.ensures)

pub returns-in_ok-k-in_default : goal.returns-in_ok-k-in_default
unfolding args_at
returns-in_ok-k-in_default c = let k : c.args.code ≡ 17 = omega arith in λ most.
    arg_made most c.args.code 17 (type_at 65535) IsKind c.args.bytes.now c.in_ok-k-in_default.k c.in_ok-k-in_default.rest.now k refl c.in_ok-k-in_default.ensures
