use Rattle.std.proofs.Common.{◌≡◌, refl}
use Rattle.stack_code.specs.declared.instr.Instr.TheVariants.{PushAtom, LoadLocal}
use Rattle.code_file.specs.Reading.{args_at, any_byte, type_at}
use Rattle.code_file.proofs.Arguments.{arg_made, arg_fails}
use Rattle.code_file.proofs.Loops.{stops_at}
use Rattle.code_file.proofs.instrs.operands.Goals as goal

pub returns-in_err-s-in-2 : goal.returns-in_err-s-in-2
unfolding args_at
returns-in_err-s-in-2 c = let k : c.args.code ≡ 2 = c.in-2.is in
    stops_at (λ x. (x.0, x.1.now)) c.from_residual-in_err-s-in-2.result c.in_err-s-in-2.field-0.0 (args_at c.args.most c.args.code c.args.bytes.now) c.from_residual-in_err-s-in-2.ensures.1
    (arg_fails c.args.most c.args.code 2 any_byte LoadLocal c.args.bytes.now c.in_err-s-in-2.field-0.0 k refl c.in_err-s-in-2.ensures)

pub returns-in_ok-s-in-2 : goal.returns-in_ok-s-in-2
unfolding args_at
returns-in_ok-s-in-2 c = let k : c.args.code ≡ 2 = c.in-2.is in
    arg_made c.args.most c.args.code 2 any_byte LoadLocal c.args.bytes.now c.in_ok-s-in-2.s c.in_ok-s-in-2.rest.now k refl c.in_ok-s-in-2.ensures

pub returns-in_err-k-in-1 : goal.returns-in_err-k-in-1
unfolding args_at
returns-in_err-k-in-1 c = let k : c.args.code ≡ 1 = c.in-1.is in
    stops_at (λ x. (x.0, x.1.now)) c.from_residual-in_err-k-in-1.result c.in_err-k-in-1.field-0.0 (args_at c.args.most c.args.code c.args.bytes.now) c.from_residual-in_err-k-in-1.ensures.1
    (arg_fails c.args.most c.args.code 1 (type_at c.args.most) PushAtom c.args.bytes.now c.in_err-k-in-1.field-0.0 k refl c.in_err-k-in-1.ensures)

pub returns-in_ok-k-in-1 : goal.returns-in_ok-k-in-1
unfolding args_at
returns-in_ok-k-in-1 c = let k : c.args.code ≡ 1 = c.in-1.is in
    arg_made c.args.most c.args.code 1 (type_at c.args.most) PushAtom c.args.bytes.now c.in_ok-k-in-1.k c.in_ok-k-in-1.rest.now k refl c.in_ok-k-in-1.ensures
