use Rattle.std.proofs.Common.{◌∙◌, sym, ap, refl, ◌-◌, arith}
use Rattle.stack_code.specs.Valid.{is_turn}
use Rattle.stack_code.proofs.Arguments.{before_first, before_other, get_some}
use Rattle.stack_code.proofs.exits.after_turn.Goals as goal

pub returns-then-p-eq0 : goal.returns-then-p-eq0
returns-then-p-eq0 c = rw (before_first c.args.instrs.now c.args.p c.if-p-eq0.true) refl

pub returns-in-Some : goal.returns-in-Some
returns-in-Some c =
    let a = c.in-Some.ensures.lookup in
    let read = get_some c.args.instrs.now c.args.instrs.now (c.args.p - 1) c.in-Some.instr.now refl a.3.0 a.3.1 in
    c.is_turn.ensures ∙ sym (ap is_turn (before_other c.args.instrs.now c.args.p (omega arith) ∙ read))
