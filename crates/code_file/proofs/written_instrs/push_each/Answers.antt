use Rattle.feast_base.proofs.Appending.{Appends-at_exit}
use Rattle.code_file.specs.Instrs.{instr_bytes}
use Rattle.code_file.proofs.Loops.{bytes_more}
use Rattle.code_file.proofs.written_instrs.push_each.Goals as goal

pub returns-in_err-push_instr : goal.returns-in_err-push_instr
returns-in_err-push_instr c =
    Appends-at_exit _ c.args.out.now.items c.loop-instr.out.items _ _ c.from_residual.result c.from_residual.ensures.1 (_, c.loop-instr.invariant) c.in_err-push_instr.ensures

pub loop-instr-preserved : goal.loop-instr-preserved
loop-instr-preserved c = bytes_more instr_bytes c.loop-instr.instr-index c.args.instrs.now
    c.args.out.now.items c.loop-instr.out.items c.push_instr.new.out.items _ c.loop-instr-test.true
    c.in_ok-push_instr.ensures c.loop-instr.invariant
