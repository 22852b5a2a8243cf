use Rattle.std.proofs.Common.{◌++◌, ◌∙◌, ap}
use Rattle.feast_base.proofs.Appending.{Appends-at_exit}
use Rattle.code_file.specs.Form.{slot_bytes}
use Rattle.code_file.specs.Numbers.{be}
use Rattle.code_file.proofs.Loops.{bytes_more}
use Rattle.code_file.proofs.writing.push_each_slot.Goals as goal

pub returns-in_err-push_byte : goal.returns-in_err-push_byte
returns-in_err-push_byte c =
    Appends-at_exit _ c.args.out.now.items c.loop-slot.out.items _ _ c.from_residual.result c.from_residual.ensures.1 (_, c.loop-slot.invariant) c.in_err-push_byte.ensures

pub loop-slot-preserved : goal.loop-slot-preserved
loop-slot-preserved c = bytes_more slot_bytes c.loop-slot.slot-index c.args.slots.now c.args.out.now.items
    c.loop-slot.out.items c.push_byte.new.out.items _ c.loop-slot-test.true
    (c.in_ok-push_byte.ensures ∙ ap (λ n. c.loop-slot.out.items ++ be 1 n) c.operand_code.ensures)
    c.loop-slot.invariant
