use Rattle.std.proofs.Common.{◌≡◌, ◌++◌, take}
use Rattle.std.specs.List.{flat_map}
use Rattle.code_file.specs.Form.{slot_bytes}
use Rattle.code_file.proofs.writing.push_each_slot.Given as goal

abbrev pub invariant-loop-slot : goal.invariant-loop-slot
invariant-loop-slot l = l.out.items ≡ l.initial.out.items ++ flat_map slot_bytes (take l.slot-index l.slots)
