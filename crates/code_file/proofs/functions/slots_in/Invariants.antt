use Rattle.std.proofs.Common.{◌≡◌, ◌-◌}
use Rattle.code_file.specs.Reading.{gather, times, slot_at}
use Rattle.code_file.proofs.functions.slots_in.Given as goal

abbrev pub invariant-loop : goal.invariant-loop
invariant-loop l = gather (λ done left. slot_at) (l.count - l.counter) l.slots.items l.rest ≡ times (slot_at) l.count l.bytes
