use Rattle.std.proofs.Common.{◌≡◌, ◌-◌}
use Rattle.code_file.specs.Reading.{gather, times, instr_at}
use Rattle.code_file.proofs.instrs.instrs_in.Given as goal

abbrev pub invariant-loop : goal.invariant-loop
invariant-loop l = gather (λ done left. instr_at l.most) (l.count - l.counter) l.instrs.items l.rest ≡ times (instr_at l.most) l.count l.bytes
