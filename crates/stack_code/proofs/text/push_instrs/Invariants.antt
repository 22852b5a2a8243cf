use Rattle.std.proofs.Common.{List, ℕ, ◌≡◌, ◌+◌, ◌++◌, drop}
use Rattle.stack_code.specs.Text.{instr_lines}
use Rattle.stack_code.proofs.text.push_instrs.Given as goal

abbrev pub invariant-loop-i : goal.invariant-loop-i
invariant-loop-i l = record {
  done : l.out.items ++ instr_lines (l.first + l.i) (drop l.i l.instrs) ≡ l.initial.out.items ++ instr_lines l.first l.instrs;
  kept : (more : List ℕ) × (l.out.items ≡ l.initial.out.items ++ more);
}
