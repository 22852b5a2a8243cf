use Rattle.std.proofs.Common.{List, ℕ, ◌≡◌, ◌++◌}
use Rattle.code_file.specs.Numbers.{be}
use Rattle.code_file.proofs.written_numbers.push_number.Given as goal

abbrev pub invariant-loop-place : goal.invariant-loop-place
invariant-loop-place l = record {
  done : l.out.items ++ be l.place l.n ≡ l.initial.out.items ++ be l.width l.n;
  kept : (more : List ℕ) × (l.out.items ≡ l.initial.out.items ++ more);
}
