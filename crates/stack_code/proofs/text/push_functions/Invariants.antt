use Rattle.std.proofs.Common.{List, ℕ, ◌≡◌, ◌++◌, drop}
use Rattle.stack_code.specs.Text.{function_texts}
use Rattle.stack_code.proofs.text.push_functions.Given as goal

abbrev pub invariant-loop-k : goal.invariant-loop-k
invariant-loop-k l = record {
  done : l.out.items ++ function_texts l.code l.k (drop l.k l.code.functions) ≡ l.initial.out.items ++ function_texts l.code 0 l.code.functions;
  kept : (more : List ℕ) × (l.out.items ≡ l.initial.out.items ++ more);
}
