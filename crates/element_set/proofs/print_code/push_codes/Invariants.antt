use Rattle.std.proofs.Common.{ℕ, List, ◌≡◌, ◌++◌, drop, length}
use Rattle.element_set.specs.CodeText.{codes_text}
use Rattle.element_set.proofs.print_code.push_codes.Given as goal

abbrev pub invariant-loop-name : goal.invariant-loop-name
invariant-loop-name l = record {
  done : l.out.items ++ codes_text (drop (length l.yielded) l.names) (drop (length l.yielded) l.codes) ≡ l.initial.out.items ++ codes_text l.names l.codes;
  kept : (more : List ℕ) × (l.out.items ≡ l.initial.out.items ++ more);
}
