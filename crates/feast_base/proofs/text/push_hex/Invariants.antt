use Rattle.std.proofs.Common.{List, ℕ, ◌≡◌, ◌++◌}
use Rattle.feast_base.specs.Digits.{hex}
use Rattle.feast_base.proofs.text.push_hex.Given as goal

abbrev pub invariant-loop-k : goal.invariant-loop-k
invariant-loop-k l = record {
  done : l.out.items ++ hex l.k l.n ≡ l.initial.out.items ++ hex l.count l.n;
  kept : (more : List ℕ) × (l.out.items ≡ l.initial.out.items ++ more);
}
