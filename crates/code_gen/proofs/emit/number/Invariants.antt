use Rattle.std.proofs.Common.{◌≡◌, ◌+◌, map, drop}
use Rattle.code_gen.specs.Pieces.{key_number}
use Rattle.code_gen.specs.Views.{key_of}
use Rattle.code_gen.proofs.emit.number.Given as goal

abbrev pub invariant-loop-k : goal.invariant-loop-k
invariant-loop-k l = record {
  rest : l.n + key_number (map key_of (drop l.k-index l.keys)) (key_of l.key) ≡ key_number (map key_of l.fn.keys) (key_of l.fn.key);
  place : l.n ≡ l.k-index;
}
