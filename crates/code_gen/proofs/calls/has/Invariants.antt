use Rattle.std.proofs.Common.{◌≡◌, map, drop}
use Rattle.code_gen.specs.Pieces.{has_key}
use Rattle.code_gen.specs.Views.{key_of}
use Rattle.code_gen.proofs.calls.has.Given as goal

abbrev pub invariant-loop-k : goal.invariant-loop-k
invariant-loop-k l = record {
  rest : has_key (map key_of (drop l.k-index l.keys)) (key_of l.key) ≡ has_key (map key_of l.fn.keys) (key_of l.fn.key);
}
