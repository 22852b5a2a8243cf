use Rattle.std.proofs.Common.{map}
use Rattle.code_gen.specs.Views.{piece_of, key_of}
use Rattle.code_gen.proofs.Rounds.{Round}
use Rattle.code_gen.proofs.gather.gather.Given as goal

abbrev pub invariant-loop-k : goal.invariant-loop-k
invariant-loop-k g l = record {
  round : Round (g.S.Source.drafts l.source) (key_of l.fn.main) l.k l.sum (map key_of l.found.keys.items) (map piece_of l.found.bodies.items);
}
