use Rattle.code_gen.specs.Views.{key_of}
use Rattle.code_gen.proofs.LayRounds.{Lays}
use Rattle.code_gen.proofs.element.lay_out.Given as goal

abbrev pub invariant-loop-k : goal.invariant-loop-k
invariant-loop-k g l = record {
  lays : Lays (g.S.Source.drafts l.source) (key_of l.fn.main) l.k l.code.items l.functions.items;
}
