use Rattle.code_gen.specs.Compiling.{program_view}
use Rattle.code_gen.proofs.ElementRounds.{Done}
use Rattle.code_gen.proofs.elements.compile.Given as goal

abbrev pub invariant-loop-c : goal.invariant-loop-c
invariant-loop-c l = Done (program_view l.typed l.layout) l.c l.kind l.codes.items
