use Rattle.std.proofs.Common.{List, ℕ, ◌≡◌, ◌++◌, length}
use Rattle.std.specs.Io.KnownBytes.{Appends as AppendsKnown}
use Rattle.feast_base.proofs.std_sink.write_whole.Given as goal

abbrev pub invariant-loop-rest : goal.invariant-loop-rest
invariant-loop-rest g l = (front : List ℕ) × (l.bytes ≡ front ++ l.rest) × AppendsKnown (g.W.Write.contents l.initial.to) (g.W.Write.contents l.to) front

abbrev pub decreases-loop-rest : goal.decreases-loop-rest
decreases-loop-rest g l = length l.rest
