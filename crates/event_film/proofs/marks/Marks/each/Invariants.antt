use Rattle.event_film.proofs.Marking.{AreMarksTo}
use Rattle.event_film.proofs.marks.Marks.each.Given as goal

abbrev pub invariant-loop-n : goal.invariant-loop-n
invariant-loop-n l = AreMarksTo l.self l.n l.sites l.left
