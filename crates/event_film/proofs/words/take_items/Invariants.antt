use Rattle.std.proofs.Common.{◌-◌, drop}
use Rattle.event_film.proofs.Packs.{AreTaken}
use Rattle.event_film.proofs.words.take_items.Given as goal

abbrev pub invariant-loop-n : goal.invariant-loop-n
invariant-loop-n g l = AreTaken l.fn.blank l.marks (drop l.start l.items.items) l.sites l.row (drop l.at l.items.items)

abbrev pub decreases-loop-n : goal.decreases-loop-n
decreases-loop-n g l = 41 - l.sites.at
