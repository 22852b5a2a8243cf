use Rattle.std.proofs.Common.{◌≡◌, ◌+◌, ◌-◌, [], length, take}
use Rattle.event_film.specs.Marks.{marked}
use Rattle.event_film.specs.Packed.{high_words}
use Rattle.event_film.proofs.Packs.{ArePushed}
use Rattle.event_film.proofs.words.are_highs.Given as goal

abbrev pub invariant-loop-n : goal.invariant-loop-n
invariant-loop-n l = record {
  read : ArePushed (high_words l.window) [] l.sites (take l.at l.highs);
  left : l.at + marked l.sites.marks ≡ length l.highs;
}

abbrev pub decreases-loop-n : goal.decreases-loop-n
decreases-loop-n l = 41 - l.sites.at
