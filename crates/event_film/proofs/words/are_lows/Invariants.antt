use Rattle.std.proofs.Common.{◌≡◌, ◌+◌, ◌-◌, [], length, take}
use Rattle.event_film.specs.Marks.{marked}
use Rattle.event_film.specs.Packed.{low_words}
use Rattle.event_film.proofs.Packs.{ArePushed}
use Rattle.event_film.proofs.words.are_lows.Given as goal

abbrev pub invariant-loop-n : goal.invariant-loop-n
invariant-loop-n l = record {
  read : ArePushed (low_words l.window) [] l.sites (take l.at l.lows);
  left : l.at + marked l.sites.marks ≡ length l.lows;
}

abbrev pub decreases-loop-n : goal.decreases-loop-n
decreases-loop-n l = 41 - l.sites.at
