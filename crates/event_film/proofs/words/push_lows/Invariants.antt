use Rattle.std.proofs.Common.{◌≡◌, ◌-◌}
use Rattle.std.specs.Vec.{vec_capacity}
use Rattle.event_film.specs.Packed.{low_words}
use Rattle.event_film.proofs.Packs.{ArePushed}
use Rattle.event_film.proofs.words.push_lows.Given as goal

abbrev pub invariant-loop-n : goal.invariant-loop-n
invariant-loop-n l = record {
  pushed : ArePushed (low_words l.window) l.fn.lows.items l.sites l.lows.items;
  capacity : vec_capacity l.lows ≡ vec_capacity l.fn.lows;
}

abbrev pub decreases-loop-n : goal.decreases-loop-n
decreases-loop-n l = 41 - l.sites.at
