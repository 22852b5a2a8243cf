use Rattle.std.proofs.Common.{◌≡◌, ◌-◌}
use Rattle.std.specs.Vec.{vec_capacity}
use Rattle.event_film.specs.Packed.{high_words}
use Rattle.event_film.proofs.Packs.{ArePushed}
use Rattle.event_film.proofs.words.push_highs.Given as goal

abbrev pub invariant-loop-n : goal.invariant-loop-n
invariant-loop-n l = record {
  pushed : ArePushed (high_words l.window) l.fn.highs.items l.sites l.highs.items;
  capacity : vec_capacity l.highs ≡ vec_capacity l.fn.highs;
}

abbrev pub decreases-loop-n : goal.decreases-loop-n
decreases-loop-n l = 41 - l.sites.at
