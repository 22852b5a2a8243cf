use Rattle.std.proofs.Common.{map}
use Rattle.event_film.specs.Marks.{is_nonzero}
use Rattle.event_film.specs.Packed.{high_words, low_words}
use Rattle.event_film.proofs.Bits.{AreBitsFrom}
use Rattle.event_film.proofs.frame.Frame.of.Given as goal

abbrev pub invariant-loop-n : goal.invariant-loop-n
invariant-loop-n l = record {
  lows : AreBitsFrom (map is_nonzero (low_words l.window)) l.n l.lows;
  highs : AreBitsFrom (map is_nonzero (high_words l.window)) l.n l.highs;
  live : AreBitsFrom l.window.live l.n l.live;
}
