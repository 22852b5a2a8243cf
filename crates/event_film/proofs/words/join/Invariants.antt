use Rattle.std.proofs.Common.{◌≡◌, ◌++◌, drop, length, take}
use Rattle.event_film.specs.Packed.{joined}
use Rattle.event_film.proofs.words.join.Given as goal

abbrev pub invariant-loop-n : goal.invariant-loop-n
invariant-loop-n l = record {
  long : length l.atoms ≡ 41;
  joined_are : take l.n l.atoms ++ joined (drop l.n l.lows) (drop l.n l.highs) ≡ joined l.lows l.highs;
}
