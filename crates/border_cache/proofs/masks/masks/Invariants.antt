use Rattle.std.proofs.Common.{◌≡◌, length}
use Rattle.border_cache.specs.News.{nth_place, AreMasks}
use Rattle.border_cache.proofs.masks.masks.Given as goal

abbrev pub invariant-loop-n : goal.invariant-loop-n
invariant-loop-n l = record {
  masks : AreMasks (nth_place l.places) l.n l.masks;
  count : length l.masks ≡ 9;
}
