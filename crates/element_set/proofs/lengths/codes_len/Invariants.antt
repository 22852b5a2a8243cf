use Rattle.std.proofs.Common.{◌≡◌, ◌+◌, ◌-◌, ◌^◌, ◌<◌, drop, length, min}
use Rattle.element_set.specs.CodeText.{codes_text}
use Rattle.element_set.proofs.lengths.codes_len.Given as goal

abbrev pub invariant-loop-name : goal.invariant-loop-name
invariant-loop-name l = record {
  left : min (l.len + length (codes_text (drop (length l.yielded) l.names) (drop (length l.yielded) l.codes))) (2 ^ 64 - 1) ≡ min (length (codes_text l.names l.codes)) (2 ^ 64 - 1);
  fits : l.len < 2 ^ 64;
}
