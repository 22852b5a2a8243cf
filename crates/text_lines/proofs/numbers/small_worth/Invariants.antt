use Rattle.std.proofs.Common.{◌≡◌, ◌-◌, ◌+◌, ◌*◌, ◌^◌, ◌<◌, drop, fold, ℕ}
use Rattle.std.specs.List.{list_all}
use Rattle.text_lines.specs.Fields.{is_digit, worth}
use Rattle.text_lines.proofs.numbers.small_worth.Given as goal

abbrev pub invariant-loop-byte : goal.invariant-loop-byte
invariant-loop-byte l = record {
  all : list_all is_digit (drop l.byte-index l.bytes) ≡ list_all is_digit l.bytes;
  rest : fold (λ (v d : ℕ). v * 10 + (d - 48)) l.value (drop l.byte-index l.bytes) ≡ worth l.bytes;
  small : l.value < 10 ^ l.byte-index;
}
