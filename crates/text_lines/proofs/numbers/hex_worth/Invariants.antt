use Rattle.std.proofs.Common.{◌≡◌, ◌+◌, ◌*◌, ◌^◌, ◌<◌, drop, fold, ℕ}
use Rattle.std.specs.List.{list_all}
use Rattle.text_lines.specs.Fields.{hex_worth, is_nibble, nibble}
use Rattle.text_lines.proofs.numbers.hex_worth.Given as goal

abbrev pub invariant-loop-byte : goal.invariant-loop-byte
invariant-loop-byte l = record {
  all : list_all is_nibble (drop l.byte-index l.bytes) ≡ list_all is_nibble l.bytes;
  rest : fold (λ (v d : ℕ). v * 16 + nibble d) l.value (drop l.byte-index l.bytes) ≡ hex_worth l.bytes;
  small : l.value < 16 ^ l.byte-index;
}
