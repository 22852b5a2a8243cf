use Rattle.std.proofs.Common.{◌≡◌, ◌+◌, ◌-◌, ◌<◌, ◌^◌, length, drop}
use Rattle.std.specs.Prelude.{fold}
use Rattle.ulam_lex.specs.Steps.{next_place}
use Rattle.ulam_lex.proofs.lexer.place_after.Given as goal

abbrev pub invariant-loop-byte : goal.invariant-loop-byte
invariant-loop-byte l = record {
  rest : fold next_place l.end (drop l.byte-index l.bytes) ≡ fold next_place l.fn.place l.bytes;
  line : l.end.line + (length l.bytes - l.byte-index) < 2 ^ 32;
  column : l.end.column + (length l.bytes - l.byte-index) < 2 ^ 32;
}
