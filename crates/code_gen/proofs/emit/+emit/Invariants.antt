use Rattle.std.proofs.Common.{◌≡◌, ◌+◌, ◌++◌, map, length, drop}
use Rattle.code_gen.specs.Pieces.{size, lay}
use Rattle.code_gen.specs.Views.{pieces_of, key_of}
use Rattle.code_gen.proofs.emit.+emit.Given as goal

abbrev pub invariant-emit_all-loop-piece : goal.invariant-emit_all-loop-piece
invariant-emit_all-loop-piece l = record {
  laid : l.code.items ++ lay (map key_of l.keys) (length l.code.items) l.out l.next (pieces_of (drop l.piece-index l.list)) ≡ l.initial.code.items ++ lay (map key_of l.keys) (length l.initial.code.items) l.out l.next (pieces_of l.list);
  long : length l.code.items + size (pieces_of (drop l.piece-index l.list)) ≡ length l.initial.code.items + size (pieces_of l.list);
}
