use Rattle.std.proofs.Common.{◌≡◌, ◌≤◌, ◌+◌, drop}
use Rattle.std.specs.Prelude.{min}
use Rattle.code_gen.specs.Pieces.{size}
use Rattle.code_gen.specs.Views.{pieces_of}
use Rattle.code_gen.proofs.size.+size.Given as goal

abbrev pub invariant-size_of_all-loop-piece : goal.invariant-size_of_all-loop-piece
invariant-size_of_all-loop-piece l = record {
  sums : min (l.sum + size (pieces_of (drop l.piece-index l.list))) 65537 ≡ min (size (pieces_of l.list)) 65537;
  few : l.sum ≤ 65537;
}
