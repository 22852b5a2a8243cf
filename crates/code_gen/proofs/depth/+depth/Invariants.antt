use Rattle.std.proofs.Common.{◌≡◌, ◌≤◌, drop}
use Rattle.code_gen.specs.Depths.{depth}
use Rattle.code_gen.specs.Views.{pieces_of}
use Rattle.code_gen.proofs.depth.+depth.Given as goal

abbrev pub invariant-depth_of_all-loop-piece : goal.invariant-depth_of_all-loop-piece
invariant-depth_of_all-loop-piece g l = record {
  rest : depth (g.S.Source.drafts l.source) (pieces_of (drop l.piece-index l.list)) l.left ≡ depth (g.S.Source.drafts l.source) (pieces_of l.list) l.d;
  few : l.left ≤ 513;
}
