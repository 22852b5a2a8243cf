use Rattle.std.proofs.Common.{◌≡◌, drop}
use Rattle.ulam_tree.specs.TypedViews.{typed_body}
use Rattle.code_gen.specs.Clipped.{clip}
use Rattle.code_gen.specs.Scheme.{body_piece}
use Rattle.code_gen.specs.Seen.{scene_of}
use Rattle.code_gen.proofs.Blocks.{pieces_then}
use Rattle.code_gen.proofs.statement.+statement.Given as goal

abbrev pub invariant-body-loop-one : goal.invariant-body-loop-one
invariant-body-loop-one l = pieces_then l.pieces.items (clip (body_piece (scene_of l.scene) (typed_body (drop l.one-index l.list)))) ≡ clip (body_piece (scene_of l.scene) (typed_body l.list))
