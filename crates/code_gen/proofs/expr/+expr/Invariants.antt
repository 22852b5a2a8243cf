use Rattle.std.proofs.Common.{◌≡◌, drop}
use Rattle.ulam_tree.specs.TypedViews.{typed_args}
use Rattle.code_gen.specs.Clipped.{clip}
use Rattle.code_gen.specs.Scheme.{args_piece}
use Rattle.code_gen.specs.Seen.{scene_of}
use Rattle.code_gen.specs.Views.{piece_of}
use Rattle.code_gen.proofs.expr.+expr.Given as goal

abbrev pub invariant-args-loop-i : goal.invariant-args-loop-i
invariant-args-loop-i l = piece_of l.piece ≡ clip (args_piece (scene_of l.scene) (typed_args (drop l.i l.list)) (drop l.i l.casts))
