use Rattle.std.proofs.Common.{◌≡◌, ◌∙◌}
use Rattle.std.proofs.lemmas.Result.{IfOk-weaker}
use Rattle.ulam_tree.specs.TypedViews.{typed_args}
use Rattle.ulam_meaning.specs.Paths.{callee}
use Rattle.stack_code.specs.declared.instr.Instr.TheVariants.{Pop}
use Rattle.code_gen.specs.Pieces.{none, seq, plain}
use Rattle.code_gen.specs.Clipped.{clip}
use Rattle.code_gen.specs.Scheme.{call_piece, if_nothing, args_piece}
use Rattle.code_gen.specs.Seen.{scene_of, callee_of}
use Rattle.code_gen.specs.Views.{piece_of}
use Rattle.code_gen.proofs.Clips.{call_done}
use Rattle.code_gen.proofs.parts.does.Goals as goal

pub returns : goal.returns
returns c =
    let z = scene_of c.args.scene.now in
    let target = callee z.program z.base c.args.path.now.steps.items in
    let d = callee_of c.callee-target.result in
    let arguments = args_piece z (typed_args c.args.list.now) in
    let p = piece_of c.in_ok-made.made in
    let q = piece_of c.if_nothing-end.result in
    IfOk-weaker c.seq.result (λ r. piece_of r ≡ seq p q) (λ r. piece_of r ≡ clip (seq (call_piece z.program target arguments) (if_nothing z.program target none (plain Pop))))
    (λ r e. e ∙ call_done z.program target d arguments none (plain Pop) p q c.callee-target.ensures c.in_ok-made.ensures c.if_nothing-end.ensures) c.seq.ensures
