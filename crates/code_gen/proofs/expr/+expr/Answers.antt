use Rattle.std.proofs.Common.{rules, ◌-◌, arith, refl, sym, ◌≡◌, ◌∙◌, ap, drop}
use Rattle.std.proofs.lemmas.Grind.{common_steps}
use Rattle.std.proofs.lemmas.Result.{IfOk-weaker}
use Rattle.ulam_tree.specs.TypedViews.{typed_args}
use Rattle.ulam_meaning.specs.Programs.{Function}
use Rattle.ulam_meaning.specs.Paths.{callee}
use Rattle.ulam_meaning.specs.Expressions as meaning
use Rattle.code_gen.specs.Pieces.{Piece, none, seq, asks}
use Rattle.code_gen.specs.Clipped.{clip, clip_instr}
use Rattle.code_gen.specs.Scheme.{nowhere, call_piece, if_nothing, args_piece}
use Rattle.code_gen.specs.Seen.{scene_of, callee_of}
use Rattle.code_gen.specs.Views.{piece_of, key_of}
use Rattle.code_gen.proofs.Clips.{call_done, pair_by}
use Rattle.std.specs.Box.{box_value}
use Rattle.code_gen.proofs.Making.{made_is}
use Rattle.code_gen.proofs.TypedCalls.{call_at, args_first, args_next}
use Rattle.code_gen.proofs.expr.+expr.Goals as goal

pub args-loop-i-init : goal.args-loop-i-init
args-loop-i-init t c = args_first (scene_of c.args.scene.now) c.args.list.now c.args.casts.now c.min-both.result (piece_of c.args_end-piece.result) c.min-both.ensures c.args_end-piece.ensures

pub args-returns : goal.args-returns
args-returns t c =
    let first : c.loop-i.i ≡ 0 = omega arith in
    c.loop-i.invariant ∙ ap (λ i. clip (args_piece (scene_of c.args.scene.now) (typed_args (drop i c.args.list.now)) (drop i c.args.casts.now))) first

pub expr-returns-in-Call : goal.expr-returns-in-Call
expr-returns-in-Call t c =
    let e = call_at (scene_of c.args.scene.now) c.args.e.now c.in-Call.made c.in-Call.is in
    rw e (first_of (search rules, grind (arith, common_steps)))

pub value_call-returns : goal.value_call-returns
value_call-returns t c =
    let z = scene_of c.args.scene.now in
    let target = callee z.program z.base c.args.path.now.steps.items in
    let d = callee_of c.callee-target.result in
    let arguments = args_piece z (typed_args c.args.list.now) in
    let p = piece_of c.in_ok-made.made in
    let q = piece_of c.if_nothing-end.result in
    let end : q ≡ if_nothing z.program d (clip nowhere) (clip none) = c.if_nothing-end.ensures ∙ ap (λ (x : Piece). if_nothing z.program d x none) c.nowhere.ensures in
    IfOk-weaker c.seq.result (λ r. piece_of r ≡ seq p q) (λ r. piece_of r ≡ clip (seq (call_piece z.program target arguments) (if_nothing z.program target nowhere none)))
    (λ r e. e ∙ call_done z.program target d arguments nowhere none p q c.callee-target.ensures c.in_ok-made.ensures end) c.seq.ensures

pub expr-returns-in-Path : goal.expr-returns-in-Path
expr-returns-in-Path t c = rw (c.in-Path.is, c.load.ensures) refl

pub expr-returns-in_ok-index-in-Index : goal.expr-returns-in_ok-index-in-Index
expr-returns-in_ok-index-in-Index t c =
    let d : c.deref.result.now ≡ box_value c.in-Index.at = search rules in
    made_is _ _ _ (rw (c.in-Index.is, c.in_ok-index-in-Index.ensures, d, c.load_at.ensures) refl) c.seq.ensures

pub expr-returns-in_ok-value-in-Cast : goal.expr-returns-in_ok-value-in-Cast
expr-returns-in_ok-value-in-Cast t c =
    let d : c.deref-in-Cast.result.now ≡ box_value c.in-Cast.value = search rules in
    made_is _ _ _ (rw (c.in-Cast.is, c.in_ok-value-in-Cast.ensures, d, c.fit.ensures, c.number_type.ensures) refl) c.seq-in-Cast.ensures

pub expr-returns-in_ok-value-in-Is : goal.expr-returns-in_ok-value-in-Is
expr-returns-in_ok-value-in-Is t c =
    let d : c.deref-in-Is.result.now ≡ box_value c.in-Is.value = search rules in
    made_is _ _ _ (rw (c.in-Is.is, c.in_ok-value-in-Is.ensures, d, c.type_number-kind-in-Is.ensures) refl) c.then_instr-in-Is.ensures

pub expr-returns-in_ok-right-in-Pair : goal.expr-returns-in_ok-right-in-Pair
expr-returns-in_ok-right-in-Pair t c =
    let d : c.deref-in-Pair.result.now ≡ box_value c.in-Pair.left = search rules in
    let b : c.deref-in-Pair-2.result.now ≡ box_value c.in-Pair.right = search rules in
    made_is _ _ _ (rw (c.in-Pair.is, c.in_ok-left-in-Pair.ensures, c.in_ok-right-in-Pair.ensures, d, b) (sym (pair_by (scene_of c.args.scene.now) _ _ _ _ _))) c.pair.ensures

pub args-loop-i-preserved : goal.args-loop-i-preserved
args-loop-i-preserved t c =
    let i = c.loop-i.i in
    args_next (scene_of c.args.scene.now) c.args.list.now c.args.casts.now (i - 1) i c.index-list-i.result _ (piece_of c.in_ok-value.value) (piece_of c.fit.result) (piece_of c.loop-i.piece) (piece_of c.in_ok-piece.piece) (omega arith) (omega (arith, c.min-both.ensures)) (omega (arith, c.min-both.ensures)) c.index-list-i.is c.in_ok-value.ensures c.fit.ensures c.loop-i.invariant c.in_ok-piece.ensures

pub expr-returns-in_ok-value-in-Prefix : goal.expr-returns-in_ok-value-in-Prefix
expr-returns-in_ok-value-in-Prefix t c =
    let d : c.deref-in-Prefix.result.now ≡ box_value c.in-Prefix.value = search rules in
    let instr = sym (ap clip_instr c.prefix_instr.ensures.value) ∙ c.prefix_instr.ensures.whole in
    made_is _ _ _ (rw (c.in-Prefix.is, c.in_ok-value-in-Prefix.ensures, d, instr) refl) c.then_instr.ensures

pub call-returns-in_ok-list-in-Called : goal.call-returns-in_ok-list-in-Called
call-returns-in_ok-list-in-Called t c =
    let casts = c.as_slice.ensures.value ∙ c.in_ok-casts-in-Called.ensures ∙ ap (λ (f : Function). meaning.casts f.params) c.function-function.ensures in
    let list = c.in_ok-list-in-Called.ensures ∙ ap (λ l. clip (args_piece (scene_of c.args.scene.now) (typed_args c.args.list.now) l)) casts in
    made_is _ _ _ (rw c.in-Called.is (ap (λ p. seq p (asks (key_of c.in-Called.key))) list)) c.seq.ensures
