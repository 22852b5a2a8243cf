use Rattle.std.proofs.Common.{rules, arith, refl, ◌≡◌, ◌∙◌, option_map}
use Rattle.std.proofs.lemmas.Result.{IfOk-weaker}
use Rattle.std.proofs.lemmas.Grind.{common_steps}
use Rattle.std.specs.Box.{box_value}
use Rattle.ulam_tree.specs.TypedViews.{typed_expr, typed_statement, typed_part}
use Rattle.code_gen.specs.Pieces.{seq}
use Rattle.code_gen.specs.Clipped.{clip}
use Rattle.code_gen.specs.Scheme.{optional_piece, loop_piece, statement_piece, part_piece}
use Rattle.code_gen.specs.Seen.{scene_of}
use Rattle.code_gen.specs.Views.{piece_of}
use Rattle.code_gen.proofs.Blocks.{block_is, body_step, body_done}
use Rattle.code_gen.proofs.TypedCalls.{does_at}
use Rattle.code_gen.proofs.TypedStatements.{block_at, if_done, for_done}
use Rattle.code_gen.proofs.Making.{made_is}
use Rattle.code_gen.proofs.statement.+statement.Goals as goal

pub statement-returns-in-Block : goal.statement-returns-in-Block
statement-returns-in-Block t c =
    let e = block_at (scene_of c.args.scene.now) c.args.one.now c.in-Block.list c.in-Block.is in
    rw e (first_of (search rules, grind (arith, common_steps)))

pub statement-returns-in_ok-choice-in-If : goal.statement-returns-in_ok-choice-in-If
statement-returns-in_ok-choice-in-If t c =
    let z = scene_of c.args.scene.now in
    let s = c.args.one.now in
    let b = c.in-If in
    let a = piece_of c.in_ok-asked-in-If.asked in
    let d = piece_of c.in_ok-yes-in-If.yes in
    let r = piece_of c.in_ok-choice-in-If.choice in
    IfOk-weaker c.seq.result (λ q. piece_of q ≡ seq a r) (λ q. piece_of q ≡ clip (statement_piece z (typed_statement s)))
    (λ q e. if_done z s b.cond b.yes b.no c.deref.result.now (piece_of q) a r d b.is c.deref.ensures c.in_ok-asked-in-If.ensures c.in_ok-yes-in-If.ensures c.in_ok-choice-in-If.ensures e) c.seq.ensures

pub statement-returns-in_ok-rounds-in-For : goal.statement-returns-in_ok-rounds-in-For
statement-returns-in_ok-rounds-in-For t c =
    let z = scene_of c.args.scene.now in
    let s = c.args.one.now in
    let b = c.in-For in
    let w = c.deref-in-For.result.now in
    let f = piece_of c.in_ok-first-in-For.first in
    let r = piece_of c.in_ok-rounds-in-For.rounds in
    let around : r ≡ clip (loop_piece (optional_piece z (option_map typed_expr b.cond)) (statement_piece z (typed_statement w)) (part_piece z (typed_part b.step))) =
    c.in_ok-rounds-in-For.ensures (statement_piece z (typed_statement w)) (part_piece z (typed_part b.step)) c.in_ok-body-in-For.ensures c.in_ok-step-in-For.ensures in
    IfOk-weaker c.seq-in-For.result (λ q. piece_of q ≡ seq f r) (λ q. piece_of q ≡ clip (statement_piece z (typed_statement s)))
    (λ q e. for_done z s b.first b.cond b.step b.body w (piece_of q) f r b.is c.deref-in-For.ensures c.in_ok-first-in-For.ensures around e) c.seq-in-For.ensures

pub statement-returns-in-Call : goal.statement-returns-in-Call
statement-returns-in-Call t c =
    let e = does_at (scene_of c.args.scene.now) c.args.one.now c.in-Call.call c.in-Call.is in
    rw e (first_of (search rules, grind (arith, common_steps)))

pub body-loop-one-preserved : goal.body-loop-one-preserved
body-loop-one-preserved t c =
    body_step (scene_of c.args.scene.now) c.args.list.now c.loop-one.one-index c.one-item.result c.in_ok-piece.piece c.loop-one.pieces.items c.keep.new.pieces.items _
    c.loop-one-test.true c.one-item.is c.in_ok-keep.ensures c.in_ok-piece.ensures c.loop-one.invariant

pub body-returns : goal.body-returns
body-returns t c =
    block_is c.loop-one.pieces ∙ body_done (scene_of c.args.scene.now) c.args.list.now c.loop-one.one-index c.loop-one.pieces.items _ c.loop-one-test.false c.loop-one.invariant

pub statement-returns-in_ok-body-in-While : goal.statement-returns-in_ok-body-in-While
statement-returns-in_ok-body-in-While t c =
    let d : c.deref-in-While.result.now ≡ box_value c.in-While.body = search rules in
    made_is _ _ _ (rw (c.in-While.is, c.in_ok-test-in-While.ensures, c.in_ok-body-in-While.ensures, d) refl) c.test_loop.ensures
