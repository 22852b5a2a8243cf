use Rattle.std.proofs.Common.{◌≡◌, ◌-◌, Some, ap, sym, ◌∙◌, rules, arith}
use Rattle.std.proofs.lemmas.Grind.{common_steps}
use Rattle.std.specs.Box.{box_value}
use Rattle.code_gen.specs.Depths.{depth, and_depth}
use Rattle.code_gen.specs.Views.{piece_of, pieces_of}
use Rattle.code_gen.proofs.Blocks.{block_at}
use Rattle.code_gen.proofs.DepthSteps.{pick_depth, loop_depth, ever_depth, next_depth}
use Rattle.code_gen.proofs.depth.+depth.Goals as goal

pub depth-returns-in-Block-clause-value : goal.depth-returns-in-Block-clause-value
depth-returns-in-Block-clause-value g t c =
    let drafts = g.S.Source.drafts c.args.source.now in
    let here : pieces_of c.as_slice.result.now ≡ piece_of c.args.piece.now = ap pieces_of c.as_slice.ensures.value ∙ sym (block_at c.args.piece.now c.in-Block.list c.in-Block.is) in
    c.depth_of_all.ensures.value ∙ ap (λ q. depth drafts q c.args.d) here

pub depth-returns-in_err-low_depth-in-Pick-clause-value :
    goal.depth-returns-in_err-low_depth-in-Pick-clause-value
depth-returns-in_err-low_depth-in-Pick-clause-value g t c =
    let drafts = g.S.Source.drafts c.args.source.now in
    let e = c.in_err-low_depth-in-Pick.ensures.none (depth drafts (piece_of c.in-Pick.b.value) (c.args.d - 1)) in
    first_of (search rules, grind (arith, common_steps))

pub depth-returns-in_err-low_depth-in-Loop-clause-value :
    goal.depth-returns-in_err-low_depth-in-Loop-clause-value
depth-returns-in_err-low_depth-in-Loop-clause-value g t c =
    let drafts = g.S.Source.drafts c.args.source.now in
    let last = and_depth (depth drafts (piece_of c.in-Loop.b.value) 0) (λ n. Some 0) in
    let rest = and_depth (depth drafts (piece_of c.in-Loop.a.value) 0) (λ m. last) in
    let e = c.in_err-low_depth-in-Loop.ensures.none rest in
    first_of (search rules, grind (arith, common_steps))

pub depth-returns-in_ok-low_depth-in-Pick-clause-value : goal.depth-returns-in_ok-low_depth-in-Pick-clause-value
depth-returns-in_ok-low_depth-in-Pick-clause-value g t c =
    let drafts = g.S.Source.drafts c.args.source.now in
    let a = piece_of (box_value c.in-Pick.a) in
    let b = piece_of (box_value c.in-Pick.b) in
    let below = c.in_ok-below-in-Pick.below in
    let low = c.in_ok-low_depth-in-Pick in
    let at-1 = ap (λ p. depth drafts (piece_of p) below) c.deref-in-Pick.ensures in
    let at-2 = ap (λ p. depth drafts (piece_of p) below) c.deref-in-Pick-2.ensures in
    pick_depth drafts a b c.args.d below low.field-0 c.depth-in-Pick.result c.in_ok-below-in-Pick.ensures.value (sym at-1 ∙ low.ensures.some) low.ensures.low (c.depth-in-Pick.ensures.value ∙ at-2)
    ∙ ap (λ q. depth drafts q c.args.d) (sym (ap piece_of c.in-Pick.is))

pub depth-returns-in_ok-depth-in-Loop-2-clause-value : goal.depth-returns-in_ok-depth-in-Loop-2-clause-value
depth-returns-in_ok-depth-in-Loop-2-clause-value g t c =
    let drafts = g.S.Source.drafts c.args.source.now in
    let q = piece_of (box_value c.in-Loop.t) in
    let a = piece_of (box_value c.in-Loop.a) in
    let b = piece_of (box_value c.in-Loop.b) in
    let low = c.in_ok-low_depth-in-Loop in
    let at-1 = ap (λ p. depth drafts (piece_of p) c.args.d) c.deref-in-Loop.ensures in
    let at-2 = ap (λ p. depth drafts (piece_of p) 0) c.deref-in-Loop-2.ensures in
    let at-3 = ap (λ p. depth drafts (piece_of p) 0) c.deref-in-Loop-3.ensures in
    loop_depth drafts q a b c.args.d low.field-0 c.in_ok-depth-in-Loop.field-0 c.in_ok-depth-in-Loop-2.field-0 (sym at-1 ∙ low.ensures.some) low.ensures.low (c.in_ok-depth-in-Loop.ensures.value ∙ at-2) (c.in_ok-depth-in-Loop-2.ensures.value ∙ at-3)
    ∙ ap (λ q. depth drafts q c.args.d) (sym (ap piece_of c.in-Loop.is))

pub depth-returns-in_ok-depth-in-Ever-2-clause-value : goal.depth-returns-in_ok-depth-in-Ever-2-clause-value
depth-returns-in_ok-depth-in-Ever-2-clause-value g t c =
    let drafts = g.S.Source.drafts c.args.source.now in
    let a = piece_of (box_value c.in-Ever.a) in
    let b = piece_of (box_value c.in-Ever.b) in
    let at-1 = ap (λ p. depth drafts (piece_of p) c.args.d) c.deref-in-Ever.ensures in
    let at-2 = ap (λ p. depth drafts (piece_of p) 0) c.deref-in-Ever-2.ensures in
    ever_depth drafts a b c.args.d c.in_ok-depth-in-Ever.field-0 c.in_ok-depth-in-Ever-2.field-0 (c.in_ok-depth-in-Ever.ensures.value ∙ at-1) (c.in_ok-depth-in-Ever-2.ensures.value ∙ at-2)
    ∙ ap (λ q. depth drafts q c.args.d) (sym (ap piece_of c.in-Ever.is))

pub depth_of_all-loop-piece-preserved : goal.depth_of_all-loop-piece-preserved
depth_of_all-loop-piece-preserved g t c =
    record {
      rest = next_depth (g.S.Source.drafts c.args.source.now) c.args.list.now c.loop-piece.piece-index c.piece-item.result c.loop-piece.left c.in_ok-left.left _ c.loop-piece-test.true c.piece-item.is c.in_ok-left.ensures.value c.loop-piece.invariant.rest;
      few = c.in_ok-left.ensures.bound;
    }
