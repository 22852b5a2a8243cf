use Rattle.std.proofs.Common.{rules, arith, ◌≡◌, ◌++◌}
use Rattle.std.specs.Box.{box_value}
use Rattle.std.proofs.lemmas.Grind.{common_steps}
use Rattle.ulam_tree.specs.Locals.{locals}
use Rattle.ulam_tree.specs.ResolvedViews.{resolved_statement}
use Rattle.ulam_types.proofs.Slots.{block_locals, for_locals, locals_step, locals_done, if_ok_more}
use Rattle.ulam_types.proofs.locals.+locals.Goals as goal

pub push_locals-returns-in-Block : goal.push_locals-returns-in-Block
push_locals-returns-in-Block t c =
    let e = block_locals c.args.raw.now c.in-Block.body c.in-Block.is in
    rw e (first_of (search rules, grind (arith, common_steps)))

pub push_locals-returns-in_ok-push_part-in-For-2 : goal.push_locals-returns-in_ok-push_part-in-For-2
push_locals-returns-in_ok-push_part-in-For-2 t c =
    let b = c.in-For in
    let d : c.deref-in-For.result.now ≡ box_value b.body = search rules in
    let old = c.args.out.now.items in
    let first = c.push_part-in-For.new.out.items in
    let second = c.push_part-in-For-2.new.out.items in
    let third = c.push_locals-in-For.new.out.items in
    if_ok_more c.push_locals-in-For.result (λ _. third ≡ second ++ locals (resolved_statement c.deref-in-For.result.now)) (λ _. third ≡ old ++ locals (resolved_statement c.args.raw.now)) c.push_locals-in-For.ensures (λ _ r.
    for_locals old first second third c.args.raw.now b.first b.cond b.step b.body c.deref-in-For.result.now b.is d c.in_ok-push_part-in-For.ensures c.in_ok-push_part-in-For-2.ensures r)

pub push_body-loop-one-preserved : goal.push_body-loop-one-preserved
push_body-loop-one-preserved t c =
    locals_step c.args.raw.now c.loop-one.one-index c.one-item.result c.loop-one.out.items _ _ c.loop-one-test.true c.one-item.is (first_of (search rules, grind (arith, common_steps))) c.loop-one.invariant

pub push_body-returns : goal.push_body-returns
push_body-returns t c = locals_done c.args.raw.now c.loop-one.one-index c.loop-one.out.items _ c.loop-one-test.false c.loop-one.invariant
