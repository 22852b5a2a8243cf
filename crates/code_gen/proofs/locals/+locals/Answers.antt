use Rattle.std.proofs.Common.{rules, arith, ◌≡◌, ◌++◌}
use Rattle.std.proofs.lemmas.Result.{on_ok_weaker}
use Rattle.std.proofs.lemmas.Grind.{common_steps}
use Rattle.ulam_tree.specs.Locals.{locals}
use Rattle.ulam_tree.specs.TypedViews.{typed_statement}
use Rattle.code_gen.proofs.TypedSlots.{block_locals, call_locals, for_locals, locals_step, locals_done}
use Rattle.code_gen.proofs.locals.+locals.Goals as goal

pub push_locals-returns-in-Block : goal.push_locals-returns-in-Block
push_locals-returns-in-Block t c =
    let e = block_locals c.args.one.now c.in-Block.body c.in-Block.is in
    rw e (first_of (search rules, grind (arith, common_steps)))

pub push_locals-returns-in-Call : goal.push_locals-returns-in-Call
push_locals-returns-in-Call t c =
    let e = call_locals c.args.one.now c.in-Call.call c.in-Call.is in
    rw e (first_of (search rules, grind (arith, common_steps)))

pub push_locals-returns-in_ok-push_part-in-For-2 : goal.push_locals-returns-in_ok-push_part-in-For-2
push_locals-returns-in_ok-push_part-in-For-2 t c =
    let b = c.in-For in
    let old = c.args.types.now.items in
    let first = c.push_part-in-For.new.types.items in
    let second = c.push_part-in-For-2.new.types.items in
    let third = c.push_locals-in-For.new.types.items in
    let w = c.deref-in-For.result.now in
    on_ok_weaker c.push_locals-in-For.result (λ (r : third ≡ second ++ locals (typed_statement w)).
    for_locals old first second third c.args.one.now b.first b.cond b.step b.body w b.is c.deref-in-For.ensures c.in_ok-push_part-in-For.ensures c.in_ok-push_part-in-For-2.ensures r) c.push_locals-in-For.ensures

pub push_body-loop-one-preserved : goal.push_body-loop-one-preserved
push_body-loop-one-preserved t c =
    locals_step c.args.list.now c.loop-one.one-index c.one-item.result c.loop-one.types.items _ _ c.loop-one-test.true c.one-item.is (first_of (search rules, grind (arith, common_steps))) c.loop-one.invariant

pub push_body-returns : goal.push_body-returns
push_body-returns t c = locals_done c.args.list.now c.loop-one.one-index c.loop-one.types.items _ c.loop-one-test.false c.loop-one.invariant
