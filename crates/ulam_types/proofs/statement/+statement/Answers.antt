use Rattle.std.proofs.Common.{rules, arith, ◌≡◌, refl, sym, ◌∙◌, subst, option_map}
use Rattle.std.specs.Box.{box_value}
use Rattle.std.proofs.lemmas.Grind.{common_steps}
use Rattle.ulam_tree.specs.ResolvedViews.{resolved_expr, resolved_statement, resolved_body, resolved_cond, resolved_part}
use Rattle.type_rules.specs.Bodies as walk
use Rattle.ulam_types.specs.Shown.{here, Fails}
use Rattle.ulam_types.proofs.Bodies.{body_none, body_step, body_stop, body_done, block_at, if_at, branch_stop, else_stop, for_at, for_stop}
use Rattle.ulam_types.proofs.Fails.{passed_on, no_room}
use Rattle.ulam_types.proofs.statement.+statement.Goals as goal

pub statement-returns-in_err-list-in-Block : goal.statement-returns-in_err-list-in-Block
statement-returns-in_err-list-in-Block t c =
    let e = block_at (here c.args.scope.now) c.args.raw.now c.in-Block.list c.in-Block.is in
    rw e (passed_on _ _ _ _ _ c.from_residual.ensures c.in_err-list-in-Block.ensures (λ f h. rw (← c.as_slice.ensures.value, h) refl))

pub statement-returns-in_ok-list-in-Block : goal.statement-returns-in_ok-list-in-Block
statement-returns-in_ok-list-in-Block t c =
    let e = block_at (here c.args.scope.now) c.args.raw.now c.in-Block.list c.in-Block.is in
    rw (e, ← c.as_slice.ensures.value, c.in_ok-list-in-Block.ensures, c.block.ensures) refl

pub body-returns-in_err-one : goal.body-returns-in_err-one
body-returns-in_err-one t c =
    let f = body_stop (here c.args.scope.now) c.args.raw.now c.loop-one.one-index c.loop-one.found.items c.one-item.result c.in_err-one.field-0.0 c.loop-one-test.true c.one-item.is c.in_err-one.ensures in
    let k = subst (Fails c.in_err-one.field-0.0) c.loop-one.invariant f in
    passed_on _ _ _ _ _ c.from_residual.ensures k (λ f h. h)

pub body-returns : goal.body-returns
body-returns t c =
    let e = body_done (here c.args.scope.now) c.args.raw.now c.loop-one.one-index c.loop-one.found.items c.loop-one-test.false in
    first_of (search (rules, e), grind (arith, common_steps))

pub body-loop-one-preserved : goal.body-loop-one-preserved
body-loop-one-preserved t c =
    let e = body_step (here c.args.scope.now) c.args.raw.now c.loop-one.one-index c.loop-one.found.items c.one-item.result c.in_ok-one.one c.loop-one-test.true c.one-item.is c.in_ok-one.ensures in
    rw c.in_ok-push.ensures.items (sym e ∙ c.loop-one.invariant)

pub body-loop-one-init : goal.body-loop-one-init
body-loop-one-init t c = rw c.new-found.ensures.items (body_none (walk.body (here c.args.scope.now) (resolved_body c.args.raw.now)))

pub statement-returns-in_err-cond-in-If : goal.statement-returns-in_err-cond-in-If
statement-returns-in_err-cond-in-If t c =
    let g = here c.args.scope.now in
    let b = c.in-If in
    let d : c.deref.result.now ≡ box_value b.yes = search rules in
    let e = if_at g c.args.raw.now b.cond b.yes b.no c.deref.result.now b.is d in
    let k = branch_stop g (resolved_cond b.cond) (resolved_statement c.deref.result.now) (resolved_part b.no) c.in_err-cond-in-If.field-0.0 c.in_err-cond-in-If.ensures in
    rw e (passed_on _ _ _ _ _ c.from_residual-in_err-cond-in-If.ensures k (λ f h. h))

pub statement-returns-in_err-no-in-If : goal.statement-returns-in_err-no-in-If
statement-returns-in_err-no-in-If t c =
    let g = here c.args.scope.now in
    let b = c.in-If in
    let d : c.deref.result.now ≡ box_value b.yes = search rules in
    let e = if_at g c.args.raw.now b.cond b.yes b.no c.deref.result.now b.is d in
    let k = else_stop g (resolved_cond b.cond) (resolved_statement c.deref.result.now) (resolved_part b.no) c.in_err-no-in-If.field-0.0 _ c.in_ok-cond-in-If.ensures c.in_err-no-in-If.ensures in
    rw e (passed_on _ _ _ _ _ c.from_residual-in_err-no-in-If.ensures k (λ f h. h))

pub statement-returns-in_err-body-in-For : goal.statement-returns-in_err-body-in-For
statement-returns-in_err-body-in-For t c =
    let g = here c.args.scope.now in
    let b = c.in-For in
    let d : c.deref-in-For.result.now ≡ box_value b.body = search rules in
    let e = for_at g c.args.raw.now b.first b.cond b.step b.body c.deref-in-For.result.now b.is d in
    let k = for_stop g (resolved_part b.first) (option_map resolved_expr b.cond) (resolved_part b.step) (resolved_statement c.deref-in-For.result.now) c.in_err-body-in-For.field-0.0 _ _ _
    c.in_ok-first-in-For.ensures c.in_ok-cond-in-For.ensures c.in_ok-step-in-For.ensures c.in_err-body-in-For.ensures in
    rw e (passed_on _ _ _ _ _ c.from_residual-in_err-body-in-For.ensures k (λ f h. h))

pub body-returns-in_err-push : goal.body-returns-in_err-push
body-returns-in_err-push t c = no_room _ _ _ c.from_residual-in_err-push.ensures

pub branch-returns-in_err-value-in-Test : goal.branch-returns-in_err-value-in-Test
branch-returns-in_err-value-in-Test t c = passed_on _ _ _ _ _ c.from_residual.ensures c.in_err-value-in-Test.ensures (λ f h. rw (c.in-Test.is, h) refl)

pub branch-returns-in_err-yes-in-Test : goal.branch-returns-in_err-yes-in-Test
branch-returns-in_err-yes-in-Test t c = passed_on _ _ _ _ _ c.from_residual-in_err-yes-in-Test.ensures c.in_err-yes-in-Test.ensures (λ f h. rw (c.in-Test.is, c.in_ok-value-in-Test.ensures, h) refl)

pub part-returns-in_err-one-in-Some : goal.part-returns-in_err-one-in-Some
unfolding walk.statement
part-returns-in_err-one-in-Some t c = passed_on _ _ _ _ _ c.from_residual.ensures c.in_err-one-in-Some.ensures (λ f h. first_of (search rules, grind (arith, common_steps)))

pub if_as-returns-in_err-slots : goal.if_as-returns-in_err-slots
if_as-returns-in_err-slots t c = no_room _ _ _ c.from_residual.ensures

pub if_as-returns-in_err-yes : goal.if_as-returns-in_err-yes
if_as-returns-in_err-yes t c = passed_on _ _ _ _ _ c.from_residual-in_err-yes.ensures c.in_err-yes.ensures (λ f h. first_of (search rules, grind (arith, common_steps)))

pub if_as-returns-in_err-path : goal.if_as-returns-in_err-path
if_as-returns-in_err-path t c = no_room _ _ _ c.from_residual-in_err-path.ensures

pub statement-returns-in_err-first-in-For : goal.statement-returns-in_err-first-in-For
unfolding walk.statement
statement-returns-in_err-first-in-For t c = passed_on _ _ _ _ _ c.from_residual-in_err-first-in-For.ensures c.in_err-first-in-For.ensures (λ f h. first_of (search rules, grind (arith, common_steps)))

pub statement-returns-in_err-cond-in-For : goal.statement-returns-in_err-cond-in-For
unfolding walk.statement
statement-returns-in_err-cond-in-For t c = passed_on _ _ _ _ _ c.from_residual-in_err-cond-in-For.ensures c.in_err-cond-in-For.ensures (λ f h. first_of (search rules, grind (arith, common_steps)))

pub statement-returns-in_err-step-in-For : goal.statement-returns-in_err-step-in-For
unfolding walk.statement
statement-returns-in_err-step-in-For t c = passed_on _ _ _ _ _ c.from_residual-in_err-step-in-For.ensures c.in_err-step-in-For.ensures (λ f h. first_of (search rules, grind (arith, common_steps)))

pub inside-returns-in_err-found : goal.inside-returns-in_err-found
inside-returns-in_err-found t c = passed_on _ _ _ _ _ c.from_residual.ensures c.in_err-found.ensures (λ f h. h)

pub inside-returns-in_err-new : goal.inside-returns-in_err-new
inside-returns-in_err-new t c = no_room _ _ _ c.from_residual-in_err-new.ensures

pub while_so-returns-in_err-cond : goal.while_so-returns-in_err-cond
unfolding walk.statement
while_so-returns-in_err-cond t c = passed_on _ _ _ _ _ c.from_residual.ensures c.in_err-cond.ensures (λ f h. rw h refl)

pub while_so-returns-in_err-body : goal.while_so-returns-in_err-body
unfolding walk.statement
while_so-returns-in_err-body t c = passed_on _ _ _ _ _ c.from_residual-in_err-body.ensures c.in_err-body.ensures (λ f h. rw (c.in_ok-cond.ensures, h) refl)

pub statement-returns-in-Nothing : goal.statement-returns-in-Nothing
unfolding walk.statement
statement-returns-in-Nothing t c = rw c.in-Nothing.is refl

pub statement-returns-in-Return : goal.statement-returns-in-Return
statement-returns-in-Return t c = rw c.in-Return.is c.give.ensures

pub statement-returns-in-Break : goal.statement-returns-in-Break
statement-returns-in-Break t c = rw c.in-Break.is c.breaks.ensures

pub statement-returns-in-Continue : goal.statement-returns-in-Continue
statement-returns-in-Continue t c = rw c.in-Continue.is c.continues.ensures

pub statement-returns-in-Declare : goal.statement-returns-in-Declare
statement-returns-in-Declare t c = rw c.in-Declare.is c.declare.ensures

pub statement-returns-in-Assign : goal.statement-returns-in-Assign
statement-returns-in-Assign t c = rw c.in-Assign.is c.assign.ensures

pub statement-returns-in-Count : goal.statement-returns-in-Count
statement-returns-in-Count t c = rw c.in-Count.is c.count.ensures

pub statement-returns-in_ok-no-in-If : goal.statement-returns-in_ok-no-in-If
unfolding walk.statement
statement-returns-in_ok-no-in-If t c =
    let g = here c.args.scope.now in
    let b = c.in-If in
    let d : c.deref.result.now ≡ box_value b.yes = search rules in
    let e = if_at g c.args.raw.now b.cond b.yes b.no c.deref.result.now b.is d in
    rw (e, c.in_ok-cond-in-If.ensures, c.in_ok-no-in-If.ensures, c.if_so.ensures) refl

pub statement-returns-in_ok-body-in-For : goal.statement-returns-in_ok-body-in-For
unfolding walk.statement
statement-returns-in_ok-body-in-For t c =
    let g = here c.args.scope.now in
    let b = c.in-For in
    let d : c.deref-in-For.result.now ≡ box_value b.body = search rules in
    let e = for_at g c.args.raw.now b.first b.cond b.step b.body c.deref-in-For.result.now b.is d in
    rw (e, c.in_ok-first-in-For.ensures, c.in_ok-cond-in-For.ensures, c.in_ok-step-in-For.ensures, c.in_ok-body-in-For.ensures, c.for_all.ensures) refl

pub while_so-returns : goal.while_so-returns
unfolding walk.statement
while_so-returns t c = rw (c.in_ok-cond.ensures, c.in_ok-body.ensures) refl

pub branch-returns-in_ok-yes-in-Test : goal.branch-returns-in_ok-yes-in-Test
branch-returns-in_ok-yes-in-Test t c = rw (c.in-Test.is, c.in_ok-value-in-Test.ensures, c.in_ok-yes-in-Test.ensures) refl

pub branch-returns-in-Seen : goal.branch-returns-in-Seen
branch-returns-in-Seen t c = rw c.in-Seen.is c.if_as.ensures
