use Rattle.std.proofs.Common.{rules, arith, refl, sym, ◌∙◌, subst}
use Rattle.std.proofs.lemmas.Grind.{common_steps}
use Rattle.ulam_tree.specs.ResolvedViews.{resolved_args}
use Rattle.type_rules.specs.Walk as walk
use Rattle.ulam_types.specs.Shown.{here, Fails}
use Rattle.ulam_types.proofs.Args.{args_none, count_is, args_step, args_stop, args_done, call_at}
use Rattle.ulam_types.proofs.Fails.{passed_on, no_room}
use Rattle.ulam_types.proofs.expr.+expr.Goals as goal

pub args-returns-in_err-value : goal.args-returns-in_err-value
args-returns-in_err-value t c =
    let f = args_stop (here c.args.scope.now) c.args.wants.now c.args.raw.now c.loop-i.i c.loop-i.found.items _ c.index-raw-i.result c.taken_want-want.result c.in_err-value.field-0.0
    (omega arith) c.loop-i-test.true c.taken_want-want.ensures c.index-raw-i.is c.in_err-value.ensures in
    let k = subst (Fails c.in_err-value.field-0.0) c.loop-i.invariant.rest f in
    record {
      gives = passed_on _ _ _ _ _ c.from_residual.ensures k (λ x h. h);
      many = first_of (search rules, grind (arith, common_steps));
    }

pub args-loop-i-init : goal.args-loop-i-init
args-loop-i-init t c = record {
  rest = rw c.new-found.ensures.items (args_none (walk.args (here c.args.scope.now) c.args.wants.now (resolved_args c.args.raw.now)));
  many = first_of (search rules, grind (arith, common_steps));
}

pub args-loop-i-preserved : goal.args-loop-i-preserved
args-loop-i-preserved t c =
    let e = args_step (here c.args.scope.now) c.args.wants.now c.args.raw.now c.loop-i.i c.loop-i.found.items _ c.index-raw-i.result c.in_ok-value.value c.taken_want-want.result
    (omega arith) c.loop-i-test.true c.taken_want-want.ensures c.index-raw-i.is c.in_ok-value.ensures in
    record {
      rest = rw c.in_ok-push.ensures.items (sym e ∙ c.loop-i.invariant.rest);
      many = first_of (search rules, grind (arith, common_steps));
    }

pub args-returns-clause-gives : goal.args-returns-clause-gives
args-returns-clause-gives t c =
    let e = args_done (here c.args.scope.now) c.args.wants.now c.args.raw.now c.loop-i.i c.loop-i.found.items c.loop-i-test.false in
    first_of (search (rules, e), grind (arith, common_steps))

pub expr-returns-in_err-args-in-Call : goal.expr-returns-in_err-args-in-Call
expr-returns-in_err-args-in-Call t c =
    let e = call_at (here c.args.scope.now) c.args.want c.args.raw.now c.in-Call.called c.in-Call.is in
    rw e (passed_on _ _ _ _ _ c.from_residual.ensures c.in_err-args-in-Call.ensures (λ f h. first_of (search rules, grind (arith, common_steps))))

pub expr-returns-in_ok-args-in-Call : goal.expr-returns-in_ok-args-in-Call
expr-returns-in_ok-args-in-Call t c =
    let e = call_at (here c.args.scope.now) c.args.want c.args.raw.now c.in-Call.called c.in-Call.is in
    rw e (first_of (search rules, grind (arith, common_steps)))

pub arguments-returns-then-wants-raw : goal.arguments-returns-then-wants-raw
arguments-returns-then-wants-raw t c = rw (count_is c.args.raw.now) (first_of (search rules, grind (arith, common_steps)))

pub arguments-returns-in_err-found : goal.arguments-returns-in_err-found
arguments-returns-in_err-found t c = rw (count_is c.args.raw.now) (passed_on _ _ _ _ _ c.from_residual.ensures c.in_err-found.ensures.gives (λ f h. first_of (search rules, grind (arith, common_steps))))

pub arguments-returns-then-all_suit : goal.arguments-returns-then-all_suit
arguments-returns-then-all_suit t c = rw (count_is c.args.raw.now) (first_of (search rules, grind (arith, common_steps)))

pub arguments-returns-then-built : goal.arguments-returns-then-built
arguments-returns-then-built t c = rw (count_is c.args.raw.now) (first_of (search rules, grind (arith, common_steps)))

pub arguments-returns : goal.arguments-returns
arguments-returns t c = rw (count_is c.args.raw.now) (first_of (search rules, grind (arith, common_steps)))

pub expr-returns-in-Path : goal.expr-returns-in-Path
expr-returns-in-Path t c = rw c.in-Path.is (c.value_at.ensures c.args.want)

pub expr-returns-in-Instance : goal.expr-returns-in-Instance
expr-returns-in-Instance t c = rw c.in-Instance.is (c.instance.ensures c.args.want)

pub compound-returns-in-Is : goal.compound-returns-in-Is
compound-returns-in-Is t c =
    let e = c.is.ensures c.args.want in
    rw c.in-Is.is (first_of (search (rules, e), grind (arith, common_steps)))

pub box_expr-returns-in_err-found : goal.box_expr-returns-in_err-found
box_expr-returns-in_err-found t c = passed_on _ _ _ _ _ c.from_residual.ensures c.in_err-found.ensures (λ f h. first_of (search rules, grind (arith, common_steps)))

pub box_expr-returns-in_err-new : goal.box_expr-returns-in_err-new
box_expr-returns-in_err-new t c = no_room _ _ _ c.from_residual-in_err-new.ensures

pub built_call-returns-in_err-args : goal.built_call-returns-in_err-args
built_call-returns-in_err-args t c = passed_on _ _ _ _ _ c.from_residual.ensures c.in_err-args.ensures (λ f h. rw h refl)

pub call-returns-in_err-args-in-Some : goal.call-returns-in_err-args-in-Some
call-returns-in_err-args-in-Some t c = passed_on _ _ _ _ _ c.from_residual.ensures c.in_err-args-in-Some.ensures (λ f h. first_of (search rules, grind (arith, common_steps)))

pub compound-returns-in_err-inner-in-Group : goal.compound-returns-in_err-inner-in-Group
unfolding walk.expr
compound-returns-in_err-inner-in-Group t c = passed_on _ _ _ _ _ c.from_residual.ensures c.in_err-inner-in-Group.ensures (λ f h. rw (c.in-Group.is, h) refl)

pub compound-returns-in_err-value-in-Cast : goal.compound-returns-in_err-value-in-Cast
unfolding walk.expr
compound-returns-in_err-value-in-Cast t c = passed_on _ _ _ _ _ c.from_residual-in_err-value-in-Cast.ensures c.in_err-value-in-Cast.ensures (λ f h. rw (c.in-Cast.is, h) refl)

pub compound-returns-in_err-ty-in-Cast : goal.compound-returns-in_err-ty-in-Cast
unfolding walk.expr
compound-returns-in_err-ty-in-Cast t c = passed_on _ _ _ _ _ c.from_residual-in_err-ty-in-Cast.ensures c.in_err-ty-in-Cast.ensures (λ f h. first_of (search rules, grind (arith, common_steps)))

pub compound-returns-in_err-value-in-Prefix : goal.compound-returns-in_err-value-in-Prefix
unfolding walk.expr
compound-returns-in_err-value-in-Prefix t c = passed_on _ _ _ _ _ c.from_residual-in_err-value-in-Prefix.ensures c.in_err-value-in-Prefix.ensures (λ f h. rw (c.in-Prefix.is, h) refl)

pub compound-returns-in_err-ty-in-Prefix : goal.compound-returns-in_err-ty-in-Prefix
unfolding walk.expr
compound-returns-in_err-ty-in-Prefix t c = passed_on _ _ _ _ _ c.from_residual-in_err-ty-in-Prefix.ensures c.in_err-ty-in-Prefix.ensures (λ f h. first_of (search rules, grind (arith, common_steps)))

pub compound-returns-in_err-right-in-Pair : goal.compound-returns-in_err-right-in-Pair
unfolding walk.expr
compound-returns-in_err-right-in-Pair t c = passed_on _ _ _ _ _ c.from_residual-in_err-right-in-Pair.ensures c.in_err-right-in-Pair.ensures (λ f h. first_of (search rules, grind (arith, common_steps)))

pub compound-returns-in_err-left-in-Pair : goal.compound-returns-in_err-left-in-Pair
unfolding walk.expr
compound-returns-in_err-left-in-Pair t c = passed_on _ _ _ _ _ c.from_residual-in_err-left-in-Pair.ensures c.in_err-left-in-Pair.ensures (λ f h. first_of (search rules, grind (arith, common_steps)))

pub compound-returns-in_err-left-in-Pair-2 : goal.compound-returns-in_err-left-in-Pair-2
unfolding walk.expr
compound-returns-in_err-left-in-Pair-2 t c = passed_on _ _ _ _ _ c.from_residual-in_err-left-in-Pair-2.ensures c.in_err-left-in-Pair-2.ensures (λ f h. first_of (search rules, grind (arith, common_steps)))

pub compound-returns-in_err-right-in-Pair-2 : goal.compound-returns-in_err-right-in-Pair-2
unfolding walk.expr
compound-returns-in_err-right-in-Pair-2 t c = passed_on _ _ _ _ _ c.from_residual-in_err-right-in-Pair-2.ensures c.in_err-right-in-Pair-2.ensures (λ f h. first_of (search rules, grind (arith, common_steps)))

pub expr-returns-in_err-at-in-Index : goal.expr-returns-in_err-at-in-Index
unfolding walk.expr
expr-returns-in_err-at-in-Index t c = passed_on _ _ _ _ _ c.from_residual-in_err-at-in-Index.ensures c.in_err-at-in-Index.ensures (λ f h. first_of (search rules, grind (arith, common_steps)))

pub expr-returns-in_err-path-in-Index : goal.expr-returns-in_err-path-in-Index
expr-returns-in_err-path-in-Index t c = no_room _ _ _ c.from_residual-in_err-path-in-Index.ensures

pub index-returns-in_err-expr-in-Some : goal.index-returns-in_err-expr-in-Some
index-returns-in_err-expr-in-Some t c = passed_on _ _ _ _ _ c.from_residual.ensures c.in_err-expr-in-Some.ensures (λ f h. first_of (search rules, grind (arith, common_steps)))

pub index-returns-in_err-at-in-Some : goal.index-returns-in_err-at-in-Some
index-returns-in_err-at-in-Some t c = no_room _ _ _ c.from_residual-in_err-at-in-Some.ensures

pub args-returns-in_err-push-clause-gives : goal.args-returns-in_err-push-clause-gives
args-returns-in_err-push-clause-gives t c = no_room _ _ _ c.from_residual-in_err-push.ensures

pub is-returns-in_err-value : goal.is-returns-in_err-value
unfolding walk.expr
is-returns-in_err-value t c = λ want. passed_on _ _ _ _ _ c.from_residual.ensures c.in_err-value.ensures (λ f h. rw h refl)

pub is-returns-in_err-value-2 : goal.is-returns-in_err-value-2
is-returns-in_err-value-2 t c = λ want. no_room _ _ _ c.from_residual-in_err-value-2.ensures

pub compound-returns-in_ok-inner-in-Group : goal.compound-returns-in_ok-inner-in-Group
unfolding walk.expr
compound-returns-in_ok-inner-in-Group t c = rw (c.in-Group.is, c.in_ok-inner-in-Group.ensures, c.group.ensures) refl

pub expr-returns-in-Number : goal.expr-returns-in-Number
unfolding walk.expr
expr-returns-in-Number t c = rw c.in-Number.is c.number.ensures

pub expr-returns-in-Truth : goal.expr-returns-in-Truth
unfolding walk.expr
expr-returns-in-Truth t c = rw (c.in-Truth.is, c.truth_at.ensures) refl

pub expr-returns-in-Group : goal.expr-returns-in-Group
expr-returns-in-Group t c = c.compound.ensures
