use Rattle.std.proofs.Common.{◌≡◌, ◌∙◌, refl, sym, ap, ℕ, ◌+◌, ◌≤◌, List, ◌∷◌, drop, take, length, arith, rules, Ok, Err, Option, option_map}
use Rattle.std.specs.Box.{box_value}
use Rattle.std.proofs.lemmas.List.{at_drop_more, at_drop_all}
use Rattle.std.proofs.lemmas.Grind.{common_steps}
use Rattle.ulam_names.specs.Walk as walk
use Rattle.ulam_names.specs.BodyWalk as here
use Rattle.ulam_names.specs.Outcomes.{Outcome}
use Rattle.ulam_names.specs.Shown.{context_of, scope_of, entries_of, with_body}
use Rattle.ulam_names.specs.Scopes.{Context, Scope, inner_scope}
use Rattle.ulam_names.specs.declared.scope.Entry.{Entry}
use Rattle.ulam_tree.specs.Raw as raw_tree
use Rattle.ulam_tree.specs.ResolvedViews.{resolved_expr, resolved_part, resolved_cond, resolved_statement}
use Rattle.ulam_names.proofs.Loops.{turns, for_first, for_next, turns_step, turns_body}
use Rattle.ulam_tree.specs.declared.raw.Statement.{Statement as RawStatement}
use Rattle.ulam_tree.specs.declared.resolved.Statement.{Statement}
use Rattle.ulam_tree.specs.RawViews as raw_view
use Rattle.ulam_names.proofs.Rows.{body_whole}
use Rattle.ulam_tree.specs.Resolved as r
use Rattle.ulam_tree.proofs.RawRows.{block_is as raw_block_is, if_is as raw_if_is, for_is as raw_for_is}
use Rattle.ulam_tree.specs.Found.{◌>>=◌}
use Rattle.ulam_names.proofs.Opened.{opened_shown}
use Rattle.ulam_names.proofs.Bodies.{body_on, kept_long, kept_twice, walk_block, walk_while, branches, walk_if, else_is}
use Rattle.ulam_names.proofs.Outcomes.{outcome_passed, outcome_full, outcome_full_by, outcome_same, after_same}
use Rattle.ulam_names.proofs.statement.+statement.Goals as goal

pub block-returns-in_err-list : goal.block-returns-in_err-list
block-returns-in_err-list t c =
    let same : c.len-len.result ≡ length c.args.entries.now.items = first_of (search rules, grind (arith, common_steps)) in
    outcome_passed _ _ _ _ _ _ c.from_residual.ensures c.in_err-list.ensures
    (λ f h. walk_block (context_of c.args.context.now) c.args.entries.now.items c.args.slot c.len-len.result (raw_view.body_list c.args.raw.now) same ∙ rw h refl)

pub block-returns : goal.block-returns
block-returns t c =
    let same : c.len-len.result ≡ length c.args.entries.now.items = first_of (search rules, grind (arith, common_steps)) in (
      record {
        gives =
            walk_block (context_of c.args.context.now) c.args.entries.now.items c.args.slot c.len-len.result (raw_view.body_list c.args.raw.now) same
            ∙ rw c.in_ok-list.ensures.0.gives (ap Ok (sym c.block.ensures));
        next = c.in_ok-list.ensures.0.next;
        few = c.in_ok-list.ensures.0.few;
      },
      c.truncate.ensures.items ∙ ap (λ k. take k c.body.new.entries.items) same ∙ c.in_ok-list.ensures.1,
    )

pub body-loop-one-preserved : goal.body-loop-one-preserved
body-loop-one-preserved t c =
    let rest = drop (c.loop-one.one-index + 1) c.args.raw.now in
    let split : walk.locals_in (raw_view.body_list (drop c.loop-one.one-index c.args.raw.now)) ≡ walk.locals_of (raw_view.statement_of c.one-item.result) + walk.locals_in (raw_view.body_list rest)
    = at_drop_more (λ (zs : List RawStatement). walk.locals_in (raw_view.body_list zs)) c.args.raw.now c.loop-one.one-index c.one-item.result c.loop-one-test.true
    ∙ ap (λ (x : RawStatement). walk.locals_of (raw_view.statement_of x) + walk.locals_in (raw_view.body_list rest)) (sym c.one-item.is) in
    let after : c.in_ok-one.after ≡ c.loop-one.next + walk.locals_of (raw_view.statement_of c.one-item.result) = c.in_ok-one.ensures.0.next in
    let longer : length c.loop-one.entries.items ≤ length c.statement.new.entries.items = kept_long c.loop-one.entries.items c.statement.new.entries.items c.in_ok-one.ensures.1.kept in
    record {
      gives =
          c.loop-one.invariant.gives
          ∙ at_drop_more (λ (zs : List RawStatement). with_body c.loop-one.found.items (walk.body (context_of c.args.context.now) (scope_of c.loop-one.entries.items c.args.from) c.loop-one.next (raw_view.body_list zs))) c.args.raw.now c.loop-one.one-index c.one-item.result c.loop-one-test.true
          ∙ ap (λ (x : RawStatement). with_body c.loop-one.found.items (walk.body (context_of c.args.context.now) (scope_of c.loop-one.entries.items c.args.from) c.loop-one.next (raw_view.body_list (x ∷ rest)))) (sym c.one-item.is)
          ∙ body_on (context_of c.args.context.now) c.loop-one.found.items c.in_ok-one.one c.loop-one.entries.items c.statement.new.entries.items c.args.from c.loop-one.next c.in_ok-one.after
          (raw_view.statement_of c.one-item.result) (raw_view.body_list rest) c.in_ok-one.ensures.0.gives c.in_ok-one.ensures.1.entries after
          ∙ ap (λ (xs : List Statement). with_body xs (walk.body (context_of c.args.context.now) (scope_of c.statement.new.entries.items c.args.from) c.in_ok-one.after (raw_view.body_list rest))) (sym {A = List Statement} c.in_ok-push.ensures.items);
      next = omega (arith, split, c.loop-one.invariant.next, after);
      few = c.in_ok-one.ensures.0.few;
      long = omega (arith, longer, c.loop-one.invariant.long);
      kept = kept_twice c.args.entries.now.items c.loop-one.entries.items c.statement.new.entries.items c.in_ok-one.ensures.1.kept c.loop-one.invariant.kept;
    }

pub body-returns-in_err-one : goal.body-returns-in_err-one
body-returns-in_err-one t c =
    let rest = drop (c.loop-one.one-index + 1) c.args.raw.now in
    outcome_passed _ _ _ _ _ _ c.from_residual.ensures c.in_err-one.ensures
    (λ f h. c.loop-one.invariant.gives
    ∙ at_drop_more (λ (zs : List RawStatement). with_body c.loop-one.found.items (walk.body (context_of c.args.context.now) (scope_of c.loop-one.entries.items c.args.from) c.loop-one.next (raw_view.body_list zs))) c.args.raw.now c.loop-one.one-index c.one-item.result c.loop-one-test.true
    ∙ ap (λ (x : RawStatement). with_body c.loop-one.found.items (walk.body (context_of c.args.context.now) (scope_of c.loop-one.entries.items c.args.from) c.loop-one.next (raw_view.body_list (x ∷ rest)))) (sym c.one-item.is)
    ∙ rw h refl)

pub body-returns-in_err-push : goal.body-returns-in_err-push
body-returns-in_err-push t c = outcome_full _ _ _ _ c.from_residual-in_err-push.ensures

pub body-returns : goal.body-returns
body-returns t c =
    let none : walk.locals_in (raw_view.body_list (drop c.loop-one.one-index c.args.raw.now)) ≡ 0
    = at_drop_all (λ (zs : List RawStatement). walk.locals_in (raw_view.body_list zs)) c.args.raw.now c.loop-one.one-index c.loop-one-test.false in (
      record {
        gives =
            c.loop-one.invariant.gives
            ∙ at_drop_all (λ (zs : List RawStatement). with_body c.loop-one.found.items (walk.body (context_of c.args.context.now) (scope_of c.loop-one.entries.items c.args.from) c.loop-one.next (raw_view.body_list zs))) c.args.raw.now c.loop-one.one-index c.loop-one-test.false
            ∙ ap Ok (body_whole c.loop-one.found.items);
        next = omega (arith, none, c.loop-one.invariant.next);
        few = c.loop-one.invariant.few;
      },
      c.loop-one.invariant.kept,
    )

pub box_statement-returns-in_err-found : goal.box_statement-returns-in_err-found
box_statement-returns-in_err-found t c = outcome_passed _ _ _ _ _ _ c.from_residual.ensures c.in_err-found.ensures (λ f h. h)

pub box_statement-returns-in_err-in_box : goal.box_statement-returns-in_err-in_box
box_statement-returns-in_err-in_box t c = outcome_full_by _ _ _ _ _ c.from_residual-in_err-in_box.ensures c.in_err-in_box.ensures.memory

pub box_statement-returns : goal.box_statement-returns
box_statement-returns t c = (
  record {
    gives = c.in_ok-found.ensures.0.gives ∙ ap (λ x. Ok (resolved_statement x)) (sym c.in_ok-in_box.ensures.boxed);
    next = c.in_ok-found.ensures.0.next;
    few = c.in_ok-found.ensures.0.few;
  },
  record {
    entries =
        c.in_ok-found.ensures.1.entries
        ∙ ap (λ x. (here.after c.args.context.now c.args.entries.now c.args.from c.args.slot c.args.raw.now x).entries) (sym c.in_ok-in_box.ensures.boxed);
    kept = c.in_ok-found.ensures.1.kept;
  },
)

pub branch-returns-in_err-show : goal.branch-returns-in_err-show
branch-returns-in_err-show t c = outcome_full_by _ _ _ _ _ c.from_residual.ensures (cc (c.in_err-show.ensures.memory))

pub branch-returns-in_err-found : goal.branch-returns-in_err-found
branch-returns-in_err-found t c =
    let shown : Scope = here.branch_scope c.args.context.now c.args.entries.now 0 c.args.test.now c.args.found.now in
    let es : List Entry = c.show.new.entries.items in
    let own : inner_scope shown ≡ scope_of es (length es) = opened_shown es shown (c.in_ok-show.ensures.shown 0) in
    outcome_passed _ _ _ _ _ _ c.from_residual-in_err-found.ensures c.in_err-found.ensures
    (λ f h. ap (λ (z : Scope). here.statement_in c.args.context.now z c.args.slot c.args.raw.now) own ∙ h)

pub branch-returns : goal.branch-returns
branch-returns t c =
    let same : c.len-len.result ≡ length c.args.entries.now.items = first_of (search rules, grind (arith, common_steps)) in
    let shown : Scope = here.branch_scope c.args.context.now c.args.entries.now 0 c.args.test.now c.args.found.now in
    let es : List Entry = c.show.new.entries.items in
    let own : inner_scope shown ≡ scope_of es (length es) = opened_shown es shown (c.in_ok-show.ensures.shown 0) in (
      record {
        gives = ap (λ (z : Scope). here.statement_in c.args.context.now z c.args.slot c.args.raw.now) own ∙ c.in_ok-found.ensures.0.gives;
        next = c.in_ok-found.ensures.0.next;
        few = c.in_ok-found.ensures.0.few;
      },
      c.truncate.ensures.items ∙ ap (λ k. take k c.inner.new.entries.items) same ∙ ap (take (length c.args.entries.now.items)) c.in_ok-found.ensures.1 ∙ c.in_ok-show.ensures.kept,
    )

pub first_part-returns-in_err-one-in-Some : goal.first_part-returns-in_err-one-in-Some
first_part-returns-in_err-one-in-Some t c =
    let ctx : Context = context_of c.args.context.now in
    let s : Scope = scope_of c.args.entries.now.items c.args.from in
    let begin : walk.part ctx s c.args.slot (raw_view.part_alone c.args.raw.now) ≡ (walk.statement ctx s c.args.slot (raw_view.statement_of c.deref.result.now) >>= λ (a : r.Statement). Ok (r.part a)) =
    ap (λ z. walk.part ctx s c.args.slot (raw_view.part_alone z)) c.in-Some.is
    ∙ ap (λ (x : RawStatement). walk.statement ctx s c.args.slot (raw_view.statement_of x) >>= λ (a : r.Statement). Ok (r.part a)) (sym c.deref.ensures) in
    outcome_passed _ _ _ _ _ _ c.from_residual.ensures c.in_err-one-in-Some.ensures (λ f h. begin ∙ rw h refl)

pub first_part-returns-in_ok-one-in-Some : goal.first_part-returns-in_ok-one-in-Some
first_part-returns-in_ok-one-in-Some t c =
    let ctx : Context = context_of c.args.context.now in
    let s : Scope = scope_of c.args.entries.now.items c.args.from in
    let what : raw_view.part_alone c.args.raw.now ≡ raw_tree.part (raw_view.statement_of c.deref.result.now) =
    ap raw_view.part_alone c.in-Some.is ∙ ap (λ (x : RawStatement). raw_tree.part (raw_view.statement_of x)) (sym c.deref.ensures) in
    let begin : walk.part ctx s c.args.slot (raw_view.part_alone c.args.raw.now) ≡ (walk.statement ctx s c.args.slot (raw_view.statement_of c.deref.result.now) >>= λ (a : r.Statement). Ok (r.part a)) =
    ap (walk.part ctx s c.args.slot) what in (
      record {
        gives = begin ∙ rw c.in_ok-one-in-Some.ensures.0.gives refl;
        next = c.in_ok-one-in-Some.ensures.0.next ∙ ap (λ z. c.args.slot + walk.locals_part z) (sym what);
        few = c.in_ok-one-in-Some.ensures.0.few;
      },
      record {
        entries = c.in_ok-one-in-Some.ensures.1.entries ∙ ap (λ z. (walk.after_part ctx.heads s c.args.slot z (r.part (resolved_statement (box_value c.in_ok-one-in-Some.one)))).entries) (sym what);
        kept = c.in_ok-one-in-Some.ensures.1.kept;
      },
    )

pub first_part-returns-in-None : goal.first_part-returns-in-None
first_part-returns-in-None t c =
    let ctx : Context = context_of c.args.context.now in
    let s : Scope = scope_of c.args.entries.now.items c.args.from in
    let none : walk.locals_part (raw_view.part_alone c.args.raw.now) ≡ 0 = ap (λ z. walk.locals_part (raw_view.part_alone z)) c.in-None.is in (
      record {
        gives = ap (λ z. walk.part ctx s c.args.slot (raw_view.part_alone z)) c.in-None.is;
        next = omega (arith, none);
        few = c.requires.slot;
      },
      after_same c.args.entries.now c.args.entries.now _ refl (ap (λ z. (walk.after_part ctx.heads s c.args.slot (raw_view.part_alone z) r.no_part).entries) c.in-None.is),
    )

pub inner-returns-in_err-found : goal.inner-returns-in_err-found
inner-returns-in_err-found t c =
    let same : c.len-len.result ≡ length c.args.entries.now.items = first_of (search rules, grind (arith, common_steps)) in
    outcome_passed _ _ _ _ _ _ c.from_residual.ensures c.in_err-found.ensures
    (λ f h. ap (λ (j : ℕ). here.statement c.args.context.now c.args.entries.now j c.args.slot c.args.raw.now) (sym same) ∙ h)

pub inner-returns : goal.inner-returns
inner-returns t c =
    let same : c.len-len.result ≡ length c.args.entries.now.items = first_of (search rules, grind (arith, common_steps)) in (
      record {
        gives = ap (λ (j : ℕ). here.statement c.args.context.now c.args.entries.now j c.args.slot c.args.raw.now) (sym same) ∙ c.in_ok-found.ensures.0.gives;
        next = c.in_ok-found.ensures.0.next;
        few = c.in_ok-found.ensures.0.few;
      },
      c.truncate.ensures.items ∙ ap (λ k. take k c.box_statement.new.entries.items) same ∙ c.in_ok-found.ensures.1.kept,
    )

pub part-returns-in_err-found : goal.part-returns-in_err-found
part-returns-in_err-found t c = outcome_passed _ _ _ _ _ _ c.from_residual.ensures c.in_err-found.ensures (λ f h. h)

pub part-returns : goal.part-returns
part-returns t c =
    let same : c.len-len.result ≡ length c.args.entries.now.items = first_of (search rules, grind (arith, common_steps)) in
    (c.in_ok-found.ensures.0, c.truncate.ensures.items ∙ ap (λ k. take k c.first_part.new.entries.items) same ∙ c.in_ok-found.ensures.1.kept)

pub while_so-returns-in_err-test : goal.while_so-returns-in_err-test
while_so-returns-in_err-test t c =
    let ctx : Context = context_of c.args.context.now in
    outcome_passed _ _ _ _ _ _ c.from_residual.ensures c.in_err-test.ensures
    (λ f h. let at : walk.expr ctx (entries_of c.args.entries.now.items) (raw_view.expr_of c.args.test.now) ≡ Err f = ap (λ (zs : List Entry). walk.expr ctx (entries_of zs) (raw_view.expr_of c.args.test.now)) (sym c.as_slice.ensures.value) ∙ h in
    walk_while ctx c.args.entries.now.items c.args.slot (raw_view.expr_of c.args.test.now) (raw_view.statement_of c.args.raw.now) ∙ rw at refl)

pub while_so-returns-in_err-body : goal.while_so-returns-in_err-body
while_so-returns-in_err-body t c =
    let ctx : Context = context_of c.args.context.now in
    let at : walk.expr ctx (entries_of c.args.entries.now.items) (raw_view.expr_of c.args.test.now) ≡ Ok (resolved_expr c.in_ok-test.test) = ap (λ (zs : List Entry). walk.expr ctx (entries_of zs) (raw_view.expr_of c.args.test.now)) (sym c.as_slice.ensures.value) ∙ c.in_ok-test.ensures in
    outcome_passed _ _ _ _ _ _ c.from_residual-in_err-body.ensures c.in_err-body.ensures
    (λ f h. walk_while ctx c.args.entries.now.items c.args.slot (raw_view.expr_of c.args.test.now) (raw_view.statement_of c.args.raw.now) ∙ rw (at, h) refl)

pub while_so-returns : goal.while_so-returns
while_so-returns t c =
    let ctx : Context = context_of c.args.context.now in
    let at : walk.expr ctx (entries_of c.args.entries.now.items) (raw_view.expr_of c.args.test.now) ≡ Ok (resolved_expr c.in_ok-test.test) = ap (λ (zs : List Entry). walk.expr ctx (entries_of zs) (raw_view.expr_of c.args.test.now)) (sym c.as_slice.ensures.value) ∙ c.in_ok-test.ensures in (
      record {
        gives = walk_while ctx c.args.entries.now.items c.args.slot (raw_view.expr_of c.args.test.now) (raw_view.statement_of c.args.raw.now) ∙ rw (at, c.in_ok-body.ensures.0.gives) refl;
        next = c.in_ok-body.ensures.0.next;
        few = c.in_ok-body.ensures.0.few;
      },
      c.in_ok-body.ensures.1,
    )

pub plain_statement-returns-in-While : goal.plain_statement-returns-in-While
plain_statement-returns-in-While t c =
    let ctx : Context = context_of c.args.context.now in
    let s : Scope = scope_of c.args.entries.now.items c.args.from in
    let what : raw_tree.while_so (raw_view.expr_of c.in-While.test) (raw_view.statement_of c.deref.result.now) ≡ raw_view.statement_of c.args.raw.now =
    ap (λ (x : RawStatement). raw_tree.while_so (raw_view.expr_of c.in-While.test) (raw_view.statement_of x)) c.deref.ensures ∙ sym (ap raw_view.statement_of c.in-While.is) in
    let go : raw_tree.Statement → Outcome r.Statement = λ x. record { found = walk.statement ctx s c.args.slot x; next = c.args.slot + walk.locals_of x; most = c.args.context.now.params + 64 } in
    outcome_same _ _ _ _ _ _ (ap go what) (λ x same. after_same c.args.entries.now c.while_so.new.entries _ same (ap (λ z. (walk.after ctx.heads s c.args.slot z (resolved_statement x)).entries) (sym what))) c.while_so.ensures

pub plain_statement-returns-in_default : goal.plain_statement-returns-in_default
plain_statement-returns-in_default t c = c.leaf.ensures

pub plain_statement-returns-in_err-first-in-For : goal.plain_statement-returns-in_err-first-in-For
plain_statement-returns-in_err-first-in-For t c =
    let ctx : Context = context_of c.args.context.now in
    let es : List Entry = c.args.entries.now.items in
    let same : c.len-len.result ≡ length es = first_of (search rules, grind (arith, common_steps)) in
    outcome_passed _ _ _ _ _ _ c.from_residual.ensures c.in_err-first-in-For.ensures
    (λ f h. ap (λ z. walk.statement ctx (scope_of es c.args.from) c.args.slot (raw_view.statement_of z)) c.in-For.is
    ∙ for_first ctx es c.args.from c.args.slot c.len-len.result c.in-For.first c.in-For.test c.in-For.step c.in-For.body same
    ∙ rw h refl)

pub plain_statement-returns-in_err-test-in-For : goal.plain_statement-returns-in_err-test-in-For
plain_statement-returns-in_err-test-in-For t c =
    let ctx : Context = context_of c.args.context.now in
    let es : List Entry = c.args.entries.now.items in
    let same : c.len-len.result ≡ length es = first_of (search rules, grind (arith, common_steps)) in
    let one : List Entry = c.first_part.new.entries.items in
    let len : ℕ = c.len-len.result in
    let next : ℕ = c.in_ok-first-in-For.next in
    let a : r.Part = resolved_part c.in_ok-first-in-For.first in
    let k : Option raw_tree.Expr = option_map raw_view.expr_of c.in-For.test in
    let g : raw_tree.Part = raw_view.part_alone c.in-For.step in
    let x : raw_tree.Statement = raw_view.statement_of (box_value c.in-For.body) in
    let begin : walk.statement ctx (scope_of es c.args.from) c.args.slot (raw_view.statement_of c.args.raw.now) ≡ turns ctx one len next a k g x =
    ap (λ z. walk.statement ctx (scope_of es c.args.from) c.args.slot (raw_view.statement_of z)) c.in-For.is
    ∙ for_next ctx es one c.args.from c.args.slot next len c.in-For.first c.in-For.test c.in-For.step c.in-For.body a same
    c.in_ok-first-in-For.ensures.0.gives c.in_ok-first-in-For.ensures.1.entries c.in_ok-first-in-For.ensures.0.next in
    outcome_passed _ _ _ _ _ _ c.from_residual-in_err-test-in-For.ensures c.in_err-test-in-For.ensures
    (λ f h. let at : walk.maybe_expr ctx (entries_of one) k ≡ Err f = ap (λ (zs : List Entry). walk.maybe_expr ctx (entries_of zs) k) (sym c.as_slice.ensures.value) ∙ h in
    begin ∙ rw at refl)

pub plain_statement-returns-in_err-step-in-For : goal.plain_statement-returns-in_err-step-in-For
plain_statement-returns-in_err-step-in-For t c =
    let ctx : Context = context_of c.args.context.now in
    let es : List Entry = c.args.entries.now.items in
    let same : c.len-len.result ≡ length es = first_of (search rules, grind (arith, common_steps)) in
    let one : List Entry = c.first_part.new.entries.items in
    let len : ℕ = c.len-len.result in
    let next : ℕ = c.in_ok-first-in-For.next in
    let a : r.Part = resolved_part c.in_ok-first-in-For.first in
    let k : Option raw_tree.Expr = option_map raw_view.expr_of c.in-For.test in
    let g : raw_tree.Part = raw_view.part_alone c.in-For.step in
    let x : raw_tree.Statement = raw_view.statement_of (box_value c.in-For.body) in
    let begin : walk.statement ctx (scope_of es c.args.from) c.args.slot (raw_view.statement_of c.args.raw.now) ≡ turns ctx one len next a k g x =
    ap (λ z. walk.statement ctx (scope_of es c.args.from) c.args.slot (raw_view.statement_of z)) c.in-For.is
    ∙ for_next ctx es one c.args.from c.args.slot next len c.in-For.first c.in-For.test c.in-For.step c.in-For.body a same
    c.in_ok-first-in-For.ensures.0.gives c.in_ok-first-in-For.ensures.1.entries c.in_ok-first-in-For.ensures.0.next in
    let d : Option r.Expr = option_map resolved_expr c.in_ok-test-in-For.test in
    let hd : walk.maybe_expr ctx (entries_of one) k ≡ Ok d = ap (λ (zs : List Entry). walk.maybe_expr ctx (entries_of zs) k) (sym c.as_slice.ensures.value) ∙ c.in_ok-test-in-For.ensures in
    outcome_passed _ _ _ _ _ _ c.from_residual-in_err-step-in-For.ensures c.in_err-step-in-For.ensures (λ f h. begin ∙ turns_step ctx one len next a k g x d hd ∙ rw h refl)

pub plain_statement-returns-in_err-body-in-For : goal.plain_statement-returns-in_err-body-in-For
plain_statement-returns-in_err-body-in-For t c =
    let ctx : Context = context_of c.args.context.now in
    let es : List Entry = c.args.entries.now.items in
    let same : c.len-len.result ≡ length es = first_of (search rules, grind (arith, common_steps)) in
    let one : List Entry = c.first_part.new.entries.items in
    let len : ℕ = c.len-len.result in
    let next : ℕ = c.in_ok-first-in-For.next in
    let a : r.Part = resolved_part c.in_ok-first-in-For.first in
    let k : Option raw_tree.Expr = option_map raw_view.expr_of c.in-For.test in
    let g : raw_tree.Part = raw_view.part_alone c.in-For.step in
    let x : raw_tree.Statement = raw_view.statement_of (box_value c.in-For.body) in
    let begin : walk.statement ctx (scope_of es c.args.from) c.args.slot (raw_view.statement_of c.args.raw.now) ≡ turns ctx one len next a k g x =
    ap (λ z. walk.statement ctx (scope_of es c.args.from) c.args.slot (raw_view.statement_of z)) c.in-For.is
    ∙ for_next ctx es one c.args.from c.args.slot next len c.in-For.first c.in-For.test c.in-For.step c.in-For.body a same
    c.in_ok-first-in-For.ensures.0.gives c.in_ok-first-in-For.ensures.1.entries c.in_ok-first-in-For.ensures.0.next in
    let d : Option r.Expr = option_map resolved_expr c.in_ok-test-in-For.test in
    let hd : walk.maybe_expr ctx (entries_of one) k ≡ Ok d = ap (λ (zs : List Entry). walk.maybe_expr ctx (entries_of zs) k) (sym c.as_slice.ensures.value) ∙ c.in_ok-test-in-For.ensures in
    let b : r.Part = resolved_part c.in_ok-step-in-For.step in
    let two : List Entry = c.part.new.entries.items in
    let last : walk.statement ctx (scope_of es c.args.from) c.args.slot (raw_view.statement_of c.args.raw.now) ≡ (walk.statement ctx (scope_of two (length two)) c.in_ok-step-in-For.next (raw_view.statement_of c.deref-in-For.result.now) >>= λ (z : r.Statement). Ok (r.for_all a d b z)) =
    begin
    ∙ turns_body ctx one two len next c.in_ok-step-in-For.next a k g x (raw_view.statement_of c.deref-in-For.result.now) d b hd
    c.in_ok-step-in-For.ensures.0.gives c.in_ok-step-in-For.ensures.0.next c.in_ok-step-in-For.ensures.1 (ap raw_view.statement_of c.deref-in-For.ensures) in
    outcome_passed _ _ _ _ _ _ c.from_residual-in_err-body-in-For.ensures c.in_err-body-in-For.ensures (λ f h. last ∙ rw h refl)

pub plain_statement-returns-in_ok-body-in-For : goal.plain_statement-returns-in_ok-body-in-For
plain_statement-returns-in_ok-body-in-For t c =
    let ctx : Context = context_of c.args.context.now in
    let es : List Entry = c.args.entries.now.items in
    let same : c.len-len.result ≡ length es = first_of (search rules, grind (arith, common_steps)) in
    let one : List Entry = c.first_part.new.entries.items in
    let len : ℕ = c.len-len.result in
    let next : ℕ = c.in_ok-first-in-For.next in
    let a : r.Part = resolved_part c.in_ok-first-in-For.first in
    let k : Option raw_tree.Expr = option_map raw_view.expr_of c.in-For.test in
    let g : raw_tree.Part = raw_view.part_alone c.in-For.step in
    let x : raw_tree.Statement = raw_view.statement_of (box_value c.in-For.body) in
    let begin : walk.statement ctx (scope_of es c.args.from) c.args.slot (raw_view.statement_of c.args.raw.now) ≡ turns ctx one len next a k g x =
    ap (λ z. walk.statement ctx (scope_of es c.args.from) c.args.slot (raw_view.statement_of z)) c.in-For.is
    ∙ for_next ctx es one c.args.from c.args.slot next len c.in-For.first c.in-For.test c.in-For.step c.in-For.body a same
    c.in_ok-first-in-For.ensures.0.gives c.in_ok-first-in-For.ensures.1.entries c.in_ok-first-in-For.ensures.0.next in
    let d : Option r.Expr = option_map resolved_expr c.in_ok-test-in-For.test in
    let hd : walk.maybe_expr ctx (entries_of one) k ≡ Ok d = ap (λ (zs : List Entry). walk.maybe_expr ctx (entries_of zs) k) (sym c.as_slice.ensures.value) ∙ c.in_ok-test-in-For.ensures in
    let b : r.Part = resolved_part c.in_ok-step-in-For.step in
    let two : List Entry = c.part.new.entries.items in
    let last : walk.statement ctx (scope_of es c.args.from) c.args.slot (raw_view.statement_of c.args.raw.now) ≡ (walk.statement ctx (scope_of two (length two)) c.in_ok-step-in-For.next (raw_view.statement_of c.deref-in-For.result.now) >>= λ (z : r.Statement). Ok (r.for_all a d b z)) =
    begin
    ∙ turns_body ctx one two len next c.in_ok-step-in-For.next a k g x (raw_view.statement_of c.deref-in-For.result.now) d b hd
    c.in_ok-step-in-For.ensures.0.gives c.in_ok-step-in-For.ensures.0.next c.in_ok-step-in-For.ensures.1 (ap raw_view.statement_of c.deref-in-For.ensures) in
    let what : raw_view.statement_of c.args.raw.now ≡ raw_tree.for_all (raw_view.part_alone c.in-For.first) k g x =
    ap raw_view.statement_of c.in-For.is ∙ raw_for_is c.in-For.first c.in-For.test c.in-For.step c.in-For.body in
    let n1 : next ≡ c.args.slot + walk.locals_part (raw_view.part_alone c.in-For.first) = c.in_ok-first-in-For.ensures.0.next in
    let n2 : c.in_ok-step-in-For.next ≡ next + walk.locals_part g = c.in_ok-step-in-For.ensures.0.next in
    let n3 : c.in_ok-body-in-For.next ≡ c.in_ok-step-in-For.next + walk.locals_of x = c.in_ok-body-in-For.ensures.0.next ∙ ap (λ (y : RawStatement). c.in_ok-step-in-For.next + walk.locals_of (raw_view.statement_of y)) c.deref-in-For.ensures in
    let n4 : walk.locals_of (raw_view.statement_of c.args.raw.now) ≡ walk.locals_part (raw_view.part_alone c.in-For.first) + walk.locals_part g + walk.locals_of x = ap walk.locals_of what in (
      record {
        gives = last ∙ rw c.in_ok-body-in-For.ensures.0.gives (ap Ok (sym c.for_all.ensures));
        next = omega (arith, n1, n2, n3, n4);
        few = c.in_ok-body-in-For.ensures.0.few;
      },
      after_same c.args.entries.now c.truncate.new.self _
          (c.truncate.ensures.items ∙ ap (λ j. take j c.inner.new.entries.items) same ∙ ap (take (length es)) (c.in_ok-body-in-For.ensures.1 ∙ c.in_ok-step-in-For.ensures.1) ∙ c.in_ok-first-in-For.ensures.1.kept)
          (ap (λ z. (walk.after ctx.heads (scope_of es c.args.from) c.args.slot z (resolved_statement c.for_all.result)).entries) what),
    )

pub statement-returns-in-Block : goal.statement-returns-in-Block
statement-returns-in-Block t c =
    let ctx : Context = context_of c.args.context.now in
    let es : List Entry = c.args.entries.now.items in
    let what : raw_tree.block (raw_view.body_list c.as_slice.result.now) ≡ raw_view.statement_of c.args.raw.now =
    ap (λ (xs : List RawStatement). raw_tree.block (raw_view.body_list xs)) c.as_slice.ensures.value ∙ sym (ap raw_view.statement_of c.in-Block.is ∙ raw_block_is c.in-Block.list) in
    let go : raw_tree.Statement → Outcome r.Statement = λ x. record { found = walk.statement ctx (scope_of es c.args.from) c.args.slot x; next = c.args.slot + walk.locals_of x; most = c.args.context.now.params + 64 } in
    outcome_same _ _ _ _ _ _ (ap go what) (λ x same. after_same c.args.entries.now c.block.new.entries _ same (ap (λ z. (walk.after ctx.heads (scope_of es c.args.from) c.args.slot z (resolved_statement x)).entries) (sym what))) c.block.ensures

pub statement-returns-in_err-found-in-If : goal.statement-returns-in_err-found-in-If
statement-returns-in_err-found-in-If t c =
    let ctx : Context = context_of c.args.context.now in
    let es : List Entry = c.args.entries.now.items in
    let k : raw_tree.Cond = raw_view.cond_of c.in-If.cond in
    let x : raw_tree.Statement = raw_view.statement_of (box_value c.in-If.yes) in
    let g : raw_tree.Part = raw_view.part_alone c.in-If.no in
    let what : raw_view.statement_of c.args.raw.now ≡ raw_tree.if_so k x g =
    ap raw_view.statement_of c.in-If.is ∙ raw_if_is c.in-If.cond c.in-If.yes c.in-If.no in
    let begin : walk.statement ctx (scope_of es c.args.from) c.args.slot (raw_view.statement_of c.args.raw.now) ≡ branches ctx es c.args.slot k x g =
    ap (walk.statement ctx (scope_of es c.args.from) c.args.slot) what ∙ walk_if ctx es c.args.from c.args.slot k x g in
    outcome_passed _ _ _ _ _ _ c.from_residual.ensures c.in_err-found-in-If.ensures
    (λ f h. let at : walk.cond ctx (entries_of es) k ≡ Err f = ap (λ (zs : List Entry). walk.cond ctx (entries_of zs) k) (sym c.as_slice-in-If.ensures.value) ∙ h in
    begin ∙ rw at refl)

pub statement-returns-in_err-yes-in-If : goal.statement-returns-in_err-yes-in-If
statement-returns-in_err-yes-in-If t c =
    let ctx : Context = context_of c.args.context.now in
    let es : List Entry = c.args.entries.now.items in
    let k : raw_tree.Cond = raw_view.cond_of c.in-If.cond in
    let x : raw_tree.Statement = raw_view.statement_of c.deref.result.now in
    let g : raw_tree.Part = raw_view.part_alone c.in-If.no in
    let what : raw_view.statement_of c.args.raw.now ≡ raw_tree.if_so k x g =
    ap raw_view.statement_of c.in-If.is ∙ raw_if_is c.in-If.cond c.in-If.yes c.in-If.no ∙ ap (λ (y : RawStatement). raw_tree.if_so k (raw_view.statement_of y) g) (sym c.deref.ensures) in
    let begin : walk.statement ctx (scope_of es c.args.from) c.args.slot (raw_view.statement_of c.args.raw.now) ≡ branches ctx es c.args.slot k x g =
    ap (walk.statement ctx (scope_of es c.args.from) c.args.slot) what ∙ walk_if ctx es c.args.from c.args.slot k x g in
    let hc : walk.cond ctx (entries_of es) k ≡ Ok (resolved_cond c.in_ok-found-in-If.found) = ap (λ (zs : List Entry). walk.cond ctx (entries_of zs) k) (sym c.as_slice-in-If.ensures.value) ∙ c.in_ok-found-in-If.ensures in
    outcome_passed _ _ _ _ _ _ c.from_residual-in_err-yes-in-If.ensures c.in_err-yes-in-If.ensures (λ f h. begin ∙ rw (hc, h) refl)

pub statement-returns-in_err-no-in-If : goal.statement-returns-in_err-no-in-If
statement-returns-in_err-no-in-If t c =
    let ctx : Context = context_of c.args.context.now in
    let es : List Entry = c.args.entries.now.items in
    let k : raw_tree.Cond = raw_view.cond_of c.in-If.cond in
    let x : raw_tree.Statement = raw_view.statement_of c.deref.result.now in
    let g : raw_tree.Part = raw_view.part_alone c.in-If.no in
    let what : raw_view.statement_of c.args.raw.now ≡ raw_tree.if_so k x g =
    ap raw_view.statement_of c.in-If.is ∙ raw_if_is c.in-If.cond c.in-If.yes c.in-If.no ∙ ap (λ (y : RawStatement). raw_tree.if_so k (raw_view.statement_of y) g) (sym c.deref.ensures) in
    let begin : walk.statement ctx (scope_of es c.args.from) c.args.slot (raw_view.statement_of c.args.raw.now) ≡ branches ctx es c.args.slot k x g =
    ap (walk.statement ctx (scope_of es c.args.from) c.args.slot) what ∙ walk_if ctx es c.args.from c.args.slot k x g in
    let hc : walk.cond ctx (entries_of es) k ≡ Ok (resolved_cond c.in_ok-found-in-If.found) = ap (λ (zs : List Entry). walk.cond ctx (entries_of zs) k) (sym c.as_slice-in-If.ensures.value) ∙ c.in_ok-found-in-If.ensures in
    let hy : walk.statement ctx (inner_scope (here.branch_scope c.args.context.now c.args.entries.now 0 c.in-If.cond c.in_ok-found-in-If.found)) c.args.slot x ≡ Ok (resolved_statement (box_value c.in_ok-yes-in-If.yes)) = c.in_ok-yes-in-If.ensures.0.gives in
    let two : List Entry = c.branch-alloc.new.entries.items in
    let long : c.len-len.result ≡ length two = first_of (search rules, grind (arith, common_steps)) in
    let other : walk.part ctx (scope_of es (length es)) (c.args.slot + walk.locals_of x) g ≡ walk.part ctx (scope_of two c.len-len.result) c.in_ok-yes-in-If.next g =
    else_is ctx es two c.len-len.result c.in_ok-yes-in-If.next (c.args.slot + walk.locals_of x) g c.in_ok-yes-in-If.ensures.1 long c.in_ok-yes-in-If.ensures.0.next in
    outcome_passed _ _ _ _ _ _ c.from_residual-in_err-no-in-If.ensures c.in_err-no-in-If.ensures (λ f h. begin ∙ rw (hc, hy, other, h) refl)

pub statement-returns-in_ok-no-in-If : goal.statement-returns-in_ok-no-in-If
statement-returns-in_ok-no-in-If t c =
    let ctx : Context = context_of c.args.context.now in
    let es : List Entry = c.args.entries.now.items in
    let k : raw_tree.Cond = raw_view.cond_of c.in-If.cond in
    let x : raw_tree.Statement = raw_view.statement_of c.deref.result.now in
    let g : raw_tree.Part = raw_view.part_alone c.in-If.no in
    let what : raw_view.statement_of c.args.raw.now ≡ raw_tree.if_so k x g =
    ap raw_view.statement_of c.in-If.is ∙ raw_if_is c.in-If.cond c.in-If.yes c.in-If.no ∙ ap (λ (y : RawStatement). raw_tree.if_so k (raw_view.statement_of y) g) (sym c.deref.ensures) in
    let begin : walk.statement ctx (scope_of es c.args.from) c.args.slot (raw_view.statement_of c.args.raw.now) ≡ branches ctx es c.args.slot k x g =
    ap (walk.statement ctx (scope_of es c.args.from) c.args.slot) what ∙ walk_if ctx es c.args.from c.args.slot k x g in
    let hc : walk.cond ctx (entries_of es) k ≡ Ok (resolved_cond c.in_ok-found-in-If.found) = ap (λ (zs : List Entry). walk.cond ctx (entries_of zs) k) (sym c.as_slice-in-If.ensures.value) ∙ c.in_ok-found-in-If.ensures in
    let hy : walk.statement ctx (inner_scope (here.branch_scope c.args.context.now c.args.entries.now 0 c.in-If.cond c.in_ok-found-in-If.found)) c.args.slot x ≡ Ok (resolved_statement (box_value c.in_ok-yes-in-If.yes)) = c.in_ok-yes-in-If.ensures.0.gives in
    let two : List Entry = c.branch-alloc.new.entries.items in
    let long : c.len-len.result ≡ length two = first_of (search rules, grind (arith, common_steps)) in
    let other : walk.part ctx (scope_of es (length es)) (c.args.slot + walk.locals_of x) g ≡ walk.part ctx (scope_of two c.len-len.result) c.in_ok-yes-in-If.next g =
    else_is ctx es two c.len-len.result c.in_ok-yes-in-If.next (c.args.slot + walk.locals_of x) g c.in_ok-yes-in-If.ensures.1 long c.in_ok-yes-in-If.ensures.0.next in
    let n1 : c.in_ok-yes-in-If.next ≡ c.args.slot + walk.locals_of x = c.in_ok-yes-in-If.ensures.0.next in
    let n2 : c.in_ok-no-in-If.next ≡ c.in_ok-yes-in-If.next + walk.locals_part g = c.in_ok-no-in-If.ensures.0.next in
    let n3 : walk.locals_of (raw_view.statement_of c.args.raw.now) ≡ walk.locals_of x + walk.locals_part g = ap walk.locals_of what in (
      record {
        gives = begin ∙ rw (hc, hy, other, c.in_ok-no-in-If.ensures.0.gives) (ap Ok (sym c.if_so.ensures));
        next = omega (arith, n1, n2, n3);
        few = c.in_ok-no-in-If.ensures.0.few;
      },
      after_same c.args.entries.now c.part.new.entries _ (c.in_ok-no-in-If.ensures.1 ∙ c.in_ok-yes-in-If.ensures.1)
          (ap (λ z. (walk.after ctx.heads (scope_of es c.args.from) c.args.slot z (resolved_statement c.if_so.result)).entries) what),
    )

pub statement-returns-in_default : goal.statement-returns-in_default
statement-returns-in_default t c =
    c.plain_statement.ensures
