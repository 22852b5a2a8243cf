use Rattle.std.proofs.Common.{◌≡◌, ◌∙◌, sym, ap, List, arith}
use Rattle.ulam_names.specs.Walk as walk
use Rattle.ulam_names.specs.BodyWalk as here
use Rattle.ulam_names.specs.Shown.{context_of, scope_of}
use Rattle.ulam_names.specs.Scopes.{Scope}
use Rattle.ulam_names.specs.declared.scope.Entry.{Entry}
use Rattle.ulam_tree.specs.RawViews as raw_view
use Rattle.ulam_tree.specs.ResolvedViews.{resolved_statement}
use Rattle.ulam_names.proofs.Outcomes.{outcome_passed}
use Rattle.ulam_names.proofs.leaf.leaf.Goals as goal

pub returns-in_err-found-in-Declare : goal.returns-in_err-found-in-Declare
returns-in_err-found-in-Declare c =
    outcome_passed _ _ _ _ _ _ c.from_residual.ensures c.in_err-found-in-Declare.ensures.gives
    (λ f h. ap (λ z. here.statement c.args.context.now c.args.entries.now c.args.from c.args.slot z) c.in-Declare.is ∙ h)

pub returns-in_err-found-in_default : goal.returns-in_err-found-in_default
returns-in_err-found-in_default c =
    outcome_passed _ _ _ _ _ _ c.from_residual-in_err-found-in_default.ensures (c.in_err-found-in_default.ensures c.args.from c.args.slot)
    (λ f h. ap (λ (es : List Entry). walk.statement (context_of c.args.context.now) (scope_of es c.args.from) c.args.slot (raw_view.statement_of c.args.raw.now)) (sym c.as_slice.ensures.value) ∙ h)

pub returns-in_ok-found-in-Declare : goal.returns-in_ok-found-in-Declare
returns-in_ok-found-in-Declare c =
    let s : Scope = scope_of c.args.entries.now.items c.args.from in
    let one : walk.locals_of (raw_view.statement_of c.args.raw.now) ≡ 1 = ap (λ z. walk.locals_of (raw_view.statement_of z)) c.in-Declare.is in (
      record {
        gives = ap (λ z. here.statement c.args.context.now c.args.entries.now c.args.from c.args.slot z) c.in-Declare.is ∙ c.in_ok-found-in-Declare.ensures.gives;
        next = omega (arith, one);
        few = c.in_ok-found-in-Declare.ensures.few;
      },
      record {
        entries =
            c.in_ok-found-in-Declare.ensures.scope
            ∙ sym (ap (λ z. (walk.after (context_of c.args.context.now).heads s c.args.slot (raw_view.statement_of z) (resolved_statement c.in_ok-found-in-Declare.found)).entries) c.in-Declare.is);
        kept = c.in_ok-found-in-Declare.ensures.kept;
      },
    )
