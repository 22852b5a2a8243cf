use Rattle.std.proofs.Common.{◌≡◌, ◌∙◌, refl, sym, ap, List, Err, arith, rules}
use Rattle.std.proofs.lemmas.Grind.{common_steps}
use Rattle.ulam_names.specs.BodyWalk as here
use Rattle.ulam_names.specs.declared.scope.Entry.{Entry}
use Rattle.ulam_names.proofs.Faults.{passed_on, no_room, none_ok}
use Rattle.ulam_names.proofs.parts.declare.Goals as goal

pub returns-in_err-of : goal.returns-in_err-of
returns-in_err-of c = record {
  gives =
      passed_on _ _ _ _ _ c.from_residual.ensures c.in_err-of.ensures
      (λ f h. let at : here.type_in c.args.context.now c.args.entries.now.items c.args.of.now ≡ Err f
      = ap (λ (zs : List Entry). here.type_in c.args.context.now zs c.args.of.now) (sym c.as_slice.ensures.value) ∙ h in rw at refl);
  few = none_ok _ _ _ c.from_residual.ensures;
  scope = none_ok _ _ _ c.from_residual.ensures;
  kept = none_ok _ _ _ c.from_residual.ensures;
}

pub returns-in_err-may_declare : goal.returns-in_err-may_declare
returns-in_err-may_declare c = record {
  gives =
      passed_on _ _ _ _ _ c.from_residual-in_err-may_declare.ensures c.in_err-may_declare.ensures.gives
      (λ f h. first_of (search rules, grind (arith, common_steps)));
  few = none_ok _ _ _ c.from_residual-in_err-may_declare.ensures;
  scope = none_ok _ _ _ c.from_residual-in_err-may_declare.ensures;
  kept = none_ok _ _ _ c.from_residual-in_err-may_declare.ensures;
}

pub returns-in_err-value : goal.returns-in_err-value
returns-in_err-value c = record {
  gives =
      passed_on _ _ _ _ _ c.from_residual-in_err-value.ensures c.in_err-value.ensures
      (λ f h. first_of (search rules, grind (arith, common_steps)));
  few = none_ok _ _ _ c.from_residual-in_err-value.ensures;
  scope = none_ok _ _ _ c.from_residual-in_err-value.ensures;
  kept = none_ok _ _ _ c.from_residual-in_err-value.ensures;
}

pub returns-in_err-push : goal.returns-in_err-push
returns-in_err-push c = record {
  gives = no_room _ _ _ c.from_residual-in_err-push.ensures;
  few = none_ok _ _ _ c.from_residual-in_err-push.ensures;
  scope = none_ok _ _ _ c.from_residual-in_err-push.ensures;
  kept = none_ok _ _ _ c.from_residual-in_err-push.ensures;
}
