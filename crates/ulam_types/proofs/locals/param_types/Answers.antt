use Rattle.std.proofs.Common.{◌∙◌, sym, ap, List, [], ◌∷◌, ◌++◌, ◌+◌, drop, map, append_assoc}
use Rattle.std.proofs.lemmas.List.{at_drop_more}
use Rattle.ulam_tree.specs.ResolvedViews.{resolved_param}
use Rattle.ulam_tree.specs.declared.resolved.Param.{Param}
use Rattle.ulam_tree.specs.declared.resolved.Ty.{Ty}
use Rattle.type_rules.specs.Programs.{param_type}
use Rattle.ulam_types.proofs.locals.param_types.Goals as goal

pub loop-param-preserved : goal.loop-param-preserved
loop-param-preserved c =
    let xs : List Param = c.args.params.now in
    let item : Param = c.param-item.result in
    let front : List Ty = c.loop-param.types.items in
    let rest : List Ty = map param_type (map resolved_param (drop (c.loop-param.param-index + 1) xs)) in
    c.loop-param.invariant
    ∙ at_drop_more (λ (zs : List Param). front ++ map param_type (map resolved_param zs)) xs c.loop-param.param-index item c.loop-param-test.true
    ∙ ap (λ (x : Param). front ++ (param_type (resolved_param x) ∷ rest)) (sym c.param-item.is)
    ∙ sym (append_assoc front (param_type (resolved_param item) ∷ []) rest)
    ∙ ap (λ (zs : List Ty). zs ++ rest) (sym c.in_ok-push.ensures.items)
