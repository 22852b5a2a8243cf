use Rattle.std.proofs.Common.{◌∙◌, sym, ap, List, [], ◌∷◌, ◌++◌, ◌+◌, drop, map, append_assoc}
use Rattle.std.proofs.lemmas.List.{at_drop_more}
use Rattle.ulam_tree.specs.ResolvedViews.{resolved_param}
use Rattle.ulam_tree.specs.declared.resolved.Param.{Param}
use Rattle.type_rules.specs.declared.scope.Want.{Want}
use Rattle.type_rules.specs.Programs.{want_of}
use Rattle.ulam_types.proofs.sigs.wants.Goals as goal

pub loop-param-preserved : goal.loop-param-preserved
loop-param-preserved c =
    let xs : List Param = c.args.params.now in
    let item : Param = c.param-item.result in
    let front : List Want = c.loop-param.found.items in
    let rest : List Want = map want_of (map resolved_param (drop (c.loop-param.param-index + 1) xs)) in
    c.loop-param.invariant
    ∙ at_drop_more (λ (zs : List Param). front ++ map want_of (map resolved_param zs)) xs c.loop-param.param-index item c.loop-param-test.true
    ∙ ap (λ (x : Param). front ++ (want_of (resolved_param x) ∷ rest)) (sym c.param-item.is)
    ∙ sym (append_assoc front (want_of (resolved_param item) ∷ []) rest)
    ∙ ap (λ (zs : List Want). zs ++ rest) (sym c.in_ok-push.ensures.items)
