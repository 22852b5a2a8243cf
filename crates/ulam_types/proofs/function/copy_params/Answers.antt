use Rattle.std.proofs.Common.{◌∙◌, sym, ap, List, ◌∷◌, ◌++◌, ◌+◌, drop, map}
use Rattle.std.proofs.lemmas.List.{at_drop_more}
use Rattle.ulam_tree.specs.Raw.{Word}
use Rattle.ulam_tree.specs.Resolved as r
use Rattle.ulam_tree.specs.ResolvedViews.{resolved_param}
use Rattle.ulam_tree.specs.declared.resolved.Param.{Param}
use Rattle.ulam_types.proofs.Lists.{one_more}
use Rattle.ulam_types.proofs.function.copy_params.Goals as goal

pub loop-param-preserved : goal.loop-param-preserved
loop-param-preserved c =
    let xs : List Param = c.args.params.now in
    let item : Param = c.param-item.result in
    let rest : List r.Param = map resolved_param (drop (c.loop-param.param-index + 1) xs) in
    let front : List r.Param = map resolved_param c.loop-param.copies.items in
    c.loop-param.invariant
    ∙ at_drop_more (λ (zs : List Param). front ++ map resolved_param zs) xs c.loop-param.param-index item c.loop-param-test.true
    ∙ ap (λ (x : Param). front ++ (resolved_param x ∷ rest)) (sym c.param-item.is)
    ∙ one_more resolved_param c.loop-param.copies.items c.push.new.self.items (record { of = item.of; word = c.in_ok-word.field-0 }) (resolved_param item) rest c.in_ok-push.ensures.items (ap (λ (w : Word). record { of = item.of; word = w }) c.in_ok-word.ensures)
