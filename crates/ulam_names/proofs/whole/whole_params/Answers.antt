use Rattle.std.proofs.Common.{◌∙◌, sym, ap, List, ◌∷◌, ◌++◌, ◌+◌, drop, map}
use Rattle.std.proofs.lemmas.List.{at_drop_more}
use Rattle.ulam_tree.specs.Raw as t
use Rattle.ulam_tree.specs.Resolved as r
use Rattle.ulam_tree.specs.ResolvedViews.{resolved_param}
use Rattle.ulam_names.specs.declared.half.HalfParam.{HalfParam}
use Rattle.ulam_names.specs.Shown.{param_of}
use Rattle.ulam_names.proofs.WholeClasses.{param_on}
use Rattle.ulam_names.proofs.whole.whole_params.Goals as goal

pub loop-param-preserved : goal.loop-param-preserved
loop-param-preserved c =
    let xs : List HalfParam = c.args.params.now in
    let item : HalfParam = c.param-item.result in
    let rest : List r.Param = map param_of (drop (c.loop-param.param-index + 1) xs) in
    let front : List r.Param = map resolved_param c.loop-param.whole.items in
    c.loop-param.invariant
    ∙ at_drop_more (λ (zs : List HalfParam). front ++ map param_of zs) xs c.loop-param.param-index item c.loop-param-test.true
    ∙ ap (λ (x : HalfParam). front ++ (param_of x ∷ rest)) (sym c.param-item.is)
    ∙ param_on c.loop-param.whole.items c.push.new.self.items (record { of = item.of; word = c.in_ok-copy.field-0 }) item rest c.in_ok-push.ensures.items (ap (λ (w : t.Word). record { of = item.of; word = w }) c.in_ok-copy.ensures)
