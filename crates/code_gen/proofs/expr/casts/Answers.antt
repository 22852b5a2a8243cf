use Rattle.std.proofs.Common.{◌∷◌, [], ◌++◌, map, refl, ap, ◌∙◌}
use Rattle.ulam_tree.specs.ResolvedViews.{resolved_param}
use Rattle.ulam_meaning.specs.Programs.{param_types}
use Rattle.ulam_meaning.specs.Values.{number_type}
use Rattle.ulam_meaning.specs.Expressions as meaning
use Rattle.code_gen.proofs.Mapped.{one_mapped}
use Rattle.code_gen.proofs.expr.casts.Goals as goal

pub loop-param-preserved : goal.loop-param-preserved
loop-param-preserved c =
    let found = c.loop-param.found.items in
    let one = c.in_ok-keep_cast.ensures ∙ ap (λ r. found ++ (r ∷ [])) c.number_type.ensures in
    one_mapped (λ ps. meaning.casts (param_types (map resolved_param ps))) (λ p. number_type (resolved_param p).of.ty)
    c.args.params.now c.loop-param.param-index c.param-item.result found c.keep_cast.new.found.items _
    (λ p ps. refl) c.loop-param-test.true c.param-item.is one c.loop-param.invariant
