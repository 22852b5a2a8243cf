use Rattle.std.proofs.Common.{map, refl}
use Rattle.ulam_tree.specs.ResolvedViews.{resolved_param}
use Rattle.ulam_meaning.specs.Programs.{param_types}
use Rattle.code_gen.proofs.Mapped.{one_mapped}
use Rattle.code_gen.proofs.locals.push_params.Goals as goal

pub loop-param-preserved : goal.loop-param-preserved
loop-param-preserved c =
    one_mapped (λ ps. param_types (map resolved_param ps)) (λ p. (resolved_param p).of.ty)
    c.args.params.now c.loop-param.param-index c.param-item.result c.loop-param.types.items c.keep.new.types.items _
    (λ p ps. refl) c.loop-param-test.true c.param-item.is c.in_ok-keep.ensures c.loop-param.invariant
