use Rattle.std.proofs.Common.{◌∙◌, sym, ap, List, [], map, drop}
use Rattle.std.proofs.lemmas.List.{at_drop_all}
use Rattle.ulam_tree.specs.RawViews.{param_of}
use Rattle.ulam_tree.specs.declared.raw.Param.{Param}
use Rattle.ulam_heirs.specs.Faults.{same_params}
use Rattle.ulam_heirs.proofs.Params.{params_end}
use Rattle.ulam_heirs.proofs.same.same_params.Goals as goal

pub returns : goal.returns
returns c =
    let qs : List Param = c.args.b.now in
    sym (
    c.loop-param.invariant.same
    ∙ at_drop_all (λ (zs : List Param). same_params (map param_of zs) (map param_of (drop c.loop-param.param-index qs))) c.args.a.now c.loop-param.param-index c.loop-param-test.false
    ∙ ap (λ n. same_params [] (map param_of (drop n qs))) (sym c.loop-param.invariant.index)
    ∙ params_end qs c.loop-param.index c.loop-param.invariant.fits
    )
