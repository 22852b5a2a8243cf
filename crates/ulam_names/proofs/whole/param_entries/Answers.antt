use Rattle.std.proofs.Common.{map, refl, ◌∙◌, arith}
use Rattle.ulam_names.specs.Shown.{head_of}
use Rattle.ulam_names.proofs.WholeClasses.{entry_on}
use Rattle.ulam_names.proofs.whole.param_entries.Goals as goal

pub loop-param-preserved : goal.loop-param-preserved
loop-param-preserved c = record {
  entries =
      c.loop-param.invariant.entries
      ∙ entry_on (map head_of c.args.heads.now) c.args.params.now c.loop-param.param-index c.loop-param.slot c.param-item.result c.loop-param.entries.items c.push.new.self.items _ c.loop-param-test.true c.param-item.is c.in_ok-push.ensures.items
      (rw (c.bytes.ensures, c.inside_local.ensures) refl);
  slot = omega (arith, c.loop-param.invariant.slot);
}
