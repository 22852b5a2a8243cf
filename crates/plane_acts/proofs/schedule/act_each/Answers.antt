use Rattle.std.proofs.Common.{◌∙◌}
use Rattle.plane_acts.specs.declared.schedule.Once.{Once}
use Rattle.plane_acts.proofs.Done.{done-next, map-next}
use Rattle.plane_acts.proofs.schedule.act_each.Goals as goal

pub loop-entry-preserved : goal.loop-entry-preserved
loop-entry-preserved c =
    let l = c.loop-entry in
    let e = c.entry-item in
    let made = c.act_on.ensures in
    let plane = made.plane in
    let old = l.invariant.plane in
    record {
      acts = done-next _ _ e.result.act _ _ l.words l.grid _ _ (map-next (λ (o : Once). o.act) c.args.once.now l.entry-index e.result c.loop-entry-test.true e.is) l.invariant.acts made.grid made.words;
      plane = (plane.0 ∙ old.0, plane.1 ∙ old.1, plane.2 ∙ old.2);
    }
