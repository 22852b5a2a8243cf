use Rattle.std.proofs.Common.{ap, ◌∙◌}
use Rattle.std.proofs.lemmas.Bool.{eq-eqb, ne_eqb}
use Rattle.plane_acts.specs.declared.schedule.Every.{Every}
use Rattle.plane_acts.specs.Schedules.{is_due}
use Rattle.plane_acts.proofs.Done.{done-next, done-same, pass-next, fail-next}
use Rattle.plane_acts.proofs.schedule.act_again.Goals as goal
use Rattle.plane_acts.proofs.schedule.act_again.Goals.{then-leg-entry-eq0, else-leg-entry-eq0}

pub loop-entry-preserved : goal.loop-entry-preserved
loop-entry-preserved c =
    let l = c.loop-entry in
    let e = c.entry-item in
    let left = c.if-leg-entry-eq0 in
    let every = c.args.every.now in
    let due = is_due c.args.leg in
    let lt = c.loop-entry-test.true in
    let old = l.invariant.plane in
    elim c.if-leg-entry-eq0.branch [
      | then-leg-entry-eq0 w ↦
          let made = w.act_on.ensures in
          let plane = made.plane in
          let next = pass-next (λ (e : Every). e.act) due every l.entry-index e.result lt e.is (eq-eqb _ 0 w.if-leg-entry-eq0.true) in
          record {
            acts = done-next _ _ e.result.act _ _ l.words l.grid left.words left.grid next l.invariant.acts (λ seed n at. w.grid-is ∙ made.grid seed n at) (λ seed n at. w.words-is ∙ made.words seed n at);
            plane = (ap (λ g. g.width) w.grid-is ∙ plane.0 ∙ old.0, ap (λ g. g.height) w.grid-is ∙ plane.1 ∙ old.1, ap (λ g. g.live) w.grid-is ∙ plane.2 ∙ old.2);
          }
      | else-leg-entry-eq0 w ↦
          let next = fail-next (λ (e : Every). e.act) due every l.entry-index e.result lt e.is (ne_eqb _ 0 w.if-leg-entry-eq0.false) in
          record {
            acts = done-same _ _ _ _ l.words l.grid left.words left.grid next w.words-is w.grid-is l.invariant.acts;
            plane = (ap (λ g. g.width) w.grid-is ∙ old.0, ap (λ g. g.height) w.grid-is ∙ old.1, ap (λ g. g.live) w.grid-is ∙ old.2);
          }
    ]
