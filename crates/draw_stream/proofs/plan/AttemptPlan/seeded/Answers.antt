use Rattle.std.proofs.Common.{sym, subst}
use Rattle.draw_stream.specs.Plans.{IsPlan, seeded}
use Rattle.draw_stream.proofs.Plans.{seeded_planned}
use Rattle.draw_stream.proofs.plan.AttemptPlan.seeded.Goals as goal

pub invariant_of-result : goal.invariant_of-result
invariant_of-result c = (
  record { some = c.requires.some_sites; most = c.requires.most_sites },
  subst (λ l. IsPlan (seeded c.args.seed c.args.count l c.args.sites)) (sym c.in_ok-off.ensures.items) (seeded_planned c.args.seed c.args.count c.args.off.now c.args.sites c.requires.some_tiles c.requires.most_tiles c.requires.few),
)
