use Rattle.std.proofs.Common.{List, map, subst, ap, ◌∙◌}
use Rattle.std.specs.Prelude.{filter}
use Rattle.std.proofs.lemmas.List.Elements.{All-filter}
use Rattle.plane_acts.specs.declared.schedule.Every.{Every}
use Rattle.plane_acts.specs.declared.schedule.Once.{Once}
use Rattle.plane_acts.specs.Acts.{IsActOn}
use Rattle.plane_acts.specs.Schedules.{ScheduleValue, is_due, is_of}
use Rattle.plane_acts.specs.Steps.{AreDone}
use Rattle.plane_acts.proofs.Done.{done-both}
use Rattle.plane_acts.proofs.schedule.Schedule.act_before.Goals as goal

pub act_each-requires : goal.act_each-requires
act_each-requires c =
    let g = c.args.grid.now in
    let plane = c.act_again.ensures.plane in
    let P : Once → Type 0 = λ o. IsActOn g.width g.height o.act in
    rw (c.once_of.ensures, plane.0, plane.1) (All-filter (is_of c.args.leg) P c.args.self.now.once c.requires.1)

pub returns-clause-grid : goal.returns-clause-grid
returns-clause-grid c =
    let leg = c.args.leg in
    let s = c.args.self.now in
    let w0 = c.new-words.result in
    let g0 = c.args.grid.now in
    let w1 = c.act_again.new.words in
    let g1 = c.act_again.new.grid in
    let w2 = c.act_each.new.words in
    let g2 = c.act_each.new.grid in
    let P : List Every → Type 0 = λ l. AreDone (map (λ e. e.act) (filter (is_due leg) l)) w0 g0 w1 g1 in
    let Q : List Once → Type 0 = λ l. AreDone (map (λ o. o.act) l) w1 g1 w2 g2 in
    let first = subst P (c.as_slice.ensures.value ∙ ap (λ (s : ScheduleValue). s.every) c.self.view_is) c.act_again.ensures.acts in
    let second = subst Q c.once_of.ensures c.act_each.ensures.acts in
    done-both _ _ c.args.seed w0 g0 w1 g1 w2 g2 c.new-words.ensures first second
