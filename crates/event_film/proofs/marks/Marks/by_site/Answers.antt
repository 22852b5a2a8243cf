use Rattle.std.proofs.Common.{◌∙◌, ap, sym}
use Rattle.event_film.specs.Marks.{marks_in}
use Rattle.event_film.proofs.Marking.{marks_all}
use Rattle.event_film.proofs.marks.Marks.by_site.Goals as goal

pub returns-then-self : goal.returns-then-self
returns-then-self c = sym marks_all ∙ ap (marks_in 41) (sym c.if-self.true) ∙ c.self.view_is
