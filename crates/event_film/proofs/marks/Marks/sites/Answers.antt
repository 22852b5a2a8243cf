use Rattle.std.proofs.Common.{◌∙◌, ap, length, sym}
use Rattle.event_film.proofs.Marking.{length_marks}
use Rattle.event_film.proofs.marks.Marks.sites.Goals as goal

pub returns-clause-all : goal.returns-clause-all
returns-clause-all c = ap length (sym c.self.view_is) ∙ length_marks 41 c.self.inside.bits
