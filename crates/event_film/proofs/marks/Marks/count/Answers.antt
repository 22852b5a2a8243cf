use Rattle.std.proofs.Common.{◌∙◌, ap}
use Rattle.event_film.specs.Marks.{marked}
use Rattle.event_film.proofs.Marking.{marked_ones}
use Rattle.event_film.proofs.marks.Marks.count.Goals as goal

pub returns : goal.returns
returns c = marked_ones 41 c.self.inside.bits c.self.invariant ∙ ap marked c.self.view_is
