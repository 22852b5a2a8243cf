use Rattle.event_film.proofs.Undoing.{undone_all}
use Rattle.event_film.proofs.law.films.Goals as goal

pub returns : goal.returns
returns c = undone_all
