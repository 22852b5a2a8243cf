use Rattle.feast_run.proofs.Missing.{noted_of}
use Rattle.feast_run.proofs.Naming.{names_of}
use Rattle.feast_run.proofs.Promised.{complete_of, exactly_of, headline_of, usage_of}
use Rattle.feast_run.proofs.top.feast.Goals as goal

pub returns : goal.returns
returns g c =
    let ends = c.call.ensures.ends in
    record {
      files = c.call.ensures.files;
      ends = ends;
      headline = headline_of _ _ _ c.call.result ends;
      usage = usage_of _ _ _ c.call.result ends;
      exactly = exactly_of _ _ _ c.call.result ends;
      names = names_of _ _ _ c.call.result ends;
      noted = noted_of _ _ _ c.call.result ends;
      complete = complete_of _ _ _ c.call.result ends;
    }
