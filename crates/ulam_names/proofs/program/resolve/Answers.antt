use Rattle.ulam_names.specs.Files.{all_items}
use Rattle.ulam_names.proofs.Programs.{gives_is, gives_none}
use Rattle.ulam_names.proofs.program.resolve.Goals as goal

pub returns : goal.returns
returns c = record { found = c.find.ensures; is = gives_is c.find.result (all_items c.args.files.now) c.find.ensures; none = gives_none c.find.result (all_items c.args.files.now) c.find.ensures }
