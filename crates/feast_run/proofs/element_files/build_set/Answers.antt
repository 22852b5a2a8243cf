use Rattle.std.proofs.Common.{rules}
use Rattle.feast_run.proofs.element_files.build_set.Goals as goal

pub returns-in-Err-Refused : goal.returns-in-Err-Refused
returns-in-Err-Refused c = search rules
