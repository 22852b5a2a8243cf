use Rattle.std.proofs.Common.{rules}
use Rattle.feast_run.proofs.element_files.load_set.Goals as goal

pub returns-in_err-sources-clause-tells : goal.returns-in_err-sources-clause-tells
returns-in_err-sources-clause-tells g c = search rules
