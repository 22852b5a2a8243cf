use Rattle.std.proofs.Common.{rules}
use Rattle.stack_code.proofs.fits.fields_fit.Goals as goal

pub returns : goal.returns
returns c = search rules
