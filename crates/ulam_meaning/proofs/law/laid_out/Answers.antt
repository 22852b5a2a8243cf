use Rattle.ulam_meaning.proofs.Layouts.{laid_out}
use Rattle.ulam_meaning.proofs.law.laid_out.Goals as goal

pub returns : goal.returns
returns c = laid_out
