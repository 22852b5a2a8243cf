use Rattle.std.proofs.Common.{refl}
use Rattle.report_text.proofs.write_fault.WriteFaultFromSinkFailed.from.Goals as goal

pub returns : goal.returns
returns c = refl
