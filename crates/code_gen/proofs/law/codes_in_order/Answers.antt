use Rattle.code_gen.proofs.ElementCodes.{code_stands, no_code_stands}
use Rattle.code_gen.proofs.law.codes_in_order.Goals as goal

pub returns : goal.returns
returns c = record { some = code_stands; none = no_code_stands }
