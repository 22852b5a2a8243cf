use Rattle.code_gen.proofs.ElementCodes.{all_or_first, all_nor_first, first_is_one}
use Rattle.code_gen.proofs.law.one_compiling.Goals as goal

pub returns : goal.returns
returns c = record { some = all_or_first; either = all_nor_first; one = first_is_one }
