use Rattle.ulam_types.proofs.Classes.{some_typed, no_fault, one_program}
use Rattle.ulam_types.proofs.law.one_typing.Goals as goal

pub returns : goal.returns
returns c = record { some = some_typed; none = λ program tree. no_fault program tree.0 tree.1; one = one_program }
