use Rattle.std.proofs.Common.{rules}
use Rattle.stack_code.proofs.kind_lists.KindLists.new.Goals as goal

pub returns-clause-room : goal.returns-clause-room
returns-clause-room c = search rules
