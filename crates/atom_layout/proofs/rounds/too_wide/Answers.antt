use Rattle.std.proofs.Common.{rules}
use Rattle.atom_layout.proofs.rounds.too_wide.Goals as goal

pub returns-then-bits-gt32 : goal.returns-then-bits-gt32
returns-then-bits-gt32 c = search rules

pub returns-then-bits-from : goal.returns-then-bits-from
returns-then-bits-from c = search rules
