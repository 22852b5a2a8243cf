use Rattle.std.proofs.Common.{rules}
use Rattle.bit_field.proofs.Atom.kind.Goals as goal

pub returns : goal.returns
returns c = search rules
