use Rattle.std.proofs.Common.{arith}
use Rattle.text_lines.specs.Forms.{one_field}
use Rattle.text_lines.proofs.Takes.{two_fields}
use Rattle.text_lines.proofs.take.one_field.Goals as goal

pub returns-in_default-Some : goal.returns-in_default-Some
unfolding one_field
returns-in_default-Some c = grind (arith, two_fields)
