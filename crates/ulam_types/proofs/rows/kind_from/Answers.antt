use Rattle.std.proofs.Common.{◌∙◌, sym, ap}
use Rattle.type_rules.specs.Rows.{taken_by}
use Rattle.ulam_types.proofs.rows.kind_from.Goals as goal

pub returns-in-Bits : goal.returns-in-Bits
returns-in-Bits c = sym (ap taken_by (sym c.class_of.ensures ∙ c.in-Bits.is))
