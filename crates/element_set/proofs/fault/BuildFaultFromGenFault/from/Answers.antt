use Rattle.std.proofs.Common.{ap, sym, ◌∙◌}
use Rattle.element_set.specs.Faults.{gen_fault}
use Rattle.element_set.proofs.fault.BuildFaultFromGenFault.from.Goals as goal

pub returns-in-CodeTooLong : goal.returns-in-CodeTooLong
returns-in-CodeTooLong c = c.refusal.ensures ∙ ap gen_fault (sym c.in-CodeTooLong.is)
