use Rattle.ulam_heirs.specs.declared.fault.HeirsFault.TheVariants as fault
use Rattle.fault_laws.proofs.BasesFaults.{base_fault}
use Rattle.fault_laws.proofs.BasesExamples.{base_examples}
use Rattle.fault_laws.proofs.bases.base_faults.Goals as goal

pub returns : goal.returns
returns c = record {
  not_quark = λ heirs place e. base_fault heirs (fault.NotQuark place) e;
  own_base = λ heirs place e. base_fault heirs (fault.OwnBase place) e;
  bad_override = λ heirs place e. base_fault heirs (fault.BadOverride place) e;
  no_other = λ heirs e. base_fault heirs fault.NoMemory e;
  example = base_examples;
}
