use Rattle.type_rules.specs.Faults as fault
use Rattle.fault_laws.proofs.TypesExamples.{type_examples}
use Rattle.fault_laws.proofs.TypesPrograms.{type_fault}
use Rattle.fault_laws.proofs.types.type_faults.Goals as goal

pub returns : goal.returns
returns c = record {
  wrong_type = λ program place e. type_fault program (fault.wrong_type place) e;
  mixed_signs = λ program place e. type_fault program (fault.mixed_signs place) e;
  not_assignable = λ program place e. type_fault program (fault.not_assignable place) e;
  wrong_count = λ program place e. type_fault program (fault.wrong_count place) e;
  bad_as = λ program place e. type_fault program (fault.bad_as place) e;
  break_outside = λ program place e. type_fault program (fault.break_outside place) e;
  missing_return = λ program place e. type_fault program (fault.missing_return place) e;
  example = type_examples;
}
