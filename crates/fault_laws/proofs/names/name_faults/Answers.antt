use Rattle.ulam_names.specs.Faults.{declared_twice, unknown_name, cyclic_quark, no_behave, bad_constant, too_many, bad_width}
use Rattle.fault_laws.proofs.NamesLaw.{first_holds}
use Rattle.fault_laws.proofs.NamesExamples.{each_is_found}
use Rattle.fault_laws.proofs.names.name_faults.Goals as goal

pub returns : goal.returns
returns c = record {
  doubled = λ items p. first_holds items (declared_twice p);
  unknown = λ items p. first_holds items (unknown_name p);
  cyclic = λ items p. first_holds items (cyclic_quark p);
  behave = λ items p. first_holds items (no_behave p);
  constant = λ items p. first_holds items (bad_constant p);
  many = λ items p. first_holds items (too_many p);
  width = λ items p. first_holds items (bad_width p);
  examples = each_is_found;
}
