-- The examples have their faults.
use Rattle.std.proofs.Common.{refl}
use Rattle.ulam_tree.specs.Locals.{locals}
use Rattle.type_rules.specs.Walk.{expr}
use Rattle.type_rules.specs.Bodies.{statement}
use Rattle.fault_laws.specs.TypesExample.{HasTypeExamples}

pub type_examples : HasTypeExamples
unfolding locals expr statement
type_examples = record {
  wrong_type = refl;
  mixed_signs = refl;
  not_assignable = refl;
  wrong_count = refl;
  bad_as = refl;
  break_outside = refl;
  missing_return = refl;
}
