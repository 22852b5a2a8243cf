-- Why there is no resolution.
use Rattle.feast_base.specs.declared.place.Place.{Place}
use Rattle.ulam_tree.specs.Found as step

-- Each has the place at which it stands.
pub data Fault : Type 0 where
  declared_twice : Place → Fault
  unknown_name : Place → Fault
  cyclic_quark : Place → Fault
  no_behave : Place → Fault
  bad_constant : Place → Fault
  too_many : Place → Fault
  bad_width : Place → Fault

-- what a step finds, or a fault
abbrev pub Found : Type 0 → Type 0
Found A = step.Found Fault A
