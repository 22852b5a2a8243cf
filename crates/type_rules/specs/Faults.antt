-- Why a program has no typed tree.
use Rattle.feast_base.specs.declared.place.Place.{Place}
use Rattle.ulam_tree.specs.Found as step

-- Each fault has its place.
pub data Fault : Type 0 where
  wrong_type : Place → Fault
  mixed_signs : Place → Fault
  not_assignable : Place → Fault
  wrong_count : Place → Fault
  bad_as : Place → Fault
  break_outside : Place → Fault
  missing_return : Place → Fault

-- what a step finds, or a fault
abbrev pub Found : Type 0 → Type 0
Found A = step.Found Fault A
