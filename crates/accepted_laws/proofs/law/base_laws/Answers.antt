use Rattle.accepted_laws.proofs.Accepted.{have_trees}
use Rattle.accepted_laws.proofs.Calls.{calls_nearest}
use Rattle.accepted_laws.proofs.Examples.{has_example}
use Rattle.accepted_laws.proofs.Members.{has_members, heir_is}
use Rattle.accepted_laws.proofs.Rows.{numbers}
use Rattle.accepted_laws.specs.Accepted.{heirs}
use Rattle.accepted_laws.proofs.law.base_laws.Goals as goal

pub returns : goal.returns
returns c = record {
  accepted = have_trees;
  numbers = numbers;
  members = λ x heir base has.
      let own = heir_is (heirs x) has.0 heir base has.1 in
      has_members x heir base own.0 own.1 (c.base_in_front.ensures.front (heirs x) heir base (record { sound = c.one_line.ensures.sound (heirs x) x.sound; has_base = has }));
  calls = calls_nearest;
  example = has_example;
}
