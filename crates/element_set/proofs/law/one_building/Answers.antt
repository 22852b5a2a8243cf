use Rattle.element_set.proofs.OneSet.{set_one}
use Rattle.element_set.proofs.SomeSet.{set_some}
use Rattle.element_set.proofs.law.one_building.Goals as goal

pub returns : goal.returns
returns c = record {
  some = set_some;
  set = λ files. (set_one files).one_value;
  refusal = λ files a b. (set_one files).sure.one_halt a b tt tt;
  either = λ files s r. (set_one files).sure.apart s r tt;
}
