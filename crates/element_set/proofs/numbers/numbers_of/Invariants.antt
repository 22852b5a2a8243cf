use Rattle.std.proofs.Common.{◌≡◌, ◌++◌, drop}
use Rattle.element_set.specs.Names.{AreNew}
use Rattle.element_set.proofs.numbers.numbers_of.Given as goal

abbrev pub invariant-loop-name : goal.invariant-loop-name
invariant-loop-name l = record {
  done : l.found ++ drop l.name-index l.names ≡ l.names;
  new : AreNew l.found (drop l.name-index l.names);
}
