use Rattle.std.proofs.Common.{◌≡◌, ◌≤◌}
use Rattle.code_file.specs.Reading.{number_from}
use Rattle.code_file.proofs.numbers.number.Given as goal

abbrev pub invariant-loop-left : goal.invariant-loop-left
invariant-loop-left l = record {
  read : number_from l.left l.least l.greatest l.value l.rest ≡ number_from l.width l.least l.greatest 0 l.bytes;
  range : l.value ≤ l.greatest;
}
