use Rattle.std.proofs.Common.{◌≡◌, ◌-◌, [], length}
use Rattle.code_file.specs.Reading.{elements_from}
use Rattle.code_file.proofs.elements.elements_in.Given as goal

abbrev pub invariant-loop-done : goal.invariant-loop-done
invariant-loop-done l = record {
  many : length l.elements.items ≡ l.done;
  read : elements_from l.count (l.count - l.done) l.elements.items l.rest ≡ elements_from l.count l.count [] l.bytes;
}
