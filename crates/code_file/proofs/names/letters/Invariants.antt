use Rattle.std.proofs.Common.{◌≡◌, ◌-◌, ◌≤◌, drop, length, take}
use Rattle.code_file.specs.Reading.{letters_at}
use Rattle.code_file.proofs.Loops.{letters_from}
use Rattle.code_file.proofs.names.letters.Given as goal

abbrev pub invariant-loop-place : goal.invariant-loop-place
invariant-loop-place l = record {
  within : l.place ≤ length l.bytes;
  read : letters_from l.form (l.count - l.place) (take l.place l.bytes) (drop l.place l.bytes) ≡ letters_at l.form l.count l.bytes;
}
