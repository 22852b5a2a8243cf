use Rattle.std.proofs.Common.{◌≡◌, ◌++◌, take}
use Rattle.std.specs.List.{flat_map}
use Rattle.code_file.specs.Form.{element_bytes, elements}
use Rattle.code_file.proofs.writing.push_elements.Given as goal

abbrev pub invariant-loop-k : goal.invariant-loop-k
invariant-loop-k l = l.out.items ≡ l.initial.out.items ++ flat_map element_bytes (elements (take l.k l.names) (take l.k l.codes))
