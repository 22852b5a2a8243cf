use Rattle.std.proofs.Common.{◌≡◌, drop}
use Rattle.feast_base.specs.Outside.{file_of}
use Rattle.feast_base.proofs.mem_shelf.file_of.Given as goal

abbrev pub invariant-loop-file : goal.invariant-loop-file
invariant-loop-file l = file_of l.name (drop l.file-index l.files) ≡ file_of l.name l.files
