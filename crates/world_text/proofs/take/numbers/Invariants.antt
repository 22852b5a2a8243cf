use Rattle.std.proofs.Common.{◌≡◌, ◌++◌, option_map, option_copied}
use Rattle.text_lines.specs.Fields.{args_of, size_of}
use Rattle.world_text.specs.Forms.{numbers_of}
use Rattle.world_text.proofs.take.numbers.Given as goal

abbrev pub invariant-loop-left : goal.invariant-loop-left
invariant-loop-left l = option_map (λ ns. l.found.items ++ ns) (numbers_of (args_of (option_copied l.left))) ≡ numbers_of (args_of (option_copied l.args))

abbrev pub decreases-loop-left : goal.decreases-loop-left
decreases-loop-left l = size_of (option_copied l.left)
