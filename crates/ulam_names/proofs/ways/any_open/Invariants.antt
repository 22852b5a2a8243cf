use Rattle.std.proofs.Common.{◌≡◌, drop}
use Rattle.std.specs.List.{list_any}
use Rattle.ulam_names.proofs.ways.any_open.Given as goal

abbrev pub invariant-loop-mark : goal.invariant-loop-mark
invariant-loop-mark l = list_any (λ b. b) l.row ≡ list_any (λ b. b) (drop l.mark-index l.row)
