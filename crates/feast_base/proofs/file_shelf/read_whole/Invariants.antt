use Rattle.std.proofs.Common.{List, ℕ, ◌≡◌, ◌+◌, ◌++◌, length}
use Rattle.std.specs.Io.KnownBytes.{Consumes}
use Rattle.feast_base.proofs.file_shelf.read_whole.Given as goal

abbrev pub invariant-loop-left : goal.invariant-loop-left
invariant-loop-left g l = (taken : List ℕ) × (l.into.items ≡ l.initial.into.items ++ taken) × (length taken + l.left ≡ l.limit + 1) × Consumes (g.S.Read.remaining l.initial.file) (g.S.Read.remaining l.file) taken

abbrev pub decreases-loop-left : goal.decreases-loop-left
decreases-loop-left g l = l.left
