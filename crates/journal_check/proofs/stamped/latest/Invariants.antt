use Rattle.std.proofs.Common.{◌≡◌, fold, max, take}
use Rattle.std.specs.Prelude.{slice_index}
use Rattle.journal_check.proofs.stamped.latest.Given as goal

abbrev pub invariant-loop-i : goal.invariant-loop-i
invariant-loop-i l = l.latest ≡ fold (λ a e. max a (slice_index l.clocks e)) l.start (take l.i l.needs)
