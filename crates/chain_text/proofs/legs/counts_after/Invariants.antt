use Rattle.std.proofs.Common.{◌≡◌, drop, fold}
use Rattle.chain_text.specs.Legs.{count_by}
use Rattle.chain_text.proofs.legs.counts_after.Given as goal

abbrev pub invariant-loop-once : goal.invariant-loop-once
invariant-loop-once l = fold (count_by l.leg) l.count (drop l.once-index l.acts) ≡ fold (count_by l.leg) l.fn.count l.acts
