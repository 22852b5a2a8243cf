use Rattle.std.proofs.Common.{ℕ, ◌<◌, take}
use Rattle.journal_check.specs.Clocks.{AreClocks, HasStamp, clocks_of}
use Rattle.journal_check.proofs.stamped.first_misstamped.Given as goal

abbrev pub invariant-loop-k : goal.invariant-loop-k
invariant-loop-k l = record {
  clocks : AreClocks l.map (take l.k l.records) (clocks_of l.kept.tiles.items l.kept.edges.items);
  before : (i : ℕ) → i < l.k → HasStamp l.map l.records i;
}
