use Rattle.std.proofs.Common.{◌≡◌, drop}
use Rattle.cell_grid.specs.Records.{replay}
use Rattle.cell_grid.proofs.grid.Grid.replay.Given as goal

abbrev pub invariant-loop-entry : goal.invariant-loop-entry
invariant-loop-entry g l = record {
  rest : replay (g.B.Behave.after l.fn.behave) l.self (drop l.entry-index l.records) ≡ replay (g.B.Behave.after l.fn.behave) l.fn.self l.records;
  width : l.self.width ≡ l.fn.self.width;
  height : l.self.height ≡ l.fn.self.height;
  live : l.self.live ≡ l.fn.self.live;
  meaning : g.B.Behave.after l.behave ≡ g.B.Behave.after l.fn.behave;
}
