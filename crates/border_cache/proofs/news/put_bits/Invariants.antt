use Rattle.border_cache.specs.Accesses.{AddsSome}
use Rattle.border_cache.proofs.Marks.{AreBitsBelow}
use Rattle.edge_lock.specs.EndValues.{SameEnd}
use Rattle.border_cache.proofs.news.put_bits.Given as goal

abbrev pub invariant-loop-word : goal.invariant-loop-word
invariant-loop-word g l = record {
  put : AddsSome l.border.edge (AreBitsBelow l.border.sites l.border.end l.masks l.word) (g.D.Board.end l.fn.board) (g.D.Board.end l.board);
  same : SameEnd (g.D.Board.end l.fn.board) (g.D.Board.end l.board);
  moved : g.D.Board.moved l.fn.board l.board;
}
