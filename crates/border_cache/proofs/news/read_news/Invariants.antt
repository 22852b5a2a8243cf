use Rattle.std.proofs.Common.{◌≡◌, length}
use Rattle.border_cache.specs.Accesses.{AddsSome}
use Rattle.border_cache.proofs.Refreshes.{IsNewsBelow}
use Rattle.edge_lock.specs.EndValues.{SameEnd}
use Rattle.border_cache.proofs.news.read_news.Given as goal

abbrev pub invariant-loop-word : goal.invariant-loop-word
invariant-loop-word g l = record {
  read : AddsSome l.border.edge (IsNewsBelow l.border.sites l.border.end l.masks l.word l.words) (g.D.Board.end l.fn.board) (g.D.Board.end l.board);
  long : length l.words ≡ 9;
  same : SameEnd (g.D.Board.end l.fn.board) (g.D.Board.end l.board);
  moved : g.D.Board.moved l.fn.board l.board;
}
