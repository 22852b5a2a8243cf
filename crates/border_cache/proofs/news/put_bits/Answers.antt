use Rattle.std.proofs.Common.{rules, arith, [], ◌++◌}
use Rattle.border_cache.proofs.Open.{open_adds}
use Rattle.border_cache.proofs.Runs.{adds_none, adds_then}
use Rattle.border_cache.proofs.Marks.{bits_begin, bits_more, bits_all}
use Rattle.edge_lock.proofs.BoardLaws.{same_end, same_end_here}
use Rattle.border_cache.proofs.news.put_bits.Goals as goal

pub loop-word-init : goal.loop-word-init
loop-word-init g c = record {
  put = ([], adds_none (g.D.Board.end c.args.board.now).lists c.args.border.edge, bits_begin c.args.border.sites c.args.border.end c.args.masks.now);
  same = same_end_here (g.D.Board.end c.args.board.now);
  moved = search rules;
}

pub put_words-requires-clause-hold : goal.put_words-requires-clause-hold
put_words-requires-clause-hold g c =
    let r = c.loop-word.invariant.put in
    open_adds (g.D.Board.end c.args.board.now) (g.D.Board.end c.loop-word.board) c.args.border r.0 c.requires.hold c.loop-word.invariant.same r.1

pub loop-word-preserved : goal.loop-word-preserved
loop-word-preserved g c =
    let i = c.loop-word.invariant in
    let r = i.put in
    let q = c.put_words.ensures.put in
    let a = (g.D.Board.end c.args.board.now).lists in
    let b = (g.D.Board.end c.loop-word.board).lists in
    let d = (g.D.Board.end c.put_words.new.board).lists in
    let e = c.args.border.edge in
    let j = c.loop-word.word in
    record {
      put = (
        r.0 ++ q.0,
        adds_then a b d e r.0 q.0 c.requires.hold.held r.1 q.1,
        bits_more c.args.border.sites c.args.border.end c.args.masks.now j r.0 q.0 c.requires.hold.two (omega (arith, c.loop-word-test.true)) (c.type_inv.masks j).fits r.2 q.2,
      );
      same = same_end (g.D.Board.end c.args.board.now) (g.D.Board.end c.loop-word.board) (g.D.Board.end c.put_words.new.board) i.same c.put_words.ensures.same;
      moved = search rules;
    }

pub returns-clause-put : goal.returns-clause-put
returns-clause-put g c =
    let r = c.loop-word.invariant.put in
    (r.0, r.1, bits_all c.args.border.sites c.args.border.end c.args.masks.now c.loop-word.word r.0 c.requires.hold.two (omega (arith, c.loop-word-test.false)) r.2)
