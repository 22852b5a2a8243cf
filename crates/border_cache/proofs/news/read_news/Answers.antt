use Rattle.std.proofs.Common.{rules, arith, refl, [], ◌++◌, ◌<◌, ◌∙◌}
use Rattle.std.proofs.lemmas.List.{length-set}
use Rattle.border_cache.proofs.Open.{open_adds}
use Rattle.border_cache.proofs.Runs.{adds_none, adds_then}
use Rattle.border_cache.proofs.Refreshes.{news_begin, news_more_words, news_all}
use Rattle.edge_lock.proofs.BoardLaws.{same_end, same_end_here}
use Rattle.border_cache.proofs.news.read_news.Goals as goal

pub loop-word-init : goal.loop-word-init
loop-word-init g c = record {
  read = ([], adds_none (g.D.Board.end c.args.board.now).lists c.args.border.edge, news_begin c.args.border.sites c.args.border.end c.args.masks.now _);
  long = refl;
  same = same_end_here (g.D.Board.end c.args.board.now);
  moved = search rules;
}

pub read_word-requires-clause-hold : goal.read_word-requires-clause-hold
read_word-requires-clause-hold g c =
    let r = c.loop-word.invariant.read in
    open_adds (g.D.Board.end c.args.board.now) (g.D.Board.end c.loop-word.board) c.args.border r.0 c.requires.hold c.loop-word.invariant.same r.1

pub loop-word-preserved : goal.loop-word-preserved
loop-word-preserved g c =
    let i = c.loop-word.invariant in
    let r = i.read in
    let q = c.read_word.ensures.read in
    let a = (g.D.Board.end c.args.board.now).lists in
    let b = (g.D.Board.end c.loop-word.board).lists in
    let d = (g.D.Board.end c.read_word.new.board).lists in
    let e = c.args.border.edge in
    let j = c.loop-word.word in
    let inside : j < 9 = omega (arith, c.loop-word-test.true, c.requires.hold.few) in
    record {
      read = (
        r.0 ++ q.0,
        adds_then a b d e r.0 q.0 c.requires.hold.held r.1 q.1,
        news_more_words c.args.border.sites c.args.border.end c.args.masks.now j c.loop-word.words c.read_word.result r.0 q.0 (c.type_inv.masks j).fits (omega (arith, inside, i.long)) r.2 q.2,
      );
      long = length-set c.loop-word.words j c.read_word.result ∙ i.long;
      same = same_end (g.D.Board.end c.args.board.now) (g.D.Board.end c.loop-word.board) (g.D.Board.end c.read_word.new.board) i.same c.read_word.ensures.same;
      moved = search rules;
    }

pub returns-clause-read : goal.returns-clause-read
returns-clause-read g c =
    let r = c.loop-word.invariant.read in
    (r.0, r.1, news_all c.args.border.sites c.args.border.end c.args.masks.now c.loop-word.word c.loop-word.words r.0 (omega (arith, c.loop-word-test.false)) r.2)
