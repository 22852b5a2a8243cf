use Rattle.std.proofs.Common.{rules, [], ◌++◌, inl, inr, refl, ap, ◌∙◌}
use Rattle.edge_lock.proofs.BoardLaws.{same_end}
use Rattle.border_cache.proofs.Runs.{adds_then, adds_none, held_adds}
use Rattle.border_cache.proofs.news.put_words.Goals as goal

pub returns-then-mask-eq0-clause-put : goal.returns-then-mask-eq0-clause-put
returns-then-mask-eq0-clause-put g c =
    ([], adds_none (g.D.Board.end c.args.board.now).lists c.args.border.edge, inl (c.if-mask-eq0.true, refl))

pub put_word-requires-2-clause-hold : goal.put_word-requires-2-clause-hold
put_word-requires-2-clause-hold g c =
    let p = c.put_word.ensures.put in
    record {
      few = c.requires.hold.few;
      two = search rules;
      registers = ap (λ f. f c.args.border.edge) c.put_word.ensures.same.1 ∙ c.requires.hold.registers;
      held = held_adds (g.D.Board.end c.args.board.now).lists (g.D.Board.end c.put_word.new.board).lists c.args.border.edge p.0 c.requires.hold.held p.1;
    }

pub returns-clause-put : goal.returns-clause-put
returns-clause-put g c =
    let p = c.put_word.ensures.put in
    let q = c.put_word-2.ensures.put in
    let a = (g.D.Board.end c.args.board.now).lists in
    let b = (g.D.Board.end c.put_word.new.board).lists in
    let d = (g.D.Board.end c.put_word-2.new.board).lists in
    (p.0 ++ q.0, adds_then a b d c.args.border.edge p.0 q.0 c.requires.hold.held p.1 q.1, inr (c.if-mask-eq0.false, p.0, q.0, refl, p.2, q.2))

pub returns-clause-same : goal.returns-clause-same
returns-clause-same g c = same_end (g.D.Board.end c.args.board.now) (g.D.Board.end c.put_word.new.board) (g.D.Board.end c.put_word-2.new.board) c.put_word.ensures.same c.put_word-2.ensures.same

pub returns-clause-moved : goal.returns-clause-moved
returns-clause-moved g c = g.met.D.Board.moved_on c.args.board.now c.put_word.new.board c.put_word-2.new.board c.put_word.ensures.moved c.put_word-2.ensures.moved
