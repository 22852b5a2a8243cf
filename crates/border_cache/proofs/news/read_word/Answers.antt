use Rattle.std.proofs.Common.{[], ◌∷◌, inl, inr, refl, ap}
use Rattle.edge_lock.specs.declared.history.Access.TheVariants.{Read}
use Rattle.border_cache.proofs.Runs.{adds_read, adds_none}
use Rattle.border_cache.proofs.news.read_word.Goals as goal

pub returns-then-mask-eq0-clause-read : goal.returns-then-mask-eq0-clause-read
returns-then-mask-eq0-clause-read g c =
    ([], adds_none (g.D.Board.end c.args.board.now).lists c.args.border.edge, inl (c.if-mask-eq0.true, refl, refl))

pub returns-clause-read : goal.returns-clause-read
returns-clause-read g c =
    let a = (g.D.Board.end c.args.board.now).lists in
    let b = (g.D.Board.end c.read.new.self).lists in
    let w = c.news_word.result in
    let v = c.read.result in (
      Read w v ∷ [],
      adds_read a b c.args.border.edge w v c.read.ensures.change.lists c.read.ensures.value,
      inr (c.if-mask-eq0.false, v, ap (λ r. Read r v ∷ []) c.news_word.ensures.value, refl),
    )
