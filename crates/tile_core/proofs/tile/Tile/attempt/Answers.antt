use Rattle.std.proofs.Common.{◌+◌, sym, ap, ◌∙◌, subst}
use Rattle.border_cache.specs.Copies.{IsEndOf}
use Rattle.tile_core.specs.Kept.{value_of}
use Rattle.tile_core.specs.Underway.{GoesFar, IsSome, tile_at}
use Rattle.tile_core.proofs.tile.Tile.attempt.Goals as goal

pub attempt-requires-clause-ready : goal.attempt-requires-clause-ready
attempt-requires-clause-ready g c =
    let v = c.args.self.now in
    let m = c.args.map.now in
    let f = c.self.inside in
    let end = g.D.Board.end c.args.board.now in
    let some = subst (λ k. IsSome k (g.B.Behave.after v.behave) v.core end.lists) (sym c.requires.map) c.requires.underway in
    let board = subst (λ k. IsEndOf k v.core.number end) (sym c.requires.map) c.requires.board in
    record {
      underway = subst (λ x. IsSome m (g.B.Behave.after x.behave) x.core end.lists) (sym c.self.view_is) some;
      board = subst (λ x. IsEndOf m x.core.number end) (sym c.self.view_is) board;
      room = c.self.invariant;
    }

pub attempt-requires-clause-draw : goal.attempt-requires-clause-draw
attempt-requires-clause-draw g c = ap (λ x. x.core.phase) c.self.view_is ∙ c.requires.draw

pub returns-clause-far : goal.returns-clause-far
returns-clause-far g c =
    let v = c.args.self.now in
    let m = c.args.map.now in
    let f = c.self.inside in
    let end = g.D.Board.end c.args.board.now in
    let a = end.lists in
    let b = (g.D.Board.end c.attempt.new.board).lists in
    let new = value_of c.attempt.new.self in
    let far = subst (λ k. GoesFar k (g.B.Behave.after f.behave) (tile_at (value_of f.state) a) (tile_at new b)) c.requires.map c.attempt.ensures.far in
    subst (λ x. GoesFar v.core.cache.map (g.B.Behave.after x.behave) (tile_at x.core a) (tile_at new b)) c.self.view_is far

pub returns-clause-taken : goal.returns-clause-taken
returns-clause-taken g c = c.attempt.ensures.taken ∙ ap (λ x. x.core.taken + 1) c.self.view_is

pub returns-clause-number : goal.returns-clause-number
returns-clause-number g c = c.attempt.ensures.number ∙ ap (λ x. x.core.number) c.self.view_is

pub returns-clause-map : goal.returns-clause-map
returns-clause-map g c =
    let v = c.args.self.now in
    let m = c.args.map.now in
    let f = c.self.inside in
    let end = g.D.Board.end c.args.board.now in
    let a = end.lists in
    let b = (g.D.Board.end c.attempt.new.board).lists in
    let new = value_of c.attempt.new.self in
    let far = subst (λ k. GoesFar k (g.B.Behave.after f.behave) (tile_at (value_of f.state) a) (tile_at new b)) c.requires.map c.attempt.ensures.far in
    let q = c.requires.underway in
    (subst (λ x. GoesFar v.core.cache.map (g.B.Behave.after x.behave) (tile_at x.core a) (tile_at new b)) c.self.view_is far q.0 q.1 q.2).map
