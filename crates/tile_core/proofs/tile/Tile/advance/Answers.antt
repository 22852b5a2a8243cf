use Rattle.std.proofs.Common.{ap, ◌∙◌, subst}
use Rattle.tile_map.specs.Laws.{IsPlane}
use Rattle.tile_core.specs.Kept.{value_of}
use Rattle.tile_core.specs.Steps.{StepsIn, rules_of}
use Rattle.tile_core.proofs.Advance.{steps_on, same_number, same_map}
use Rattle.tile_core.specs.Underway.{tile_at}
use Rattle.tile_core.proofs.tile.Tile.advance.Goals as goal

pub returns-clause-on : goal.returns-clause-on
returns-clause-on g c =
    let v = c.args.self.now in
    let m = v.core.cache.map in
    let a = (g.D.Board.end c.args.board.now).lists in
    let b = (g.D.Board.end c.step.new.board).lists in
    let end_of = (g.D.Board.end c.args.board.now).end_of in
    let new = value_of c.step.new.self in
    let s = subst (λ k. StepsIn (rules_of k (g.B.Behave.after c.self.inside.behave) end_of) (tile_at (value_of c.self.inside.state) a) (tile_at new b) c.self.inside.state.phase) c.requires.map c.step.ensures.step in
    steps_on m (subst IsPlane c.requires.map c.laws.ensures.plane) (g.B.Behave.after v.behave) (g.D.Board.end c.args.board.now) v.core new a b c.requires.board
    (subst (λ x. StepsIn (rules_of m (g.B.Behave.after x.behave) end_of) (tile_at x.core a) (tile_at new b) x.core.phase) c.self.view_is s)

pub returns-clause-number : goal.returns-clause-number
returns-clause-number g c =
    let v = c.args.self.now in
    let m = c.args.map.now in
    let f = c.self.inside in
    same_number m (g.B.Behave.after f.behave) (g.D.Board.end c.args.board.now).end_of (value_of f.state) (value_of c.step.new.self) (g.D.Board.end c.args.board.now).lists (g.D.Board.end c.step.new.board).lists f.state.phase c.step.ensures.step
    ∙ ap (λ x. x.core.number) c.self.view_is

pub returns-clause-map : goal.returns-clause-map
returns-clause-map g c =
    let m = c.args.map.now in
    let f = c.self.inside in
    same_map m (g.B.Behave.after f.behave) (g.D.Board.end c.args.board.now).end_of (value_of f.state) (value_of c.step.new.self) (g.D.Board.end c.args.board.now).lists (g.D.Board.end c.step.new.board).lists f.state.phase c.step.ensures.step
    ∙ ap (λ x. x.core.cache.map) c.self.view_is
