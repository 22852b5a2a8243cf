use Rattle.std.proofs.Common.{arith, ap, sym, ◌∙◌, subst}
use Rattle.border_cache.specs.Windows.{has}
use Rattle.border_cache.proofs.Needs.{has_at}
use Rattle.tile_core.specs.Kept.{value_of}
use Rattle.edge_lock.specs.EndLists.{IsHeld, HasNoWrite}
use Rattle.tile_core.proofs.Laws.{back_lt, back_held}
use Rattle.tile_core.proofs.Ready.{some_registers}
use Rattle.tile_core.proofs.state.State.back.Goals as goal

pub give_back-requires-clause-edge : goal.give_back-requires-clause-edge
give_back-requires-clause-edge g c =
    let q = c.requires.phase in
    let t = value_of c.args.self.now in
    let m = c.args.map.now in
    let lt = back_lt m q.0 q.1 q.2 t (g.D.Board.end c.args.board.now).lists q.4 q.3 in
    some_registers m t.number (g.D.Board.end c.args.board.now) c.requires.board t.needs q.4.needs.ends c.edge.result (ap (λ d. has d t.needs) c.edge.ensures ∙ has_at t.next t.needs (omega (arith, lt.0, lt.1)))

pub give_back-requires-clause-held : goal.give_back-requires-clause-held
give_back-requires-clause-held g c =
    let q = c.requires.phase in
    let a = (g.D.Board.end c.args.board.now).lists in
    subst (λ e. IsHeld (a e)) (sym c.edge.ensures) (back_held c.args.map.now q.0 q.1 q.2 (value_of c.args.self.now) a q.4 q.3).0

pub give_back-requires-clause-unwritten : goal.give_back-requires-clause-unwritten
give_back-requires-clause-unwritten g c =
    let q = c.requires.phase in
    let a = (g.D.Board.end c.args.board.now).lists in
    subst (λ e. HasNoWrite (a e)) (sym c.edge.ensures) (back_held c.args.map.now q.0 q.1 q.2 (value_of c.args.self.now) a q.4 q.3).1
