use Rattle.std.proofs.Common.{◌≡◌, ◌-◌, true, ap, sym, ◌∙◌, subst}
use Rattle.border_cache.specs.Windows.{has}
use Rattle.border_cache.proofs.Needs.{has_at}
use Rattle.tile_core.specs.Kept.{value_of}
use Rattle.edge_lock.specs.EndLists.{IsFree, IsNew}
use Rattle.tile_core.specs.Values.{centre}
use Rattle.tile_core.proofs.Laws.{locking, lock_lt, lock_free, lock_new}
use Rattle.tile_core.proofs.Ready.{some_registers, needs_known, taken_few}
use Rattle.tile_core.proofs.state.State.lock.Goals as goal

pub try_take-requires-clause-edge : goal.try_take-requires-clause-edge
try_take-requires-clause-edge g c =
    let q = c.requires.phase in
    let t = value_of c.args.self.now in
    let m = c.args.map.now in
    let lt = lock_lt m q.0 q.1 q.2 t (g.D.Board.end c.args.board.now).lists q.4 q.3 in
    some_registers m t.number (g.D.Board.end c.args.board.now) c.requires.board t.needs q.4.needs.ends c.edge-edge.result (ap (λ d. has d t.needs) c.edge-edge.ensures ∙ has_at t.next t.needs lt)

pub try_take-requires-clause-free : goal.try_take-requires-clause-free
try_take-requires-clause-free g c =
    let q = c.requires.phase in
    let a = (g.D.Board.end c.args.board.now).lists in
    subst (λ e. IsFree (a e)) (sym c.edge-edge.ensures) (lock_free c.args.map.now q.0 q.1 q.2 (value_of c.args.self.now) a q.4 q.3)

pub try_take-requires-clause-attempt : goal.try_take-requires-clause-attempt
try_take-requires-clause-attempt g c =
    let q = c.requires.phase in
    let t = value_of c.args.self.now in
    let m = c.args.map.now in
    let d = locking m q.0 q.1 q.2 t (g.D.Board.end c.args.board.now).lists q.4 q.3 in
    taken_few m q.2 q.4.turns t d.0 q.4.can

pub try_take-requires-clause-is_new : goal.try_take-requires-clause-is_new
try_take-requires-clause-is_new g c =
    let q = c.requires.phase in
    let t = value_of c.args.self.now in
    let a = (g.D.Board.end c.args.board.now).lists in
    subst (λ e. IsNew (t.taken - 1) (a e)) (sym c.edge-edge.ensures) (lock_new c.args.map.now q.0 q.1 q.2 t a q.4 q.3)

pub note_refusal-requires-clause-edge : goal.note_refusal-requires-clause-edge
note_refusal-requires-clause-edge g c =
    let q = c.requires.phase in
    let t = value_of c.args.self.now in
    let m = c.args.map.now in
    let a = (g.D.Board.end c.args.board.now).lists in
    let d = locking m q.0 q.1 q.2 t a q.4 q.3 in
    needs_known m t.number (centre t) c.edge-edge.result (subst (λ es. has c.edge-edge.result es ≡ true) d.0.needs (ap (λ e. has e t.needs) c.edge-edge.ensures ∙ has_at t.next t.needs d.1))
