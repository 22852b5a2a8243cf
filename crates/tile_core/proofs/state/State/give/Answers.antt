use Rattle.std.proofs.Common.{◌≡◌, ap, sym, ◌∙◌, subst, rules}
use Rattle.border_cache.specs.Windows.{has}
use Rattle.border_cache.proofs.Needs.{has_at}
use Rattle.tile_core.specs.Kept.{value_of}
use Rattle.tile_core.proofs.Laws.{give_lt, give_held}
use Rattle.tile_core.proofs.Ready.{some_registers}
use Rattle.edge_lock.specs.EndLists.{IsHeld, after_give, replace_at}
use Rattle.tile_core.proofs.state.State.give.Goals as goal

pub give-requires-clause-edge : goal.give-requires-clause-edge
give-requires-clause-edge g c =
    let q = c.requires.phase in
    let t = value_of c.args.self.now in
    let m = c.args.map.now in
    let lt = give_lt m q.0 q.1 q.2 t (g.D.Board.end c.args.board.now).lists q.4 q.3 in
    some_registers m t.number (g.D.Board.end c.args.board.now) c.requires.board t.needs q.4.needs.ends c.edge.result (ap (λ d. has d t.needs) c.edge.ensures ∙ has_at t.next t.needs lt)

pub give-requires-clause-held : goal.give-requires-clause-held
give-requires-clause-held g c =
    let q = c.requires.phase in
    let a = (g.D.Board.end c.args.board.now).lists in
    subst (λ e. IsHeld (a e)) (sym c.edge.ensures) (give_held c.args.map.now q.0 q.1 q.2 (value_of c.args.self.now) a q.4 q.3)

pub returns-then-self-len-clause-frees : goal.returns-then-self-len-clause-frees
returns-then-self-len-clause-frees g c =
    let a = (g.D.Board.end c.args.board.now).lists in
    let b = (g.D.Board.end c.give.new.self).lists in
    record {
      lists_are = subst (λ e. b ≡ replace_at a e (after_give (a e))) c.edge.ensures c.give.ensures.change.lists;
      is = search rules;
    }

pub returns-else-self-len-clause-frees : goal.returns-else-self-len-clause-frees
returns-else-self-len-clause-frees g c =
    let a = (g.D.Board.end c.args.board.now).lists in
    let b = (g.D.Board.end c.give.new.self).lists in
    record {
      lists_are = subst (λ e. b ≡ replace_at a e (after_give (a e))) c.edge.ensures c.give.ensures.change.lists;
      is = search rules;
    }
