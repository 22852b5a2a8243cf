use Rattle.std.proofs.Common.{arith, ◌<◌}
use Rattle.edge_lock.specs.EndLists.{after_give}
use Rattle.edge_lock.specs.PlainBoard.{registers_on, gives, IsKeptEdge}
use Rattle.edge_lock.proofs.PlainCalls.{done, same_ends_give, all_set}
use Rattle.edge_lock.proofs.plain_board.PlainBoardBoard.give.Goals as goal

pub returns-clause-call : goal.returns-clause-call
returns-clause-call c =
    let x = c.index_mut-it.result.now in let y = c.give.new.self in let end = c.end_of-end.result in let b = c.args.self.now in let e = c.args.edge in
    let some_registers : 0 < registers_on b e = omega (arith, c.requires.edge) in
    let d = done c.self.inside.acting c.self.inside.edges.items b c.self.view_is e end x y (gives) (λ k. after_give) some_registers (c.requires.held) c.index_mut-it.ensures.value c.end_of-end.ensures.end (c.give.ensures.edge) (same_ends_give x y c.give.ensures.edge) c.give.ensures.own c.give.ensures.other in
    d.is_call

pub returns-clause-change : goal.returns-clause-change
returns-clause-change c =
    let x = c.index_mut-it.result.now in let y = c.give.new.self in let end = c.end_of-end.result in let b = c.args.self.now in let e = c.args.edge in
    let some_registers : 0 < registers_on b e = omega (arith, c.requires.edge) in
    let d = done c.self.inside.acting c.self.inside.edges.items b c.self.view_is e end x y (gives) (λ k. after_give) some_registers (c.requires.held) c.index_mut-it.ensures.value c.end_of-end.ensures.end (c.give.ensures.edge) (same_ends_give x y c.give.ensures.edge) c.give.ensures.own c.give.ensures.other in
    d.change

pub returns-clause-moved : goal.returns-clause-moved
returns-clause-moved c =
    let x = c.index_mut-it.result.now in let y = c.give.new.self in let end = c.end_of-end.result in let b = c.args.self.now in let e = c.args.edge in
    let some_registers : 0 < registers_on b e = omega (arith, c.requires.edge) in
    let d = done c.self.inside.acting c.self.inside.edges.items b c.self.view_is e end x y (gives) (λ k. after_give) some_registers (c.requires.held) c.index_mut-it.ensures.value c.end_of-end.ensures.end (c.give.ensures.edge) (same_ends_give x y c.give.ensures.edge) c.give.ensures.own c.give.ensures.other in
    d.moved

pub returns-clause-others : goal.returns-clause-others
returns-clause-others c =
    let x = c.index_mut-it.result.now in let y = c.give.new.self in let end = c.end_of-end.result in let b = c.args.self.now in let e = c.args.edge in
    let some_registers : 0 < registers_on b e = omega (arith, c.requires.edge) in
    let d = done c.self.inside.acting c.self.inside.edges.items b c.self.view_is e end x y (gives) (λ k. after_give) some_registers (c.requires.held) c.index_mut-it.ensures.value c.end_of-end.ensures.end (c.give.ensures.edge) (same_ends_give x y c.give.ensures.edge) c.give.ensures.own c.give.ensures.other in
    d.others

pub returns-clause-histories : goal.returns-clause-histories
returns-clause-histories c = all_set IsKeptEdge c.self.inside.edges.items c.args.edge c.give.new.self c.self.invariant c.give.ensures.kept

pub invariant_of-self : goal.invariant_of-self
invariant_of-self c = all_set IsKeptEdge c.self.inside.edges.items c.args.edge c.give.new.self c.self.invariant c.give.ensures.kept
