use Rattle.std.specs.Prelude.{◌==◌}
use Rattle.std.proofs.Common.{arith, ◌∙◌, ◌<◌}
use Rattle.edge_lock.specs.EndLists.{after_try}
use Rattle.edge_lock.specs.PlainBoard.{registers_on, edge_at, tries, IsKeptEdge}
use Rattle.edge_lock.proofs.PlainCalls.{end_low, done, tried_effect, same_ends_try, all_set}
use Rattle.edge_lock.proofs.plain_board.PlainBoardBoard.try_take.Goals as goal

pub returns-clause-call : goal.returns-clause-call
returns-clause-call c =
    let x = c.index_mut-it.result.now in let y = c.try_take.new.self in let end = c.end_of-end.result in let b = c.args.self.now in let e = c.args.edge in
    let some_registers : 0 < registers_on b e = omega (arith, c.requires.edge) in
    let d = done c.self.inside.acting c.self.inside.edges.items b c.self.view_is e end x y (tries c.args.attempt) (λ k. after_try k c.args.attempt c.try_take.result) some_registers (c.requires.free, c.requires.is_new) c.index_mut-it.ensures.value c.end_of-end.ensures.end (c.try_take.ensures.edge ∙ tried_effect end c.args.attempt x c.try_take.result c.try_take.ensures.answer) (same_ends_try end c.args.attempt x y c.try_take.result c.try_take.ensures.edge) c.try_take.ensures.own c.try_take.ensures.other in
    d.is_call

pub returns-clause-change : goal.returns-clause-change
returns-clause-change c =
    let x = c.index_mut-it.result.now in let y = c.try_take.new.self in let end = c.end_of-end.result in let b = c.args.self.now in let e = c.args.edge in
    let some_registers : 0 < registers_on b e = omega (arith, c.requires.edge) in
    let d = done c.self.inside.acting c.self.inside.edges.items b c.self.view_is e end x y (tries c.args.attempt) (λ k. after_try k c.args.attempt c.try_take.result) some_registers (c.requires.free, c.requires.is_new) c.index_mut-it.ensures.value c.end_of-end.ensures.end (c.try_take.ensures.edge ∙ tried_effect end c.args.attempt x c.try_take.result c.try_take.ensures.answer) (same_ends_try end c.args.attempt x y c.try_take.result c.try_take.ensures.edge) c.try_take.ensures.own c.try_take.ensures.other in
    d.change

pub returns-clause-moved : goal.returns-clause-moved
returns-clause-moved c =
    let x = c.index_mut-it.result.now in let y = c.try_take.new.self in let end = c.end_of-end.result in let b = c.args.self.now in let e = c.args.edge in
    let some_registers : 0 < registers_on b e = omega (arith, c.requires.edge) in
    let d = done c.self.inside.acting c.self.inside.edges.items b c.self.view_is e end x y (tries c.args.attempt) (λ k. after_try k c.args.attempt c.try_take.result) some_registers (c.requires.free, c.requires.is_new) c.index_mut-it.ensures.value c.end_of-end.ensures.end (c.try_take.ensures.edge ∙ tried_effect end c.args.attempt x c.try_take.result c.try_take.ensures.answer) (same_ends_try end c.args.attempt x y c.try_take.result c.try_take.ensures.edge) c.try_take.ensures.own c.try_take.ensures.other in
    d.moved

pub returns-clause-others : goal.returns-clause-others
returns-clause-others c =
    let x = c.index_mut-it.result.now in let y = c.try_take.new.self in let end = c.end_of-end.result in let b = c.args.self.now in let e = c.args.edge in
    let some_registers : 0 < registers_on b e = omega (arith, c.requires.edge) in
    let d = done c.self.inside.acting c.self.inside.edges.items b c.self.view_is e end x y (tries c.args.attempt) (λ k. after_try k c.args.attempt c.try_take.result) some_registers (c.requires.free, c.requires.is_new) c.index_mut-it.ensures.value c.end_of-end.ensures.end (c.try_take.ensures.edge ∙ tried_effect end c.args.attempt x c.try_take.result c.try_take.ensures.answer) (same_ends_try end c.args.attempt x y c.try_take.result c.try_take.ensures.edge) c.try_take.ensures.own c.try_take.ensures.other in
    d.others

pub returns-clause-histories : goal.returns-clause-histories
returns-clause-histories c = all_set IsKeptEdge c.self.inside.edges.items c.args.edge c.try_take.new.self c.self.invariant c.try_take.ensures.kept

pub invariant_of-self : goal.invariant_of-self
invariant_of-self c = all_set IsKeptEdge c.self.inside.edges.items c.args.edge c.try_take.new.self c.self.invariant c.try_take.ensures.kept

pub returns-clause-end : goal.returns-clause-end
returns-clause-end c = end_low ((edge_at c.args.self.now c.args.edge).lower == c.args.self.now.acting)
