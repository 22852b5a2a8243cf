use Rattle.std.proofs.Common.{arith, sym, ap, ◌∙◌, subst, ◌<◌}
use Rattle.edge_lock.specs.EndLists.{after_access}
use Rattle.edge_lock.specs.PlainBoard.{registers_on, writes, IsKeptEdge}
use Rattle.edge_lock.proofs.PlainCalls.{done, registers_there, same_ends_access, all_set}
use Rattle.edge_lock.specs.declared.history.Access.TheVariants.{Write}
use Rattle.edge_lock.specs.History.{site_count, IsAllowed}
use Rattle.edge_lock.specs.PlainEdges.{PlainEdgeValue}
use Rattle.edge_lock.proofs.PlainCalls.{there}
use Rattle.edge_lock.proofs.plain_board.PlainBoardBoard.write.Goals as goal

pub write-requires-clause-allowed : goal.write-requires-clause-allowed
write-requires-clause-allowed c =
    let x = c.index_mut-it.result.now in let b = c.args.self.now in let e = c.args.edge in
    let some_registers : 0 < registers_on b e = omega (arith, c.requires.edge) in
    let at = there c.self.inside.acting c.self.inside.edges.items b c.self.view_is e x some_registers c.index_mut-it.ensures.value in
    subst (λ n. IsAllowed (site_count n) c.args.register c.args.value) (registers_there b e some_registers ∙ ap (λ (z : PlainEdgeValue). z.registers) (sym at)) c.requires.allowed

pub returns-clause-call : goal.returns-clause-call
returns-clause-call c =
    let x = c.index_mut-it.result.now in let y = c.write.new.self in let end = c.end_of-end.result in let b = c.args.self.now in let e = c.args.edge in
    let some_registers : 0 < registers_on b e = omega (arith, c.requires.edge) in
    let d = done c.self.inside.acting c.self.inside.edges.items b c.self.view_is e end x y (writes c.args.register c.args.value) (λ k. after_access (Write c.args.register c.args.value)) some_registers (c.requires.held, subst (λ n. c.args.register < n) (registers_there b e some_registers) c.requires.edge, subst (λ n. IsAllowed (site_count n) c.args.register c.args.value) (registers_there b e some_registers) c.requires.allowed) c.index_mut-it.ensures.value c.end_of-end.ensures.end (c.write.ensures.edge) (same_ends_access (Write c.args.register c.args.value) x y c.write.ensures.edge) c.write.ensures.own c.write.ensures.other in
    d.is_call

pub returns-clause-change : goal.returns-clause-change
returns-clause-change c =
    let x = c.index_mut-it.result.now in let y = c.write.new.self in let end = c.end_of-end.result in let b = c.args.self.now in let e = c.args.edge in
    let some_registers : 0 < registers_on b e = omega (arith, c.requires.edge) in
    let d = done c.self.inside.acting c.self.inside.edges.items b c.self.view_is e end x y (writes c.args.register c.args.value) (λ k. after_access (Write c.args.register c.args.value)) some_registers (c.requires.held, subst (λ n. c.args.register < n) (registers_there b e some_registers) c.requires.edge, subst (λ n. IsAllowed (site_count n) c.args.register c.args.value) (registers_there b e some_registers) c.requires.allowed) c.index_mut-it.ensures.value c.end_of-end.ensures.end (c.write.ensures.edge) (same_ends_access (Write c.args.register c.args.value) x y c.write.ensures.edge) c.write.ensures.own c.write.ensures.other in
    d.change

pub returns-clause-moved : goal.returns-clause-moved
returns-clause-moved c =
    let x = c.index_mut-it.result.now in let y = c.write.new.self in let end = c.end_of-end.result in let b = c.args.self.now in let e = c.args.edge in
    let some_registers : 0 < registers_on b e = omega (arith, c.requires.edge) in
    let d = done c.self.inside.acting c.self.inside.edges.items b c.self.view_is e end x y (writes c.args.register c.args.value) (λ k. after_access (Write c.args.register c.args.value)) some_registers (c.requires.held, subst (λ n. c.args.register < n) (registers_there b e some_registers) c.requires.edge, subst (λ n. IsAllowed (site_count n) c.args.register c.args.value) (registers_there b e some_registers) c.requires.allowed) c.index_mut-it.ensures.value c.end_of-end.ensures.end (c.write.ensures.edge) (same_ends_access (Write c.args.register c.args.value) x y c.write.ensures.edge) c.write.ensures.own c.write.ensures.other in
    d.moved

pub returns-clause-others : goal.returns-clause-others
returns-clause-others c =
    let x = c.index_mut-it.result.now in let y = c.write.new.self in let end = c.end_of-end.result in let b = c.args.self.now in let e = c.args.edge in
    let some_registers : 0 < registers_on b e = omega (arith, c.requires.edge) in
    let d = done c.self.inside.acting c.self.inside.edges.items b c.self.view_is e end x y (writes c.args.register c.args.value) (λ k. after_access (Write c.args.register c.args.value)) some_registers (c.requires.held, subst (λ n. c.args.register < n) (registers_there b e some_registers) c.requires.edge, subst (λ n. IsAllowed (site_count n) c.args.register c.args.value) (registers_there b e some_registers) c.requires.allowed) c.index_mut-it.ensures.value c.end_of-end.ensures.end (c.write.ensures.edge) (same_ends_access (Write c.args.register c.args.value) x y c.write.ensures.edge) c.write.ensures.own c.write.ensures.other in
    d.others

pub returns-clause-histories : goal.returns-clause-histories
returns-clause-histories c = all_set IsKeptEdge c.self.inside.edges.items c.args.edge c.write.new.self c.self.invariant c.write.ensures.kept

pub invariant_of-self : goal.invariant_of-self
invariant_of-self c = all_set IsKeptEdge c.self.inside.edges.items c.args.edge c.write.new.self c.self.invariant c.write.ensures.kept
