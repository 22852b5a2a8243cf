use Rattle.std.proofs.Common.{arith, sym, ap, ◌∙◌, subst, ◌<◌, ◌≡◌}
use Rattle.edge_lock.specs.EndLists.{EndLists, after_access}
use Rattle.edge_lock.specs.PlainBoard.{registers_on, end_on, reads, IsKeptEdge}
use Rattle.edge_lock.proofs.PlainCalls.{done, registers_there, same_ends_access, all_set}
use Rattle.edge_lock.specs.declared.history.Access.TheVariants.{Read}
use Rattle.edge_lock.specs.History.{site_count, IsAllowed}
use Rattle.edge_lock.specs.EndLists.{known_value, Shows}
use Rattle.edge_lock.specs.PlainEdges.{PlainEdgeValue, own_lists, edge_after_access}
use Rattle.edge_lock.specs.PlainBoard.{end_of}
use Rattle.edge_lock.proofs.PlainCalls.{there}
use Rattle.edge_lock.proofs.plain_board.PlainBoardBoard.read.Goals as goal

pub returns-clause-value : goal.returns-clause-value
returns-clause-value c =
    let x = c.index_mut-it.result.now in let end = c.end_of-end.result in let b = c.args.self.now in let e = c.args.edge in
    let some_registers : 0 < registers_on b e = omega (arith, c.requires.edge) in
    let at = there c.self.inside.acting c.self.inside.edges.items b c.self.view_is e x some_registers c.index_mut-it.ensures.value in
    let which : end ≡ end_on b e = c.end_of-end.ensures.end ∙ (λ i. end_of (at i) (c.self.view_is i).acting) in
    subst (λ (l : EndLists). Shows (known_value l c.args.register) c.read.result) (λ i. own_lists (which i) (at i)) c.read.ensures.value

pub returns-clause-allowed : goal.returns-clause-allowed
returns-clause-allowed c =
    let x = c.index_mut-it.result.now in let b = c.args.self.now in let e = c.args.edge in
    let some_registers : 0 < registers_on b e = omega (arith, c.requires.edge) in
    let at = there c.self.inside.acting c.self.inside.edges.items b c.self.view_is e x some_registers c.index_mut-it.ensures.value in
    subst (λ n. IsAllowed (site_count n) c.args.register c.read.result) (ap (λ (z : PlainEdgeValue). z.registers) at ∙ sym (registers_there b e some_registers)) c.read.ensures.allowed

pub returns-clause-call : goal.returns-clause-call
returns-clause-call c =
    let x = c.index_mut-it.result.now in let y = c.read.new.self in let end = c.end_of-end.result in let b = c.args.self.now in let e = c.args.edge in
    let some_registers : 0 < registers_on b e = omega (arith, c.requires.edge) in
    let d = done c.self.inside.acting c.self.inside.edges.items b c.self.view_is e end x y (reads c.args.register) (λ k. after_access (Read c.args.register c.read.result)) some_registers (c.requires.held, subst (λ n. c.args.register < n) (registers_there b e some_registers) c.requires.edge) c.index_mut-it.ensures.value c.end_of-end.ensures.end (c.read.ensures.edge ∙ ap (λ v. edge_after_access (Read c.args.register v) x) c.read.ensures.is_register) (same_ends_access (Read c.args.register c.read.result) x y c.read.ensures.edge) c.read.ensures.own c.read.ensures.other in
    d.is_call

pub returns-clause-change : goal.returns-clause-change
returns-clause-change c =
    let x = c.index_mut-it.result.now in let y = c.read.new.self in let end = c.end_of-end.result in let b = c.args.self.now in let e = c.args.edge in
    let some_registers : 0 < registers_on b e = omega (arith, c.requires.edge) in
    let d = done c.self.inside.acting c.self.inside.edges.items b c.self.view_is e end x y (reads c.args.register) (λ k. after_access (Read c.args.register c.read.result)) some_registers (c.requires.held, subst (λ n. c.args.register < n) (registers_there b e some_registers) c.requires.edge) c.index_mut-it.ensures.value c.end_of-end.ensures.end (c.read.ensures.edge ∙ ap (λ v. edge_after_access (Read c.args.register v) x) c.read.ensures.is_register) (same_ends_access (Read c.args.register c.read.result) x y c.read.ensures.edge) c.read.ensures.own c.read.ensures.other in
    d.change

pub returns-clause-moved : goal.returns-clause-moved
returns-clause-moved c =
    let x = c.index_mut-it.result.now in let y = c.read.new.self in let end = c.end_of-end.result in let b = c.args.self.now in let e = c.args.edge in
    let some_registers : 0 < registers_on b e = omega (arith, c.requires.edge) in
    let d = done c.self.inside.acting c.self.inside.edges.items b c.self.view_is e end x y (reads c.args.register) (λ k. after_access (Read c.args.register c.read.result)) some_registers (c.requires.held, subst (λ n. c.args.register < n) (registers_there b e some_registers) c.requires.edge) c.index_mut-it.ensures.value c.end_of-end.ensures.end (c.read.ensures.edge ∙ ap (λ v. edge_after_access (Read c.args.register v) x) c.read.ensures.is_register) (same_ends_access (Read c.args.register c.read.result) x y c.read.ensures.edge) c.read.ensures.own c.read.ensures.other in
    d.moved

pub returns-clause-others : goal.returns-clause-others
returns-clause-others c =
    let x = c.index_mut-it.result.now in let y = c.read.new.self in let end = c.end_of-end.result in let b = c.args.self.now in let e = c.args.edge in
    let some_registers : 0 < registers_on b e = omega (arith, c.requires.edge) in
    let d = done c.self.inside.acting c.self.inside.edges.items b c.self.view_is e end x y (reads c.args.register) (λ k. after_access (Read c.args.register c.read.result)) some_registers (c.requires.held, subst (λ n. c.args.register < n) (registers_there b e some_registers) c.requires.edge) c.index_mut-it.ensures.value c.end_of-end.ensures.end (c.read.ensures.edge ∙ ap (λ v. edge_after_access (Read c.args.register v) x) c.read.ensures.is_register) (same_ends_access (Read c.args.register c.read.result) x y c.read.ensures.edge) c.read.ensures.own c.read.ensures.other in
    d.others

pub returns-clause-histories : goal.returns-clause-histories
returns-clause-histories c = all_set IsKeptEdge c.self.inside.edges.items c.args.edge c.read.new.self c.self.invariant c.read.ensures.kept

pub invariant_of-self : goal.invariant_of-self
invariant_of-self c = all_set IsKeptEdge c.self.inside.edges.items c.args.edge c.read.new.self c.self.invariant c.read.ensures.kept
