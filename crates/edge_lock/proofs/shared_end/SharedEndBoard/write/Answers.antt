use Rattle.std.proofs.Common.{subst, ◌∙◌, ap}
use Rattle.edge_lock.specs.EndLists.{IsHeld, after_access}
use Rattle.std.proofs.Common.{◌<◌}
use Rattle.edge_lock.specs.declared.history.Access.TheVariants.{Write}
use Rattle.edge_lock.specs.History.{site_count, IsAllowed}
use Rattle.edge_lock.specs.Passes.{EdgeValue}
use Rattle.edge_lock.proofs.PassPositions.{acts_at}
use Rattle.edge_lock.proofs.shared_end.SharedEndBoard.write.Goals as goal

pub bounds-self-inside-edge : goal.bounds-self-inside-edge
bounds-self-inside-edge c =
    let a = acts_at c.self.inside.edges.now c.self.inside.passes.items c.self.inside.tile c.args.self.now c.args.edge c.position-i.result c.self.view_is c.self.invariant c.position-i.ensures.is c.position-i.ensures.inside in
    a.bound

pub write-requires-clause-edge : goal.write-requires-clause-edge
write-requires-clause-edge c =
    let a = acts_at c.self.inside.edges.now c.self.inside.passes.items c.self.inside.tile c.args.self.now c.args.edge c.position-i.result c.self.view_is c.self.invariant c.position-i.ensures.is c.position-i.ensures.inside in
    let p = c.index_mut.result.now in let at = c.index_mut.ensures.value in let x = c.index-self-edge.result in let there = c.index-self-edge.is in
    a.of p x at there ∙ there

pub write-requires-clause-register : goal.write-requires-clause-register
write-requires-clause-register c =
    let a = acts_at c.self.inside.edges.now c.self.inside.passes.items c.self.inside.tile c.args.self.now c.args.edge c.position-i.result c.self.view_is c.self.invariant c.position-i.ensures.is c.position-i.ensures.inside in
    let p = c.index_mut.result.now in let at = c.index_mut.ensures.value in let x = c.index-self-edge.result in let there = c.index-self-edge.is in
    subst (λ n. c.args.register < n) (a.registers p x at there ∙ ap (λ (y : EdgeValue). y.registers) there) c.requires.edge

pub write-requires-clause-held : goal.write-requires-clause-held
write-requires-clause-held c =
    let a = acts_at c.self.inside.edges.now c.self.inside.passes.items c.self.inside.tile c.args.self.now c.args.edge c.position-i.result c.self.view_is c.self.invariant c.position-i.ensures.is c.position-i.ensures.inside in
    let p = c.index_mut.result.now in let at = c.index_mut.ensures.value in
    subst IsHeld (a.lists p at) c.requires.held

pub write-requires-clause-allowed : goal.write-requires-clause-allowed
write-requires-clause-allowed c =
    let a = acts_at c.self.inside.edges.now c.self.inside.passes.items c.self.inside.tile c.args.self.now c.args.edge c.position-i.result c.self.view_is c.self.invariant c.position-i.ensures.is c.position-i.ensures.inside in
    let p = c.index_mut.result.now in let at = c.index_mut.ensures.value in let x = c.index-self-edge.result in let there = c.index-self-edge.is in
    subst (λ n. IsAllowed (site_count n) c.args.register c.args.value) (a.registers p x at there ∙ ap (λ (y : EdgeValue). y.registers) there) c.requires.allowed

pub returns-clause-change : goal.returns-clause-change
returns-clause-change c =
    let a = acts_at c.self.inside.edges.now c.self.inside.passes.items c.self.inside.tile c.args.self.now c.args.edge c.position-i.result c.self.view_is c.self.invariant c.position-i.ensures.is c.position-i.ensures.inside in
    let p = c.index_mut.result.now in let at = c.index_mut.ensures.value in
    let d = a.after p c.write.new.pass (λ k. after_access (Write c.args.register c.args.value)) at c.write.ensures in
    d.change

pub returns-clause-moved : goal.returns-clause-moved
returns-clause-moved c =
    let a = acts_at c.self.inside.edges.now c.self.inside.passes.items c.self.inside.tile c.args.self.now c.args.edge c.position-i.result c.self.view_is c.self.invariant c.position-i.ensures.is c.position-i.ensures.inside in
    let p = c.index_mut.result.now in let at = c.index_mut.ensures.value in
    let d = a.after p c.write.new.pass (λ k. after_access (Write c.args.register c.args.value)) at c.write.ensures in
    d.moved
