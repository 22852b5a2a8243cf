use Rattle.std.proofs.Common.{sym, subst, ◌∙◌, ap}
use Rattle.edge_lock.specs.EndLists.{EndLists, IsHeld, Shows, known_value, after_access}
use Rattle.std.proofs.Common.{◌<◌}
use Rattle.edge_lock.specs.declared.history.Access.TheVariants.{Read}
use Rattle.edge_lock.specs.History.{site_count, IsAllowed}
use Rattle.edge_lock.specs.Passes.{EdgeValue}
use Rattle.edge_lock.proofs.PassPositions.{acts_at}
use Rattle.edge_lock.proofs.shared_end.SharedEndBoard.read.Goals as goal

pub bounds-self-inside-edge : goal.bounds-self-inside-edge
bounds-self-inside-edge c =
    let a = acts_at c.self.inside.edges.now c.self.inside.passes.items c.self.inside.tile c.args.self.now c.args.edge c.position-i.result c.self.view_is c.self.invariant c.position-i.ensures.is c.position-i.ensures.inside in
    a.bound

pub read-requires-clause-edge : goal.read-requires-clause-edge
read-requires-clause-edge c =
    let a = acts_at c.self.inside.edges.now c.self.inside.passes.items c.self.inside.tile c.args.self.now c.args.edge c.position-i.result c.self.view_is c.self.invariant c.position-i.ensures.is c.position-i.ensures.inside in
    let p = c.index_mut.result.now in let at = c.index_mut.ensures.value in let x = c.index-self-edge.result in let there = c.index-self-edge.is in
    a.of p x at there ∙ there

pub read-requires-clause-register : goal.read-requires-clause-register
read-requires-clause-register c =
    let a = acts_at c.self.inside.edges.now c.self.inside.passes.items c.self.inside.tile c.args.self.now c.args.edge c.position-i.result c.self.view_is c.self.invariant c.position-i.ensures.is c.position-i.ensures.inside in
    let p = c.index_mut.result.now in let at = c.index_mut.ensures.value in let x = c.index-self-edge.result in let there = c.index-self-edge.is in
    subst (λ n. c.args.register < n) (a.registers p x at there ∙ ap (λ (y : EdgeValue). y.registers) there) c.requires.edge

pub read-requires-clause-held : goal.read-requires-clause-held
read-requires-clause-held c =
    let a = acts_at c.self.inside.edges.now c.self.inside.passes.items c.self.inside.tile c.args.self.now c.args.edge c.position-i.result c.self.view_is c.self.invariant c.position-i.ensures.is c.position-i.ensures.inside in
    let p = c.index_mut.result.now in let at = c.index_mut.ensures.value in
    subst IsHeld (a.lists p at) c.requires.held

pub returns-clause-value : goal.returns-clause-value
returns-clause-value c =
    let a = acts_at c.self.inside.edges.now c.self.inside.passes.items c.self.inside.tile c.args.self.now c.args.edge c.position-i.result c.self.view_is c.self.invariant c.position-i.ensures.is c.position-i.ensures.inside in
    let p = c.index_mut.result.now in let at = c.index_mut.ensures.value in
    subst (λ (l : EndLists). Shows (known_value l c.args.register) c.read.result) (sym (a.lists p at)) c.read.ensures.value

pub returns-clause-allowed : goal.returns-clause-allowed
returns-clause-allowed c =
    let a = acts_at c.self.inside.edges.now c.self.inside.passes.items c.self.inside.tile c.args.self.now c.args.edge c.position-i.result c.self.view_is c.self.invariant c.position-i.ensures.is c.position-i.ensures.inside in
    let p = c.index_mut.result.now in let at = c.index_mut.ensures.value in let x = c.index-self-edge.result in let there = c.index-self-edge.is in
    subst (λ n. IsAllowed (site_count n) c.args.register c.read.result) (sym (a.registers p x at there ∙ ap (λ (y : EdgeValue). y.registers) there)) c.read.ensures.allowed

pub returns-clause-change : goal.returns-clause-change
returns-clause-change c =
    let a = acts_at c.self.inside.edges.now c.self.inside.passes.items c.self.inside.tile c.args.self.now c.args.edge c.position-i.result c.self.view_is c.self.invariant c.position-i.ensures.is c.position-i.ensures.inside in
    let p = c.index_mut.result.now in let at = c.index_mut.ensures.value in
    let d = a.after p c.read.new.pass (λ k. after_access (Read c.args.register c.read.result)) at c.read.ensures.pass in
    d.change

pub returns-clause-moved : goal.returns-clause-moved
returns-clause-moved c =
    let a = acts_at c.self.inside.edges.now c.self.inside.passes.items c.self.inside.tile c.args.self.now c.args.edge c.position-i.result c.self.view_is c.self.invariant c.position-i.ensures.is c.position-i.ensures.inside in
    let p = c.index_mut.result.now in let at = c.index_mut.ensures.value in
    let d = a.after p c.read.new.pass (λ k. after_access (Read c.args.register c.read.result)) at c.read.ensures.pass in
    d.moved
