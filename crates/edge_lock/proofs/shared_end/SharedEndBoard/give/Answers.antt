use Rattle.std.proofs.Common.{subst, ◌∙◌}
use Rattle.edge_lock.specs.EndLists.{IsHeld, after_give}
use Rattle.edge_lock.proofs.PassPositions.{acts_at}
use Rattle.edge_lock.proofs.shared_end.SharedEndBoard.give.Goals as goal

pub bounds-self-inside-edge : goal.bounds-self-inside-edge
bounds-self-inside-edge c =
    let a = acts_at c.self.inside.edges.now c.self.inside.passes.items c.self.inside.tile c.args.self.now c.args.edge c.position-i.result c.self.view_is c.self.invariant c.position-i.ensures.is c.position-i.ensures.inside in
    a.bound

pub give-requires-clause-edge : goal.give-requires-clause-edge
give-requires-clause-edge c =
    let a = acts_at c.self.inside.edges.now c.self.inside.passes.items c.self.inside.tile c.args.self.now c.args.edge c.position-i.result c.self.view_is c.self.invariant c.position-i.ensures.is c.position-i.ensures.inside in
    let p = c.index_mut.result.now in let at = c.index_mut.ensures.value in let x = c.index-self-edge.result in let there = c.index-self-edge.is in
    a.of p x at there ∙ there

pub give-requires-clause-held : goal.give-requires-clause-held
give-requires-clause-held c =
    let a = acts_at c.self.inside.edges.now c.self.inside.passes.items c.self.inside.tile c.args.self.now c.args.edge c.position-i.result c.self.view_is c.self.invariant c.position-i.ensures.is c.position-i.ensures.inside in
    let p = c.index_mut.result.now in let at = c.index_mut.ensures.value in
    subst IsHeld (a.lists p at) c.requires.held

pub returns-clause-change : goal.returns-clause-change
returns-clause-change c =
    let a = acts_at c.self.inside.edges.now c.self.inside.passes.items c.self.inside.tile c.args.self.now c.args.edge c.position-i.result c.self.view_is c.self.invariant c.position-i.ensures.is c.position-i.ensures.inside in
    let p = c.index_mut.result.now in let at = c.index_mut.ensures.value in
    let d = a.after p c.give.new.pass (λ k. after_give) at c.give.ensures in
    d.change

pub returns-clause-moved : goal.returns-clause-moved
returns-clause-moved c =
    let a = acts_at c.self.inside.edges.now c.self.inside.passes.items c.self.inside.tile c.args.self.now c.args.edge c.position-i.result c.self.view_is c.self.invariant c.position-i.ensures.is c.position-i.ensures.inside in
    let p = c.index_mut.result.now in let at = c.index_mut.ensures.value in
    let d = a.after p c.give.new.pass (λ k. after_give) at c.give.ensures in
    d.moved
