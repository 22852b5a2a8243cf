use Rattle.std.proofs.Common.{◌<◌, sym, subst, ◌∙◌}
use Rattle.edge_lock.specs.EndLists.{IsFree, IsNew, after_try}
use Rattle.edge_lock.proofs.PassPositions.{acts_at}
use Rattle.edge_lock.proofs.shared_end.SharedEndBoard.try_take.Goals as goal

pub bounds-self-inside-edge : goal.bounds-self-inside-edge
bounds-self-inside-edge c =
    let a = acts_at c.self.inside.edges.now c.self.inside.passes.items c.self.inside.tile c.args.self.now c.args.edge c.position-i.result c.self.view_is c.self.invariant c.position-i.ensures.is c.position-i.ensures.inside in
    a.bound

pub try_take-requires-clause-edge : goal.try_take-requires-clause-edge
try_take-requires-clause-edge c =
    let a = acts_at c.self.inside.edges.now c.self.inside.passes.items c.self.inside.tile c.args.self.now c.args.edge c.position-i.result c.self.view_is c.self.invariant c.position-i.ensures.is c.position-i.ensures.inside in
    let p = c.index_mut.result.now in let at = c.index_mut.ensures.value in let x = c.index-self-edge.result in let there = c.index-self-edge.is in
    a.of p x at there ∙ there

pub try_take-requires-clause-free : goal.try_take-requires-clause-free
try_take-requires-clause-free c =
    let a = acts_at c.self.inside.edges.now c.self.inside.passes.items c.self.inside.tile c.args.self.now c.args.edge c.position-i.result c.self.view_is c.self.invariant c.position-i.ensures.is c.position-i.ensures.inside in
    let p = c.index_mut.result.now in let at = c.index_mut.ensures.value in
    subst IsFree (a.lists p at) c.requires.free

pub try_take-requires-clause-is_new : goal.try_take-requires-clause-is_new
try_take-requires-clause-is_new c =
    let a = acts_at c.self.inside.edges.now c.self.inside.passes.items c.self.inside.tile c.args.self.now c.args.edge c.position-i.result c.self.view_is c.self.invariant c.position-i.ensures.is c.position-i.ensures.inside in
    let p = c.index_mut.result.now in let at = c.index_mut.ensures.value in
    subst (IsNew c.args.attempt) (a.lists p at) c.requires.is_new

pub returns-clause-change : goal.returns-clause-change
returns-clause-change c =
    let a = acts_at c.self.inside.edges.now c.self.inside.passes.items c.self.inside.tile c.args.self.now c.args.edge c.position-i.result c.self.view_is c.self.invariant c.position-i.ensures.is c.position-i.ensures.inside in
    let p = c.index_mut.result.now in let at = c.index_mut.ensures.value in
    let d = a.after p c.try_take.new.pass (λ k. after_try k c.args.attempt c.try_take.result) at c.try_take.ensures.pass in
    d.change

pub returns-clause-moved : goal.returns-clause-moved
returns-clause-moved c =
    let a = acts_at c.self.inside.edges.now c.self.inside.passes.items c.self.inside.tile c.args.self.now c.args.edge c.position-i.result c.self.view_is c.self.invariant c.position-i.ensures.is c.position-i.ensures.inside in
    let p = c.index_mut.result.now in let at = c.index_mut.ensures.value in
    let d = a.after p c.try_take.new.pass (λ k. after_try k c.args.attempt c.try_take.result) at c.try_take.ensures.pass in
    d.moved

pub returns-clause-end : goal.returns-clause-end
returns-clause-end c =
    let a = acts_at c.self.inside.edges.now c.self.inside.passes.items c.self.inside.tile c.args.self.now c.args.edge c.position-i.result c.self.view_is c.self.invariant c.position-i.ensures.is c.position-i.ensures.inside in
    let p = c.index_mut.result.now in let at = c.index_mut.ensures.value in
    subst (λ n. n < 2) (sym (a.end p at)) c.try_take.ensures.end
