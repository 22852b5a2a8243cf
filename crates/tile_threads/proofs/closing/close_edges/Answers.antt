use Rattle.std.proofs.Common.{◌≡◌, ℕ, ◌+◌, ◌-◌, drop, length, sym, ap, ◌∙◌, subst, arith, rules, length-drop, vec_len}
use Rattle.edge_lock.specs.EndLists.{EndLists}
use Rattle.tile_threads.specs.Passes.{no_edge, edge_of, shared_edges, AreLeft, AreClosed, IsClosedEdge}
use Rattle.tile_threads.proofs.Shutting.{next_of, closed_more, AreClosedSoFar}
use Rattle.tile_threads.proofs.closing.close_edges.Goals as goal

pub overflow_cast-number : goal.overflow_cast-number
overflow_cast-number c =
    let i = c.loop-edge.invariant in
    let r = next_of c.args.edges.items (vec_len c.loop-edge.closed) c.in-Some.edge no_edge c.next.new.self.rest.items (sym i.rest ∙ c.in-Some.ensures.steps.0) in
    let lt = r.2 in
    let known = c.requires.left.1.known in
    let few = c.laws.ensures.plane.edges.few in
    let is = c.len-number.ensures in
    omega (arith, lt, known, few, is)

pub close_edge-requires : goal.close_edge-requires
close_edge-requires c =
    let i = c.loop-edge.invariant in
    let es = c.args.edges.items in
    let n = vec_len c.loop-edge.closed in
    let r = next_of es n c.in-Some.edge no_edge c.next.new.self.rest.items (sym i.rest ∙ c.in-Some.ensures.steps.0) in
    let lt = r.2 in
    let long : length es ≡ vec_len c.args.edges = search rules in
    let is = c.len-number.ensures in
    let q = c.requires.left in
    let count : vec_len c.args.edges - n ≡ (vec_len c.args.edges - (n + 1)) + 1 = omega (arith, lt, long) in
    record { left = (shared_edges es q.0, vec_len c.args.edges - (n + 1), sym r.0 ∙ ap (edge_of es) (sym is), subst (λ (y : ℕ × ℕ). AreLeft c.args.map.now (shared_edges es q.0) y.0 y.1 c.loop-edge.passes.items) (λ j. (sym is j, count j)) (i.left q.0 q.1)) }

pub loop-edge-preserved : goal.loop-edge-preserved
loop-edge-preserved c =
    let i = c.loop-edge.invariant in
    let m = c.args.map.now in
    let es = c.args.edges.items in
    let n = vec_len c.loop-edge.closed in
    let number = c.len-number.result in
    let r = next_of es n c.in-Some.edge no_edge c.next.new.self.rest.items (sym i.rest ∙ c.in-Some.ensures.steps.0) in
    let lt = r.2 in
    let long : length es ≡ vec_len c.args.edges = search rules in
    let longc : length c.loop-edge.closed.items ≡ n = search rules in
    let is = c.len-number.ensures in
    let len : vec_len c.push.new.self ≡ n + 1 = c.in_ok-push.ensures.len in
    let count : vec_len c.args.edges - n ≡ (vec_len c.args.edges - (n + 1)) + 1 = omega (arith, lt, long) in
    let edge : c.in-Some.edge ≡ edge_of es number = sym r.0 ∙ ap (edge_of es) (sym is) in
    let at : (lists : ℕ → ℕ → EndLists) → AreLeft m (shared_edges es lists) 0 (vec_len c.args.edges) c.args.passes.items → AreLeft m (shared_edges es lists) number ((vec_len c.args.edges - (n + 1)) + 1) c.loop-edge.passes.items =
    λ lists k. subst (λ (y : ℕ × ℕ). AreLeft m (shared_edges es lists) y.0 y.1 c.loop-edge.passes.items) (λ j. (sym is j, count j)) (i.left lists k) in
    record {
      rest = sym r.1 ∙ ap (λ j. drop j es) (sym len);
      few = omega (arith, len, lt, long);
      left = λ lists k. subst (λ j. AreLeft m (shared_edges es lists) j (vec_len c.args.edges - j) c.close_edge.new.passes.items) (sym len)
          (subst (λ j. AreLeft m (shared_edges es lists) (j + 1) (vec_len c.args.edges - (n + 1)) c.close_edge.new.passes.items) is (c.close_edge.ensures.left (shared_edges es lists) (vec_len c.args.edges - (n + 1)) edge (at lists k)));
      closed = λ lists k. subst (AreClosedSoFar m lists) (sym c.in_ok-push.ensures.items)
          (closed_more m lists c.loop-edge.closed.items c.close_edge.result (i.closed lists k) (subst (λ j. IsClosedEdge m lists j c.close_edge.result) (is ∙ sym longc) (c.close_edge.ensures.closed (shared_edges es lists) (vec_len c.args.edges - (n + 1)) edge (at lists k))));
    }

pub returns : goal.returns
returns c lists k =
    let i = c.loop-edge.invariant in
    let es = c.args.edges.items in
    let n = vec_len c.loop-edge.closed in
    let none = c.in-None.ensures.steps.0 in
    let rest : length c.loop-edge.edge-iterator.rest.items ≡ c.loop-edge.edge-iterator.rest.len = search rules in
    let left = ap (λ l. length l) i.rest in
    let dropped = length-drop n es in
    let long : length es ≡ vec_len c.args.edges = search rules in
    let longc : length c.loop-edge.closed.items ≡ n = search rules in
    let few = i.few in
    let known = k.known in
    subst (AreClosed c.args.map.now lists) (sym c.new.ensures) (record { known = omega (arith, none, rest, left, dropped, long, longc, few, known); each = i.closed lists k })
