use Rattle.std.proofs.Common.{◌≡◌, ℕ, List, length, subst, rules, arith, vec_len}
use Rattle.tile_map.specs.Edges.{pairs_of}
use Rattle.edge_lock.specs.Passes.{EdgeValue}
use Rattle.edge_lock.specs.SharedEnds.{pass_lists}
use Rattle.tile_threads.specs.Passes.{shared_edges, passes_of, AreLeft}
use Rattle.tile_threads.proofs.Closed.{has_run}
use Rattle.tile_threads.proofs.shared_run.run_shared.Goals as goal

pub close_edges-requires : goal.close_edges-requires
close_edges-requires g c =
    let q = c.requires in
    let r = c.in_ok-tiles.ensures q.0 q.1 in
    let known = c.in_ok-edges.ensures.known in
    let long : length c.in_ok-edges.edges.items ≡ vec_len c.in_ok-edges.edges = search rules in
    let count : length (pairs_of c.args.map.now) ≡ vec_len c.in_ok-edges.edges = omega (arith, known, long) in
    record { left = (λ t. pass_lists (passes_of c.in_ok-tiles.passes.items t), subst (λ (y : List EdgeValue × ℕ). AreLeft c.args.map.now (shared_edges y.0 (λ t. pass_lists (passes_of c.in_ok-tiles.passes.items t))) 0 y.1 c.in_ok-tiles.passes.items) (λ j. (c.as_slice.ensures.value j, count j)) r.left) }

pub returns : goal.returns
returns g c k f =
    let r = c.in_ok-tiles.ensures k f in
    let known = c.in_ok-edges.ensures.known in
    let long : length c.in_ok-edges.edges.items ≡ vec_len c.in_ok-edges.edges = search rules in
    let count : length (pairs_of c.args.map.now) ≡ vec_len c.in_ok-edges.edges = omega (arith, known, long) in
    let left = subst (λ (y : List EdgeValue × ℕ). AreLeft c.args.map.now (shared_edges y.0 (λ t. pass_lists (passes_of c.in_ok-tiles.passes.items t))) 0 y.1 c.in_ok-tiles.passes.items) (λ j. (c.as_slice.ensures.value j, count j)) r.left in
    has_run g.B.Behave.after c.args.map.now c.laws.ensures.valid k c.args.tiles.items c.in_ok-tiles.tiles.items f c.as_slice.result.now c.in_ok-tiles.passes.items r c.in_ok-closed.closed (c.in_ok-closed.ensures (λ t. pass_lists (passes_of c.in_ok-tiles.passes.items t)) left)
