use Rattle.std.proofs.Common.{◌≡◌, ◌+◌, [], ◌∷◌, ◌++◌, drop, length, refl, sym, ap, ◌∙◌, subst, arith, rules, append_assoc, length-drop, vec_len}
use Rattle.std.specs.Prelude.{All, slice_index_or}
use Rattle.edge_lock.specs.SharedEnds.{SharedEndValue, shared_end}
use Rattle.tile_threads.specs.declared.worker.Worker.{Worker}
use Rattle.edge_lock.proofs.HistorySteps.{all-head, all-tail}
use Rattle.tile_threads.specs.Whole.{IsDone, tiles_in}
use Rattle.tile_threads.proofs.Shutting.{next_of}
use Rattle.tile_threads.proofs.Homing.{HaveComeSoFar, none_home, comes_home, nothing_more, nothing_said}
use Rattle.tile_threads.proofs.home.come_home.Goals as goal

pub take_apart-tile-requires : goal.take_apart-tile-requires
take_apart-tile-requires g c =
    let P = λ (w : Worker g.row.B.Denot SharedEndValue). IsDone c.args.map.now w.tile.core (shared_end w.end) in
    all-head P c.in-Some.worker c.next.new.self.rest.items (subst (All P) c.in-Some.ensures.steps.0 c.loop-worker.invariant.done)

pub returns-in_err-push-clause-tiles : goal.returns-in_err-push-clause-tiles
returns-in_err-push-clause-tiles g c = nothing_said _ c.from_residual.result c.from_residual.ensures.0

pub returns-in_err-push-clause-passes : goal.returns-in_err-push-clause-passes
returns-in_err-push-clause-passes g c = nothing_said _ c.from_residual.result c.from_residual.ensures.0

pub returns-in_err-push-2-clause-tiles : goal.returns-in_err-push-2-clause-tiles
returns-in_err-push-2-clause-tiles g c = nothing_said _ c.from_residual-in_err-push-2.result
    c.from_residual-in_err-push-2.ensures.0

pub returns-in_err-push-2-clause-passes : goal.returns-in_err-push-2-clause-passes
returns-in_err-push-2-clause-passes g c = nothing_said _ c.from_residual-in_err-push-2.result
    c.from_residual-in_err-push-2.ensures.0

pub loop-worker-preserved : goal.loop-worker-preserved
loop-worker-preserved g c =
    let P = λ (w : Worker g.row.B.Denot SharedEndValue). IsDone c.args.map.now w.tile.core (shared_end w.end) in
    let i = c.loop-worker.invariant in
    let ws = c.args.workers.items in
    let w = c.in-Some.worker in
    let rest = c.next.new.self.rest.items in
    let n = vec_len c.loop-worker.passes in
    let ps = c.loop-worker.passes.items in
    let next = sym i.rest ∙ c.in-Some.ensures.steps.0 in
    let long : length ps ≡ n = search rules in
    let r = next_of ws n w w rest next in
    let lt = r.2 in
    let len : vec_len c.push-in-loop-worker.new.self ≡ n + 1 = c.in_ok-push-2.ensures.len in
    record {
      rest = sym r.1 ∙ ap (λ j. drop j ws) (sym len);
      tiles = ap (λ l. l ++ tiles_in rest) c.in_ok-push.ensures.items
          ∙ (append_assoc c.loop-worker.tiles.items (c.take_apart-tile.result.0 ∷ []) (tiles_in rest)
          ∙ ((λ j. c.loop-worker.tiles.items ++ c.take_apart-tile.ensures.tile j ∷ tiles_in rest)
          ∙ (ap (λ l. c.loop-worker.tiles.items ++ tiles_in l) (sym c.in-Some.ensures.steps.0) ∙ i.tiles)));
      home = subst (HaveComeSoFar c.args.map.now ws) (sym c.in_ok-push-2.ensures.items)
          (comes_home c.args.map.now ws ps w c.take_apart-tile.result.1 i.home (omega (arith, lt, long)) (λ none. subst (λ j. (slice_index_or ws j none) ≡ w) (sym long) (next_of ws n w none rest next).0) c.take_apart-tile.ensures.home);
      done = all-tail P w rest (subst (All P) c.in-Some.ensures.steps.0 i.done);
    }

pub returns-clause-passes : goal.returns-clause-passes
returns-clause-passes g c =
    let i = c.loop-worker.invariant in
    let ws = c.args.workers.items in
    let none = c.in-None.ensures.steps.0 in
    let rest : length c.loop-worker.worker-iterator.rest.items ≡ c.loop-worker.worker-iterator.rest.len = search rules in
    let left = ap (λ l. length l) i.rest in
    let dropped = length-drop (vec_len c.loop-worker.passes) ws in
    let long : length c.loop-worker.passes.items ≡ vec_len c.loop-worker.passes = search rules in
    let few = i.home.few in
    let count : length c.loop-worker.passes.items ≡ length ws = omega (arith, none, rest, left, dropped, long, few) in
    record { count = count; each = λ t d lt. i.home.each t d (omega (arith, lt, count)) }

pub loop-worker-init : goal.loop-worker-init
loop-worker-init g c =
    let P = λ (w : Worker g.row.B.Denot SharedEndValue). IsDone c.args.map.now w.tile.core (shared_end w.end) in
    let ws = c.args.workers.items in
    let is = c.into_iter-worker-iterator.ensures.into_iter_gives.0 in
    record {
      rest = is ∙ ap (λ n. drop n ws) (sym c.new-passes.ensures.len);
      tiles = λ j. c.new-tiles.ensures.items j ++ tiles_in (is j);
      home = subst (HaveComeSoFar c.args.map.now ws) (sym c.new-passes.ensures.items) (none_home c.args.map.now ws);
      done = subst (All P) (sym is) c.requires;
    }

pub returns-clause-tiles : goal.returns-clause-tiles
returns-clause-tiles g c =
    let left = c.loop-worker.worker-iterator.rest in
    let none = c.in-None.ensures.steps.0 in
    let count : length left.items ≡ left.len = search rules in
    nothing_more (λ ws. tiles_in ws) refl left.items (count ∙ none) c.loop-worker.tiles.items (tiles_in c.args.workers.items) c.loop-worker.invariant.tiles
