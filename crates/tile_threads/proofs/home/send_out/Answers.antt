use Rattle.std.proofs.Common.{◌≡◌, ◌++◌, length, refl, sym, ap, ◌∙◌, subst, arith, rules}
use Rattle.std.specs.Prelude.{All}
use Rattle.edge_lock.specs.SharedEnds.{IsPassOf, shared_end_value}
use Rattle.edge_lock.proofs.HistorySteps.{all-head, all-tail}
use Rattle.tile_threads.specs.Whole.{workers_of}
use Rattle.tile_threads.proofs.Homing.{nothing_more, nothing_said, sent_more}
use Rattle.tile_threads.proofs.home.send_out.Goals as goal

pub new-requires : goal.new-requires
new-requires g c =
    let P = IsPassOf c.args.edges.now in
    subst (All P) (sym c.into_vec.ensures) (all-head (All P) c.in-Some-next.own c.next-in-loop-tile.new.self.rest.items (subst (All (All P)) c.in-Some-next.ensures.items c.loop-tile.invariant.stand))

pub returns-in_err-push : goal.returns-in_err-push
returns-in_err-push g c = nothing_said _ c.from_residual.result c.from_residual.ensures.0

pub loop-tile-preserved : goal.loop-tile-preserved
loop-tile-preserved g c =
    let P = IsPassOf c.args.edges.now in
    let i = c.loop-tile.invariant in
    let xs = c.in-Some.ensures.steps.0 in
    let ps = c.in-Some-next.ensures.items in
    let end = c.new-in-loop-tile.ensures.end ∙ (λ j. shared_end_value ((c.new.ensures.tile ∙ c.number-number.ensures) j) ((c.new.ensures.passes ∙ c.into_vec.ensures) j)) in
    let longx = ap (λ l. length l) xs in
    let longp = ap (λ l. length l) ps in
    let same = i.count in
    record {
      done = sent_more c.loop-tile.workers.items c.push.new.self.items (workers_of c.args.tiles.items c.args.passes.items) c.loop-tile.tile-iterator.rest.items c.next.new.self.rest.items c.loop-tile.passes.rest.items c.next-in-loop-tile.new.self.rest.items c.in-Some.tile c.in-Some-next.own c.new-in-loop-tile.result xs ps
          (λ j. record { tile = c.new-in-loop-tile.ensures.tile j; end = end j }) c.in_ok-push.ensures.items i.done;
      count = omega (arith, longx, longp, same);
      stand = all-tail (All P) c.in-Some-next.own c.next-in-loop-tile.new.self.rest.items (subst (All (All P)) ps i.stand);
    }

pub loop-tile-init : goal.loop-tile-init
loop-tile-init g c =
    let tiles = c.into_iter-tile-iterator.ensures.into_iter_gives.0 in
    let passes = c.into_iter-passes.ensures.rest in
    record {
      done = λ j. c.new-workers.ensures.items j ++ workers_of (tiles j) (passes j);
      count = ap (λ l. length l) tiles ∙ c.requires.count ∙ sym (ap (λ l. length l) passes);
      stand = subst (All (All (IsPassOf c.args.edges.now))) (sym passes) c.requires.passes;
    }

pub returns : goal.returns
returns g c =
    let left = c.loop-tile.tile-iterator.rest in
    let none = c.in-None.ensures.steps.0 in
    let count : length left.items ≡ left.len = search rules in
    nothing_more (λ ts. workers_of ts c.loop-tile.passes.rest.items) refl left.items (count ∙ none) c.loop-tile.workers.items (workers_of c.args.tiles.items c.args.passes.items) c.loop-tile.invariant.done
