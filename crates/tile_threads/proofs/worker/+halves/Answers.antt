use Rattle.std.proofs.Common.{◌≡◌, ◌++◌, length, sym, subst, arith}
use Rattle.tile_threads.specs.Runs.{EachDid}
use Rattle.tile_threads.proofs.Halves.{only_did, halves_did}
use Rattle.tile_threads.proofs.worker.+halves.Goals as goal

pub run_some-returns-then-workers-eq1 : goal.run_some-returns-then-workers-eq1
run_some-returns-then-workers-eq1 g t c = only_did (g.W.Work.did c.args.map.now) c.args.workers.now c.index-workers-0.result c.work.new.self c.if-workers-eq1.true c.work.ensures

pub run_some-returns : goal.run_some-returns
run_some-returns g t c =
    let did = g.W.Work.did c.args.map.now in
    let front = c.split_at_mut-front.result.0.now in
    let back = c.split_at_mut-front.result.1.now in
    let same : length c.run_both.new.front ≡ length front = omega arith in
    subst (λ ws. EachDid did ws (c.run_both.new.front ++ c.run_both.new.back)) (sym c.split_at_mut-front.ensures.value) (halves_did did front back c.run_both.new.front c.run_both.new.back same c.run_both.ensures.front c.run_both.ensures.back)

pub run_both-other-returns : goal.run_both-other-returns
run_both-other-returns g t c = c.run_some.ensures
