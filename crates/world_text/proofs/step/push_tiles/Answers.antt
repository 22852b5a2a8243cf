use Rattle.std.proofs.Common.{ℕ, List, ◌++◌, ap, append_assoc, sym, ◌∙◌}
use Rattle.std.proofs.lemmas.List.{drop_more}
use Rattle.world_text.proofs.step.push_tiles.Goals as goal

pub loop-t-preserved : goal.loop-t-preserved
loop-t-preserved c =
    let tiles = c.args.tiles.now in
    let done = c.loop-t.order.items in
    let first = drop_more tiles c.loop-t.t-index 0 c.loop-t-test.true in
    rw (c.in_ok-push.ensures.items, append_assoc) (ap (λ (ts : List ℕ). done ++ ts) (sym first) ∙ c.loop-t.invariant)
