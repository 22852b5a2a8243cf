use Rattle.std.proofs.Common.{[], ◌∷◌, ◌++◌, ◌∙◌, sym}
use Rattle.std.proofs.lemmas.Grind.{replicate_next}
use Rattle.tile_threads.proofs.edges.no_passes.Goals as goal

pub loop-tile-preserved : goal.loop-tile-preserved
loop-tile-preserved c = c.in_ok-push.ensures.items ∙ (λ i. c.loop-tile.invariant i ++ c.new.ensures i ∷ [])
    ∙ sym (replicate_next c.loop-tile._tile [])
