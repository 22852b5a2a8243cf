use Rattle.std.proofs.Common.{[], ◌∷◌, ◌++◌, ◌∙◌, sym}
use Rattle.std.proofs.lemmas.Grind.{replicate_next}
use Rattle.world_text.proofs.draft.empty_lists.Goals as goal

pub loop-i-preserved : goal.loop-i-preserved
loop-i-preserved c = c.in_ok-push.ensures.items ∙ (λ i. c.loop-i.invariant i ++ c.new.ensures i ∷ [])
    ∙ sym (replicate_next c.loop-i._i [])
