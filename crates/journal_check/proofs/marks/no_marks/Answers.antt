use Rattle.std.proofs.Common.{[], ◌∷◌, ◌++◌, ◌∙◌, sym}
use Rattle.std.proofs.lemmas.Grind.{replicate_next}
use Rattle.journal_check.proofs.marks.no_marks.Goals as goal

pub loop-place-preserved : goal.loop-place-preserved
loop-place-preserved c = c.in_ok-push.ensures.items
    ∙ (λ i. c.loop-place.invariant i ++ c.new.ensures i ∷ []) ∙ sym (replicate_next c.loop-place._place [])
