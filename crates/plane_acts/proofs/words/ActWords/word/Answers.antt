use Rattle.std.proofs.Common.{rules, ◌≡◌, List, ℕ, sym, ap, ◌∙◌}
use Rattle.draw_stream.specs.Words.{tile_step}
use Rattle.draw_stream.proofs.Places.{tile_state-more}
use Rattle.plane_acts.proofs.words.ActWords.word.Goals as goal

pub returns-clause-after : goal.returns-clause-after
unfolding tile_step
returns-clause-after c = λ seed n at.
    let moved : c.next_word.new.self ≡ (tile_step c.args.self.now).1 = search rules in
    let step : List ℕ → List ℕ = λ s. (tile_step s).1 in
    moved ∙ ap step at ∙ sym (tile_state-more seed n)
