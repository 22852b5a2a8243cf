use Rattle.std.proofs.Common.{◌∙◌, All, subst, sym}
use Rattle.std.proofs.lemmas.List.Elements.{All-append}
use Rattle.bit_field.specs.Atom.{LeavesGap}
use Rattle.event_film.specs.Packed.{high_words, packed}
use Rattle.event_film.proofs.Gaps.{gaps_packed}
use Rattle.event_film.proofs.words.Words.push.Goals as goal

pub invariant_of-self : goal.invariant_of-self
invariant_of-self c =
    let s = c.self.inside in
    let w = c.args.window.now in
    let gaps = All-append LeavesGap s.highs.items (packed (high_words w)) c.self.invariant.1 (gaps_packed w.atoms c.laws.ensures.states) in
    (c.push_highs.ensures.capacity ∙ c.self.invariant.0 ∙ sym c.push_lows.ensures.capacity, subst (All LeavesGap) (sym c.push_highs.ensures.highs) gaps)
