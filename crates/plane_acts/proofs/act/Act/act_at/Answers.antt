use Rattle.std.proofs.Common.{◌+◌, ap, sym, ◌∙◌}
use Rattle.plane_acts.specs.Acts.{atom_after}
use Rattle.draw_stream.specs.Words.{tile_word}
use Rattle.plane_acts.proofs.Steps.{site-live, site-dead}
use Rattle.plane_acts.proofs.act.Act.act_at.Goals as goal

pub returns-then-is_live-clause-step : goal.returns-then-is_live-clause-step
returns-then-is_live-clause-step c = λ s up.
    let a = c.args in
    site-live a.self.now s a.x a.y a.words.now c.atom_after-atom.new.words a.grid.now c.set.new.self c.atom_after-atom.result up c.requires.column c.requires.inside (sym c.is_live.ensures ∙ c.if-is_live.true)
    (λ seed n at. c.atom_after-atom.ensures.atom seed n at ∙ ap (atom_after a.self.now (tile_word seed n) (tile_word seed (n + 1))) c.get.ensures)
    c.atom_after-atom.ensures.words c.set.ensures

pub returns-else-is_live-clause-step : goal.returns-else-is_live-clause-step
returns-else-is_live-clause-step c = λ s up.
    let a = c.args in
    site-dead a.self.now s a.x a.y a.words.now c.atom_after-atom.new.words a.grid.now up c.requires.column c.requires.inside (sym c.is_live.ensures ∙ c.if-is_live.false) c.atom_after-atom.ensures.words
