use Rattle.std.proofs.Common.{◌≡◌, sym, ap, ◌∙◌, ◌++◌, ◌∷◌, []}
use Rattle.tile_core.specs.Kept.{value_of}
use Rattle.tile_core.specs.Steps.{refused_phase, refused_entry}
use Rattle.tile_core.proofs.Kept.{refused_value, refused_none, refused_some}
use Rattle.tile_core.proofs.state.State.note_refusal.Goals as goal
use Rattle.tile_core.proofs.state.State.note_refusal.Goals.{then-self-eq0, else-self-eq0}

pub returns-clause-refused : goal.returns-clause-refused
returns-clause-refused c =
    let s = c.args.self.now in
    let phase : c.if-self-eq0.self ≡ refused_phase s.next s.attempts = elim c.if-self-eq0.branch [
      | then-self-eq0 w ↦ w.self-is ∙ w.over-self.ensures.phase ∙ sym (refused_none s.next s.attempts w.if-self-eq0.true)
      | else-self-eq0 w ↦ w.self-is ∙ sym (refused_some s.next s.attempts w.if-self-eq0.false)
    ] in
    let entry : c.push_reserved.new.self.items ≡ s.abandoned.items ++ refused_entry c.args.map.now (value_of s) c.args.edge c.args.holder_attempt ∷ [] =
    c.push_reserved.ensures.items ∙ ap (λ h. s.abandoned.items ++ record (refused_entry c.args.map.now (value_of s) c.args.edge c.args.holder_attempt) { holder = h } ∷ []) c.other_end.ensures in
    let is = refused_value s c.if-self-eq0.self c.requires.phase phase in
    λ i. record (is i) { abandoned = entry i }
