use Rattle.std.proofs.Common.{ℕ, [], ◌∷◌, ◌++◌, ap, ◌∙◌}
use Rattle.atom_layout.specs.Rows.{class_row}
use Rattle.atom_layout.proofs.Told.{row_on}
use Rattle.atom_layout.proofs.rounds.next_row.Goals as goal

pub loop-class-preserved : goal.loop-class-preserved
loop-class-preserved c =
    c.loop-class.invariant
    ∙ row_on (class_row c.args.row.now) c.args.classes.now c.loop-class.class-index c.class-item.result c.loop-class.next.items c.push.new.self.items c.loop-class-test.true c.class-item.is
    (c.in_ok-push.ensures.items ∙ ap (λ (b : ℕ). c.loop-class.next.items ++ (b ∷ [])) c.class_bits.ensures)
