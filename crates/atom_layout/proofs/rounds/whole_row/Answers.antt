use Rattle.std.proofs.Common.{List, ℕ, map, ap, ◌∙◌, arith}
use Rattle.ulam_tree.specs.ResolvedViews.{resolved_class}
use Rattle.atom_layout.specs.Rows.{class_row, row_after}
use Rattle.atom_layout.proofs.Told.{row_next}
use Rattle.atom_layout.proofs.rounds.whole_row.Goals as goal

pub loop-init : goal.loop-init
unfolding row_after
loop-init c = c.in_ok-row.ensures.row

pub loop-preserved : goal.loop-preserved
loop-preserved c =
    c.in_ok-row-2.ensures.row
    ∙ ap (λ (r : List ℕ). map (class_row r) (map resolved_class c.args.classes.now)) (c.as_slice.ensures.value ∙ c.loop.invariant)
    ∙ row_next c.loop.counter (map resolved_class c.args.classes.now)

pub returns-clause-row : goal.returns-clause-row
returns-clause-row c = c.loop.invariant ∙ ap (λ (n : ℕ). row_after n (map resolved_class c.args.classes.now)) (omega (arith, c.loop-test.false, c.loop.auto.counter-end))
