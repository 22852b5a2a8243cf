use Rattle.std.proofs.Common.{ℕ, List, Bool, map, ap, ◌∙◌, arith}
use Rattle.ulam_names.specs.Rounds.{leads_row, row_after}
use Rattle.ulam_names.specs.Shown.{head_of}
use Rattle.ulam_names.proofs.Rounds.{row_first, row_next}
use Rattle.ulam_names.proofs.cycle.whole_row.Goals as goal

pub loop-init : goal.loop-init
loop-init c = c.new-row.ensures.items ∙ row_first (map head_of c.args.classes.now) c.args.goal

pub loop-preserved : goal.loop-preserved
loop-preserved c =
    c.in_ok-row.ensures.row
    ∙ ap (λ (r : List Bool). leads_row r c.args.goal (map head_of c.args.classes.now)) (c.as_slice.ensures.value ∙ c.loop.invariant)
    ∙ row_next c.loop.counter (map head_of c.args.classes.now) c.args.goal

pub returns-clause-row : goal.returns-clause-row
returns-clause-row c = c.loop.invariant ∙ ap (λ (n : ℕ). row_after n (map head_of c.args.classes.now) c.args.goal) (omega (arith, c.loop-test.false, c.loop.auto.counter-end))
