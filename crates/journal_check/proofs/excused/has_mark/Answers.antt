use Rattle.std.proofs.Common.{arith, subst}
use Rattle.journal_check.specs.declared.mark.Mark.{Mark}
use Rattle.journal_check.specs.Marks.{IsSplit}
use Rattle.journal_check.proofs.Splits.{mark_is, no_mark}
use Rattle.journal_check.proofs.excused.has_mark.Goals as goal

abbrev blank : Mark
blank = record { attempt = 0; stamp = 0 }

pub returns-then-place-marks : goal.returns-then-place-marks
returns-then-place-marks c =
    let s = subst (λ n. IsSplit c.args.marks.now n c.behind-place.result) c.from.ensures c.behind-place.ensures in
    ((λ e. cc), (λ h. absurd (no_mark c.args.marks.now c.args.attempt c.behind-place.result s (omega arith) h)))

pub returns : goal.returns
returns c =
    let s = subst (λ n. IsSplit c.args.marks.now n c.behind-place.result) c.from.ensures c.behind-place.ensures in
    mark_is c.args.marks.now c.args.attempt c.behind-place.result blank c.requires s (λ e. omega (arith, e))
