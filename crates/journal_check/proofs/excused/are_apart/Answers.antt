use Rattle.std.proofs.Common.{refl, arith}
use Rattle.journal_check.specs.declared.mark.Mark.{Mark}
use Rattle.journal_check.proofs.Splits.{apart_is, apart_none, apart_past}
use Rattle.journal_check.proofs.excused.are_apart.Goals as goal

abbrev blank : Mark
blank = record { attempt = 0; stamp = 0 }

pub returns-then-end-eq0 : goal.returns-then-end-eq0
returns-then-end-eq0 c = ((λ _. apart_none c.args.first.now c.args.second.now c.args.below c.args.from c.behind-end.result c.behind-end.ensures (omega arith)), (λ _. refl))

pub returns-then-start-second : goal.returns-then-start-second
returns-then-start-second c = ((λ _. apart_past c.args.first.now c.args.second.now c.args.below c.args.from c.behind-start.result c.behind-start.ensures (omega arith)), (λ _. refl))

pub returns : goal.returns
returns c =
    apart_is c.args.first.now c.args.second.now c.args.below c.args.from c.behind-end.result c.behind-start.result blank c.requires.first c.requires.second c.behind-end.ensures c.behind-start.ensures
    (λ e. omega (arith, e)) (λ e. omega (arith, e))
