use Rattle.std.proofs.Common.{arith}
use Rattle.event_journal.specs.declared.abandoned.Abandoned.{Abandoned}
use Rattle.journal_check.proofs.Splits.{missing_past, missing_there}
use Rattle.journal_check.proofs.excused.find.Goals as goal

abbrev blank : Abandoned
blank = record { tile = 0; attempt = 0; x = 0; y = 0; edge = 0; holder = 0; holder_attempt = 0 }

pub returns-then-place-abandoned : goal.returns-then-place-abandoned
returns-then-place-abandoned c = missing_past c.args.abandoned.now c.args.tile c.args.attempt c.earlier-place.result c.earlier-place.ensures.before (omega arith)

pub returns-then-found-tile : goal.returns-then-found-tile
returns-then-found-tile c =
    missing_there c.args.abandoned.now c.args.tile c.args.attempt c.earlier-place.result blank c.requires c.earlier-place.ensures.before c.earlier-place.ensures.from (λ e f. omega (arith, e)) (omega arith)

pub returns-else-found-attempt : goal.returns-else-found-attempt
returns-else-found-attempt c =
    missing_there c.args.abandoned.now c.args.tile c.args.attempt c.earlier-place.result blank c.requires c.earlier-place.ensures.before c.earlier-place.ensures.from (λ e f. omega (arith, f)) (omega arith)
