use Rattle.std.proofs.Common.{◌≡◌, List, sym, ap, subst, ◌∙◌}
use Rattle.std.proofs.lemmas.Option.{MatchOption-at_none, MatchOption-at_some}
use Rattle.plane_grid.specs.PlaneGrids.{IsGridOf}
use Rattle.cell_grid.specs.Grid.{GridValue}
use Rattle.cell_grid.specs.Records.{replay}
use Rattle.cell_grid.specs.declared.record.Record.{Record}
use Rattle.event_journal.specs.Accounts.{AreExcused, IsAccounted, IsStamped}
use Rattle.event_journal.specs.Serial.{IsSerial, course}
use Rattle.event_journal.specs.declared.abandoned.Abandoned.{Abandoned}
use Rattle.journal_check.specs.Clocks.{IsFirstMisstamped}
use Rattle.journal_check.specs.Excuses.{IsFirstUnexcused}
use Rattle.journal_check.proofs.Living.{all_gone_inside, events_inside, events_live}
use Rattle.journal_check.proofs.Marking.{marks_rise}
use Rattle.journal_check.proofs.auditing.audit.Goals as goal

moved : (P : List Record → List Abandoned → Type 0) (rs rs' : List Record) (gs gs' : List Abandoned) → rs ≡ rs' → gs ≡ gs' → P rs gs → P rs' gs'
moved P rs rs' gs gs' e f p = subst (λ q. P q gs') e (subst (P rs) f p)

pub first_misstamped-requires : goal.first_misstamped-requires
first_misstamped-requires g c =
    events_inside c.args.map.now c.laws.ensures.valid c.args.plan.now c.requires.plan c.records-records.result.now c.abandoned-abandoned.result.now (c.in_ok-is_accounted.ensures.0 c.if-not-branch.false)

pub first_unexcused-requires-clause-events : goal.first_unexcused-requires-clause-events
first_unexcused-requires-clause-events g c =
    events_inside c.args.map.now c.laws.ensures.valid c.args.plan.now c.requires.plan c.records-records.result.now c.abandoned-abandoned.result.now (c.in_ok-is_accounted.ensures.0 c.if-not-branch.false)

pub first_unexcused-requires-clause-inside : goal.first_unexcused-requires-clause-inside
first_unexcused-requires-clause-inside g c =
    all_gone_inside c.args.map.now c.laws.ensures.valid c.args.plan.now c.requires.plan c.records-records.result.now c.abandoned-abandoned.result.now (c.in_ok-is_accounted.ensures.0 c.if-not-branch.false)

pub first_unexcused-requires-clause-rising : goal.first_unexcused-requires-clause-rising
first_unexcused-requires-clause-rising g c =
    marks_rise c.args.map.now c.args.plan.now c.records-records.result.now c.abandoned-abandoned.result.now c.requires.plan.lists (c.in_ok-is_accounted.ensures.0 c.if-not-branch.false)

pub returns-in-Some-2-clause-verdict : goal.returns-in-Some-2-clause-verdict
returns-in-Some-2-clause-verdict g c =
    let m = c.args.map.now in
    let plan = c.args.plan.now in
    let rs = c.records-records.result.now in
    let gs = c.abandoned-abandoned.result.now in
    let k = c.in-Some-2.k in
    let accounted = c.in_ok-is_accounted.ensures.0 c.if-not-branch.false in
    let stamped = MatchOption-at_none (IsStamped m rs) (IsFirstMisstamped m rs) c.in_default.is c.in_ok-k.ensures in
    let first = MatchOption-at_some (AreExcused m plan rs gs) (IsFirstUnexcused m plan rs gs) k c.in-Some-2.is (c.in_ok-k-2.ensures plan accounted) in
    moved (λ r a. IsAccounted m plan r a × IsStamped m r × IsFirstUnexcused m plan r a k) rs c.args.journal.now.records gs c.args.journal.now.abandoned c.records-records.ensures c.abandoned-abandoned.ensures
    (accounted, stamped, first)

pub replay-requires : goal.replay-requires
replay-requires g c =
    events_live c.args.map.now c.laws.ensures.valid c.args.plan.now c.requires.plan c.records-records.result.now c.abandoned-abandoned.result.now (c.in_ok-is_accounted.ensures.0 c.if-not-branch.false)
    c.args.start c.requires.start.1

pub returns-clause-verdict : goal.returns-clause-verdict
returns-clause-verdict g c =
    let m = c.args.map.now in
    let plan = c.args.plan.now in
    let rs = c.records-records.result.now in
    let gs = c.abandoned-abandoned.result.now in
    let accounted = c.in_ok-is_accounted.ensures.0 c.if-not-branch.false in
    let stamped = MatchOption-at_none (IsStamped m rs) (IsFirstMisstamped m rs) c.in_default.is c.in_ok-k.ensures in
    let excused = MatchOption-at_none (AreExcused m plan rs gs) (IsFirstUnexcused m plan rs gs) c.in_default-2.is (c.in_ok-k-2.ensures plan accounted) in
    let after = g.B.Behave.after c.args.behave.now in
    let grid = c.replay.ensures.grid in
    moved (λ r a. IsSerial (course m plan after c.args.start) c.replay.new.self r a) rs c.args.journal.now.records gs c.args.journal.now.abandoned c.records-records.ensures c.abandoned-abandoned.ensures
    (record { owes = record { accounted = accounted; stamped = stamped; excused = excused }; replayed = grid })
