use Rattle.std.proofs.Common.{ap, ◌∷◌, [], ◌∙◌}
use Rattle.std.proofs.lemmas.Result.{IfOk-weaker}
use Rattle.event_journal.specs.Logs.{abandoned_in, log_of}
use Rattle.world_runs.specs.OneTile.{events_from}
use Rattle.world_runs.proofs.Alone.{events_few, events_log, journal_holds}
use Rattle.world_runs.proofs.one_tile.journal.Goals as goal

pub journal_of-requires-clause-log : goal.journal_of-requires-clause-log
journal_of-requires-clause-log g c = events_log c.args.map.now c.in_ok-attempts.attempts c.in_ok-records.records.items c.in_ok-records.ensures

pub journal_of-requires-clause-few : goal.journal_of-requires-clause-few
journal_of-requires-clause-few g c = events_few c.args.map.now c.in_ok-attempts.attempts c.in_ok-records.records.items c.in_ok-records.ensures c.in_ok-attempts.ensures.bound

pub returns-clause-records : goal.returns-clause-records
returns-clause-records g c = journal_holds c.args.map.now c.in_ok-attempts.attempts c.args.plan.now c.in_ok-records.records.items c.journal_of.result c.in_ok-attempts.ensures.value c.in_ok-records.ensures c.in_ok-attempts.ensures.bound c.journal_of.ensures

pub returns-clause-abandoned : goal.returns-clause-abandoned
returns-clause-abandoned g c = IfOk-weaker c.journal_of.result _ _ (λ j is. ap abandoned_in is) c.journal_of.ensures

pub returns-clause-logs : goal.returns-clause-logs
returns-clause-logs g c =
    let m = c.args.map.now in
    IfOk-weaker c.journal_of.result _ _ (λ j is. is ∙ ap (λ rs. log_of 0 rs [] ∷ []) (c.in_ok-records.ensures ∙ ap (events_from m 0) c.in_ok-attempts.ensures.value)) c.journal_of.ensures
