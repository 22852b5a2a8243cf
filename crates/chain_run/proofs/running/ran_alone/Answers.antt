use Rattle.std.proofs.Common.{◌≡◌, ◌∙◌, ap, arith, length, sym}
use Rattle.cell_grid.specs.Records.{replay}
use Rattle.chain_text.specs.Values.{chain_value}
use Rattle.event_journal.specs.Logs.{records_in}
use Rattle.world_runs.specs.OneTile.{events_of}
use Rattle.chain_run.proofs.Left.{leg_leaves}
use Rattle.chain_run.proofs.Legs.{first_means, is_alone, is_lone_run, lone_events, lone_live}
use Rattle.chain_run.proofs.running.ran_alone.Goals as goal

pub journal-requires-clause-alone : goal.journal-requires-clause-alone
journal-requires-clause-alone g c = λ lives bounds. is_alone (chain_value c.args.leg.chain.now).plane c.in_ok-plan.plan c.in_ok-plan.ensures.runs c.requires.alone

pub log-requires : goal.log-requires
log-requires g c =
    let one : length c.in_ok-journal.journal ≡ 1 = ap length c.in_ok-journal.ensures.logs in
    omega (arith, one)

pub index_mut-requires : goal.index_mut-requires
index_mut-requires g c =
    let long = c.args.behaves.ok.0 in
    let one = c.requires.begins.1.actors.one in
    let alone = c.requires.alone in
    omega (arith, long, one, alone)

pub replay-requires : goal.replay-requires
replay-requires g c =
    let b = c.requires.begins in
    let m = (chain_value c.args.leg.chain.now).plane in
    let plan = c.in_ok-plan.plan in
    let events = lone_events c.in_ok-journal.journal c.log.result.now (events_of m plan) c.records.result.now c.in_ok-journal.ensures.logs c.log.ensures c.records.ensures in
    lone_live m plan c.act.new.grid c.records.result.now c.in_ok-plan.ensures.runs c.requires.alone (c.act.ensures.between b.0 b.1.chain b.1.grid).grid events

pub returns-clause-run : goal.returns-clause-run
returns-clause-run g c = λ means same.
    let m = (chain_value c.args.leg.chain.now).plane in
    let plan = c.in_ok-plan.plan in
    let journal = c.in_ok-journal.journal in
    let events = lone_events journal c.log.result.now (events_of m plan) c.records.result.now c.in_ok-journal.ensures.logs c.log.ensures c.records.ensures in
    let records : c.records.result.now ≡ records_in journal = events ∙ sym c.in_ok-journal.ensures.records in
    let after = g.B.Behave.after in
    let meaning = ap after c.index_mut.ensures.value ∙ first_means after means c.args.behaves.items c.index_mut.result.now same (c.requires.begins.1.actors.one ∙ c.requires.alone) in
    let replayed : c.replay.new.self ≡ replay means c.act.new.grid (records_in journal) = c.replay.ensures.grid ∙ (λ i. replay (meaning i) c.act.new.grid (records i)) in
    is_lone_run (chain_value c.args.leg.chain.now) c.args.leg.number c.args.grid c.act.new.grid plan (record { grid = c.replay.new.self; journal = journal }) c.in_ok-plan.ensures.plan c.act.ensures.grid means (is_alone m plan c.in_ok-plan.ensures.runs c.requires.alone) c.in_ok-journal.ensures.records c.in_ok-journal.ensures.abandoned replayed

pub returns-clause-left : goal.returns-clause-left
returns-clause-left g c =
    let m = (chain_value c.args.leg.chain.now).plane in
    let plan = c.in_ok-plan.plan in
    let journal = c.in_ok-journal.journal in
    let events = lone_events journal c.log.result.now (events_of m plan) c.records.result.now c.in_ok-journal.ensures.logs c.log.ensures c.records.ensures in
    let records : c.records.result.now ≡ records_in journal = events ∙ sym c.in_ok-journal.ensures.records in
    let after = g.B.Behave.after in
    let one = c.requires.begins.1.actors.one ∙ c.requires.alone in
    leg_leaves after (chain_value c.args.leg.chain.now) c.args.behaves.items c.args.grid c.act.new.grid (record { grid = c.replay.new.self; journal = journal }) c.act.ensures.between
    (λ means same. c.replay.ensures.grid ∙ (λ i. replay ((ap after c.index_mut.ensures.value ∙ first_means after means c.args.behaves.items c.index_mut.result.now same one) i) c.act.new.grid (records i)))
    c.tiles-tiles.ensures.valid
