use Rattle.std.proofs.Common.{sym, ap, ◌∙◌, subst, Some}
use Rattle.window_sites.specs.Window.{WindowValue}
use Rattle.stack_code.proofs.Kept.{Kept}
use Rattle.event_machine.specs.Endings.{ending_number}
use Rattle.event_machine.proofs.Runs.{over_is, ticks_are, count_is, most_is, functions_fit, kept_is, ending_is, idle_over, idle_ticks, idle_counted}
use Rattle.event_machine.proofs.machine.Machine.act.Goals as goal

pub returns-then-is_idle-clause-over : goal.returns-then-is_idle-clause-over
returns-then-is_idle-clause-over g c = idle_over c.args.code.now c.args.window.now c.args.seed (c.is_idle.ensures c.if-is_idle.true)

pub returns-then-is_idle-clause-ticks : goal.returns-then-is_idle-clause-ticks
returns-then-is_idle-clause-ticks g c =
    let t = c.tick.ensures in
    idle_ticks c.args.code.now c.args.window.now c.args.seed (c.is_idle.ensures c.if-is_idle.true) g.L.Ledger.noted c.args.steps.now c.tick.new.self (record { count = t.count; noted_once = t.noted })

pub returns-then-is_idle-clause-count : goal.returns-then-is_idle-clause-count
returns-then-is_idle-clause-count g c =
    let t = c.tick.ensures in
    idle_counted c.args.code.now c.args.window.now c.args.seed (c.is_idle.ensures c.if-is_idle.true) g.L.Ledger.noted c.args.steps.now c.tick.new.self (record { count = t.count; noted_once = t.noted })

pub returns-then-is_idle-clause-most : goal.returns-then-is_idle-clause-most
returns-then-is_idle-clause-most g c = most_is c.args.code.now c.args.window.now c.args.seed c.laws.ensures.valid

pub begin-requires : goal.begin-requires
begin-requires g c = functions_fit c.args.code.now c.args.window.now c.laws.ensures.valid

pub run-ended-requires : goal.run-ended-requires
run-ended-requires g c = record { valid = c.laws.ensures.valid; window = c.args.window.now; seed = c.args.seed; start = c.begin.ensures }

pub returns-clause-over : goal.returns-clause-over
returns-clause-over g c =
    over_is g.L.Ledger.noted c.args.code.now c.args.window.now c.args.seed c.begin.new.self c.run-ended.new.self c.args.steps.now c.run-ended.new.steps c.run-ended.result c.begin.ensures c.run-ended.ensures ∙ ap (λ (x : WindowValue). Some (x, ending_number c.run-ended.result)) (sym c.leave.ensures)

pub returns-clause-ending : goal.returns-clause-ending
returns-clause-ending g c = ending_is g.L.Ledger.noted c.args.code.now c.args.window.now c.args.seed c.begin.new.self c.run-ended.new.self c.args.steps.now c.run-ended.new.steps c.run-ended.result c.begin.ensures c.run-ended.ensures

pub returns-clause-ticks : goal.returns-clause-ticks
returns-clause-ticks g c = ticks_are g.L.Ledger.noted c.args.code.now c.args.window.now c.args.seed c.begin.new.self c.run-ended.new.self c.args.steps.now c.run-ended.new.steps c.run-ended.result c.begin.ensures c.run-ended.ensures

pub returns-clause-count : goal.returns-clause-count
returns-clause-count g c = count_is g.L.Ledger.noted c.args.code.now c.args.window.now c.args.seed c.begin.new.self c.run-ended.new.self c.args.steps.now c.run-ended.new.steps c.run-ended.result c.begin.ensures c.run-ended.ensures

pub returns-clause-most : goal.returns-clause-most
returns-clause-most g c = most_is c.args.code.now c.args.window.now c.args.seed c.laws.ensures.valid

pub returns-clause-live : goal.returns-clause-live
returns-clause-live g c =
    let k = kept_is g.L.Ledger.noted c.args.code.now c.args.window.now c.args.seed c.begin.new.self c.run-ended.new.self c.args.steps.now c.run-ended.new.steps c.run-ended.result c.laws-2.ensures.window.centre c.begin.ensures c.run-ended.ensures in
    (subst (λ (v : WindowValue). Kept c.args.window.now v) (sym c.leave.ensures) k).live

pub returns-clause-dead : goal.returns-clause-dead
returns-clause-dead g c =
    let k = kept_is g.L.Ledger.noted c.args.code.now c.args.window.now c.args.seed c.begin.new.self c.run-ended.new.self c.args.steps.now c.run-ended.new.steps c.run-ended.result c.laws-2.ensures.window.centre c.begin.ensures c.run-ended.ensures in
    (subst (λ (v : WindowValue). Kept c.args.window.now v) (sym c.leave.ensures) k).dead
