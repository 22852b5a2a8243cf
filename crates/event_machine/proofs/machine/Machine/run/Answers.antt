use Rattle.std.proofs.Common.{sym, ap, ◌∙◌, subst}
use Rattle.feast_base.specs.Counting.{next_count}
use Rattle.event_machine.specs.Works.{counting, Ran}
use Rattle.event_machine.specs.declared.ending.Ended.TheVariants.{Done, Failed}
use Rattle.event_machine.proofs.Running.{running_start, running_more, less_more, ready, ran_failed, ran_done, never_lacks}
use Rattle.event_machine.proofs.machine.Machine.run.Goals as goal

pub loop-steps-init : goal.loop-steps-init
loop-steps-init g c =
    let t = c.tick_after-count.ensures in
    record {
      before = c.args.steps.now;
      running = running_start g.L.Ledger.noted c.args.code.now c.args.self.now c.args.steps.now c.requires;
      tick = record { count = t.count ∙ ap next_count c.count.ensures; noted_once = t.noted };
    }

pub step-requires-clause-ready : goal.step-requires-clause-ready
step-requires-clause-ready g c =
    let i = c.loop-steps.invariant in
    ready g.L.Ledger.noted c.args.code.now c.args.self.now c.loop-steps.self c.args.steps.now i.before i.running

pub loop-steps-smaller : goal.loop-steps-smaller
loop-steps-smaller g c =
    let i = c.loop-steps.invariant in
    less_more g.L.Ledger.noted c.args.code.now c.args.self.now c.loop-steps.self c.step.new.self c.args.steps.now i.before i.running c.in-On.ensures

pub loop-steps-preserved : goal.loop-steps-preserved
loop-steps-preserved g c =
    let i = c.loop-steps.invariant in
    let m = record c.loop-steps.steps { count = c.loop-steps.count } in
    let t = c.tick_after-count-in-On.ensures in
    record {
      before = m;
      running = running_more g.L.Ledger.noted c.args.code.now c.args.self.now c.loop-steps.self c.step.new.self c.args.steps.now i.before i.running m i.tick c.in-On.ensures;
      tick = record { count = t.count; noted_once = t.noted };
    }

pub returns-in-Fail : goal.returns-in-Fail
returns-in-Fail g c =
    let i = c.loop-steps.invariant in
    let m = record c.loop-steps.steps { count = c.loop-steps.count } in
    let r = ran_failed g.L.Ledger.noted c.args.code.now c.args.self.now c.loop-steps.self c.step.new.self c.args.steps.now i.before i.running m i.tick c.in-Fail.n c.in-Fail.ensures in
    subst (λ x. Ran g.L.Ledger.noted c.args.code.now (counting c.args.self.now c.args.steps.now) (counting c.step.new.self x) (Failed c.in-Fail.n)) (sym c.set_count.ensures) r

pub returns-in-Done : goal.returns-in-Done
returns-in-Done g c =
    let i = c.loop-steps.invariant in
    let m = record c.loop-steps.steps { count = c.loop-steps.count } in
    let r = ran_done g.L.Ledger.noted c.args.code.now c.args.self.now c.loop-steps.self c.step.new.self c.args.steps.now i.before i.running m i.tick c.in-Done.ensures in
    subst (λ x. Ran g.L.Ledger.noted c.args.code.now (counting c.args.self.now c.args.steps.now) (counting c.step.new.self x) Done) (sym c.set_count-in-Done.ensures) r

pub unreachable-requires : goal.unreachable-requires
unreachable-requires g c =
    let i = c.loop-steps.invariant in
    never_lacks g.L.Ledger.noted c.args.code.now c.args.self.now c.loop-steps.self c.step.new.self c.args.steps.now i.before i.running c.in-Lack.ensures
