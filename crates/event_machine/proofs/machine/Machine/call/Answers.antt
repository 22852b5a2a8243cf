use Rattle.std.proofs.Common.{◌-◌, Some, rules, arith}
use Rattle.std.proofs.lemmas.Grind.{common_steps}
use Rattle.stack_code.specs.Machine.{enter}
use Rattle.event_machine.specs.Works.{StepsTo}
use Rattle.event_machine.specs.contracts.machine.Machine.{the_view}
use Rattle.event_machine.specs.declared.ending.Leads.TheVariants.{On}
use Rattle.event_machine.proofs.machine.Machine.call.Goals as goal

pub returns-in-Some : goal.returns-in-Some
returns-in-Some c =
    let on : StepsTo (enter c.args.self.now (Some c.args.function.now)) (the_view (record { place = c.first.result; turns = c.self-inside.inside.0.1.0 - 1; running = c.pass.new.self; waiting = c.push_reserved.new.self; spare = c.pop.new.self })) On = first_of (search rules, grind (arith, common_steps)) in
    on
