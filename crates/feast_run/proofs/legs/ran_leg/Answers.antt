use denote.Param.Send.{sendable}
use Rattle.std.proofs.Crossing.{crosses}
use Rattle.code_file.proofs.set.CodeSet.TheSendSync as CodeSet
use Rattle.event_machine.proofs.machine.Machine.TheSendSync as Machine
use Rattle.element_set.proofs.Sharing.{set_sync}
use Rattle.chain_run.specs.Chains.{making}
use Rattle.chain_run.specs.Runs.{IsRunLeg}
use Rattle.chain_text.specs.Values.{chain_value}
use Rattle.feast_run.proofs.LegsMade.{can_begin, left_by}
use Rattle.feast_run.proofs.Machines.{outcome_by}
use Rattle.feast_run.specs.Acting.{acts}
use Rattle.feast_run.specs.Values.{elements_value}
use Rattle.feast_run.proofs.legs.ran_leg.Goals as goal

pub run_leg-requires : goal.run_leg-requires
run_leg-requires g c = λ lives.
    let r = c.args.ready.now in
    let can = can_begin r c.args.grid c.tiles.result c.in_ok-actors.actors.items c.requires.ready c.requires.between c.tiles.ensures.count c.in_ok-actors.ensures.many c.in_ok-actors.ensures.acts in
    (search (sendable, crosses, set_sync, CodeSet.the_sync, Machine.the_send) depth 16, (search (sendable, crosses) depth 16, (search (sendable, crosses) depth 16, ((elements_value r.elements).names, can))))

pub returns-clause-made : goal.returns-clause-made
returns-clause-made g c =
    let r = c.args.ready.now in
    outcome_by acts (λ means o. IsRunLeg (making (chain_value r.chain) means) c.args.number c.args.grid o) (elements_value r.elements).meaning c.in_ok-actors.actors.items c.run_leg.result c.in_ok-actors.ensures.acts c.run_leg.ensures.run

pub returns-clause-left : goal.returns-clause-left
returns-clause-left g c =
    let r = c.args.ready.now in
    let can = can_begin r c.args.grid c.tiles.result c.in_ok-actors.actors.items c.requires.ready c.requires.between c.tiles.ensures.count c.in_ok-actors.ensures.many c.in_ok-actors.ensures.acts in
    left_by acts (elements_value r.elements).names (chain_value r.chain) c.args.grid c.in_ok-actors.actors.items c.run_leg.result can c.run_leg.ensures.left
