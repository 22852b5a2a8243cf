use Rattle.chain_run.specs.Runs.{IsStepLeg}
use Rattle.chain_text.specs.Values.{chain_value}
use Rattle.feast_run.proofs.LegsMade.{can_begin, left_by}
use Rattle.feast_run.proofs.Machines.{outcome_by}
use Rattle.feast_run.specs.Acting.{acts}
use Rattle.feast_run.specs.Values.{elements_value}
use Rattle.feast_run.proofs.legs.stepped_leg.Goals as goal

pub step_leg-requires : goal.step_leg-requires
step_leg-requires c =
    let r = c.args.ready.now in
    let can = can_begin r c.args.grid c.tiles.result c.in_ok-actors.actors.items c.requires.ready c.requires.between c.tiles.ensures.count c.in_ok-actors.ensures.many c.in_ok-actors.ensures.acts in
    record { begins = ((elements_value r.elements).names, can) }

pub returns-clause-made : goal.returns-clause-made
returns-clause-made c =
    let r = c.args.ready.now in
    outcome_by acts (λ means o. IsStepLeg (chain_value r.chain) means c.args.number c.args.grid o) (elements_value r.elements).meaning c.in_ok-actors.actors.items c.step_leg.result c.in_ok-actors.ensures.acts c.step_leg.ensures.run

pub returns-clause-left : goal.returns-clause-left
returns-clause-left c =
    let r = c.args.ready.now in
    let can = can_begin r c.args.grid c.tiles.result c.in_ok-actors.actors.items c.requires.ready c.requires.between c.tiles.ensures.count c.in_ok-actors.ensures.many c.in_ok-actors.ensures.acts in
    left_by acts (elements_value r.elements).names (chain_value r.chain) c.args.grid c.in_ok-actors.actors.items c.step_leg.result can c.step_leg.ensures.left
