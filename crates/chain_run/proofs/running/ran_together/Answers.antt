use Rattle.chain_text.specs.Values.{chain_value}
use Rattle.chain_run.proofs.Left.{leg_leaves}
use Rattle.chain_run.proofs.Legs.{is_run}
use Rattle.chain_run.proofs.running.ran_together.Goals as goal

pub threaded_from-requires-clause-plan : goal.threaded_from-requires-clause-plan
threaded_from-requires-clause-plan g c = λ lives bounds. c.in_ok-plan.ensures.runs

pub threaded_from-requires-clause-start : goal.threaded_from-requires-clause-start
threaded_from-requires-clause-start g c = λ lives bounds. let b = c.requires.begins in (c.act.ensures.between b.0 b.1.chain b.1.grid).grid

pub threaded_from-requires-clause-one : goal.threaded_from-requires-clause-one
threaded_from-requires-clause-one g c = λ lives bounds. c.requires.begins.1.actors.one

pub threaded_from-requires-clause-meaning : goal.threaded_from-requires-clause-meaning
threaded_from-requires-clause-meaning g c = λ lives bounds. let actors = c.requires.begins.1.actors in (actors.meaning, actors.same)

pub returns-clause-run : goal.returns-clause-run
returns-clause-run g c = λ means same.
    is_run (chain_value c.args.leg.chain.now) c.args.leg.number c.args.grid c.act.new.grid c.in_ok-plan.plan c.in_ok-outcome.outcome c.in_ok-plan.ensures.plan c.act.ensures.grid means c.requires.several (c.in_ok-outcome.ensures means same)

pub returns-clause-left : goal.returns-clause-left
returns-clause-left g c =
    leg_leaves g.B.Behave.after (chain_value c.args.leg.chain.now) c.args.behaves.items c.args.grid c.act.new.grid c.in_ok-outcome.outcome c.act.ensures.between (λ means same. (c.in_ok-outcome.ensures means same).serial.replayed)
    c.tiles-tiles.ensures.valid
