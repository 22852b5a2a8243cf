use Rattle.tile_threads.proofs.worker.run_tiles.Goals as goal

pub returns-clause-worked : goal.returns-clause-worked
returns-clause-worked g c k none lt = (c.run_some.ensures k none lt).0

pub returns-clause-moved : goal.returns-clause-moved
returns-clause-moved g c k none lt = (c.run_some.ensures k none lt).1
