use Rattle.feast_run.proofs.Runs.{names_halt}
use Rattle.world_text.specs.Named.{world_with_names}
use Rattle.world_text.specs.Reading.{fault_of}
use Rattle.world_text.specs.Values.{world_value}
use Rattle.feast_run.proofs.worlds.world_with_names.Goals as goal

pub returns-in-Err-clause-tells : goal.returns-in-Err-clause-tells
returns-in-Err-clause-tells c = names_halt world_value c.args.word.now (world_with_names c.args.names.now c.args.draft) (fault_of c.in-Err.fault) c.world_halt.result c.in-Err.ensures.world c.world_halt.ensures
