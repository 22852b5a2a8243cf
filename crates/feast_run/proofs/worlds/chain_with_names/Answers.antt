use Rattle.chain_text.specs.Named.{chain_with_names}
use Rattle.chain_text.specs.Values.{chain_value}
use Rattle.feast_run.proofs.Runs.{names_halt}
use Rattle.world_text.specs.Reading.{fault_of}
use Rattle.feast_run.proofs.worlds.chain_with_names.Goals as goal

pub returns-in-Err-clause-tells : goal.returns-in-Err-clause-tells
returns-in-Err-clause-tells c = names_halt chain_value c.args.word.now (chain_with_names c.args.names.now c.args.draft) (fault_of c.in-Err.fault) c.world_halt.result c.in-Err.ensures.chain c.world_halt.ensures
