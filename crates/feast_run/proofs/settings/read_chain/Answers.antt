use Rattle.feast_run.proofs.Runs.{names_halt}
use Rattle.feast_run.proofs.SettingTexts.{chain_drafted, chain_faulty}
use Rattle.feast_run.specs.Stages.{read_setting}
use Rattle.feast_run.specs.Values.{draft_value}
use Rattle.world_text.specs.Reading.{fault_of}
use Rattle.feast_run.proofs.settings.read_chain.Goals as goal

pub returns-in-Ok : goal.returns-in-Ok
returns-in-Ok c = chain_drafted c.args.bytes.now c.in-Ok.draft c.requires.begins c.in-Ok.ensures

pub returns-in-Err : goal.returns-in-Err
returns-in-Err c = names_halt draft_value c.args.word.now (read_setting c.args.bytes.now) (fault_of c.in-Err.fault) c.world_halt.result (chain_faulty c.args.bytes.now (fault_of c.in-Err.fault) c.requires.begins c.in-Err.ensures) c.world_halt.ensures
