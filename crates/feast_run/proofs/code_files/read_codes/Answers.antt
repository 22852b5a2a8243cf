use Rattle.feast_run.proofs.CodeStages.{codes_halt}
use Rattle.feast_run.proofs.code_files.read_codes.Goals as goal

pub returns-in-Err : goal.returns-in-Err
returns-in-Err c = codes_halt (λ es. es) c.args.word.now c.args.bytes.now c.in-Err.fault c.code_halt.result c.in-Err.ensures.tells c.code_halt.ensures
