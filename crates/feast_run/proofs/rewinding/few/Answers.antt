use Rattle.std.proofs.Common.{List, length, subst}
use Rattle.cell_grid.specs.declared.record.Record.{Record}
use Rattle.feast_run.proofs.Judged.{few_told}
use Rattle.feast_run.specs.Faults.{IsHalt}
use Rattle.feast_run.specs.Outputs.{output_text}
use Rattle.feast_run.specs.Stages.{records_refused}
use Rattle.feast_run.specs.Values.{ready_value}
use Rattle.feast_run.proofs.rewinding.few.Goals as goal

pub returns : goal.returns
returns c =
    let halt = subst (λ (rs : List Record). IsHalt (records_refused c.args.word.now (length rs)) c.too_few.result) c.records.ensures c.too_few.ensures in
    few_told output_text c.args.word.now c.args.left (ready_value c.args.ready.now) c.args.journal.now c.too_few.result c.requires halt
