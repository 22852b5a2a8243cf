use Rattle.std.proofs.Common.{inr}
use Rattle.chain_run.specs.Reading.{read_chain}
use Rattle.feast_run.proofs.LegsSaid.{legs_exit}
use Rattle.feast_run.specs.Outputs.{output_text}
use Rattle.feast_run.specs.Values.{ready_chain_value}
use Rattle.report_text.specs.Reading.{fault_of}
use Rattle.feast_run.proofs.chains.audit_loaded.Goals as goal

pub returns-in_ok-chain_judgement_line-in-Ok-clause-tells : goal.returns-in_ok-chain_judgement_line-in-Ok-clause-tells
returns-in_ok-chain_judgement_line-in-Ok-clause-tells c =
    let said = c.in-Ok.ensures in
    inr (record {
      value = said.0;
      passed = said.1;
      rest = record { judgement = c.in-Ok.judgement; judges = said.2; shown = c.in_ok-chain_judgement_line-in-Ok.ensures };
    })

pub returns-in-Err-clause-tells : goal.returns-in-Err-clause-tells
returns-in-Err-clause-tells c =
    let r = ready_chain_value c.args.ready.now in
    legs_exit output_text _ c.args.word.now (read_chain r.chain c.args.bytes.now) (fault_of c.in-Err.fault) c.journal_halt.result c.in-Err.ensures c.journal_halt.ensures
