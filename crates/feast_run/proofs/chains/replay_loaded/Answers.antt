use Rattle.std.proofs.Common.{◌∙◌, ap, inr}
use Rattle.chain_run.specs.Reading.{read_chain}
use Rattle.feast_run.proofs.LegsSaid.{legs_exit}
use Rattle.feast_run.specs.Outputs.{output_text}
use Rattle.feast_run.specs.Values.{elements_value, ready_chain_value}
use Rattle.feast_run.specs.declared.elements.Elements.{Elements}
use Rattle.report_text.specs.Reading.{fault_of}
use Rattle.report_text.specs.Report.{grid_text}
use Rattle.feast_run.proofs.chains.replay_loaded.Goals as goal

pub returns-in-Ok-clause-tells : goal.returns-in-Ok-clause-tells
returns-in-Ok-clause-tells c =
    let said = c.in-Ok.ensures.grid in
    inr (record {
      value = said.0;
      passed = said.1;
      rest = ap (λ (e : Elements). grid_text (elements_value e).names c.in-Ok.grid) c.into_elements.ensures ∙ ap (grid_text (elements_value c.args.ready.elements).names) said.2;
    })

pub returns-clause-tells : goal.returns-clause-tells
returns-clause-tells c =
    let r = ready_chain_value c.args.ready in
    legs_exit output_text _ c.args.word.now (read_chain r.chain c.args.bytes.now) (fault_of c.in-Err.fault) c.journal_halt.result c.in-Err.ensures.grid c.journal_halt.ensures
