use Rattle.std.proofs.Common.{◌∙◌, ap, inr}
use Rattle.chain_run.specs.Reading.{read_chain}
use Rattle.feast_run.proofs.LegsSaid.{few_legs, legs_exit}
use Rattle.feast_run.specs.Outputs.{output_text}
use Rattle.feast_run.specs.Values.{elements_value, ready_chain_value}
use Rattle.feast_run.specs.declared.elements.Elements.{Elements}
use Rattle.report_text.specs.Reading.{fault_of}
use Rattle.report_text.specs.Report.{grid_text}
use Rattle.feast_run.proofs.chains.rewind_loaded.Goals as goal

pub returns-in-Ok-Atoms-clause-tells : goal.returns-in-Ok-Atoms-clause-tells
returns-in-Ok-Atoms-clause-tells c =
    let said = rw c.in-Ok-Atoms.field-0-is at c.in-Ok-Atoms.ensures.rewinds in
    inr (record {
      value = said.0;
      passed = said.1;
      rest = (said.2.0, ap (λ (e : Elements). grid_text (elements_value e).names c.in-Ok-Atoms.grid) c.into_elements.ensures ∙ ap (grid_text (elements_value c.args.ready.elements).names) said.2.1);
    })

pub returns-in-Ok-TooFew-clause-tells : goal.returns-in-Ok-TooFew-clause-tells
returns-in-Ok-TooFew-clause-tells c =
    let said = rw c.in-Ok-TooFew.field-0-is at c.in-Ok-TooFew.ensures.rewinds in
    few_legs output_text c.args.word.now c.args.left (ready_chain_value c.args.ready) c.args.bytes.now said.0 c.in-Ok-TooFew.count c.too_few.result said.1 said.2.0 said.2.1 c.too_few.ensures

pub returns-clause-tells : goal.returns-clause-tells
returns-clause-tells c =
    let r = ready_chain_value c.args.ready in
    legs_exit output_text _ c.args.word.now (read_chain r.chain c.args.bytes.now) (fault_of c.in-Err.fault) c.journal_halt.result c.in-Err.ensures.rewinds c.journal_halt.ensures
