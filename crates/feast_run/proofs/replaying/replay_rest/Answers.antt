use Rattle.feast_run.proofs.Telling.{tells_exit}
use Rattle.feast_run.specs.Outputs.{output_text}
use Rattle.report_text.specs.Entries.{Entries}
use Rattle.report_text.specs.Report.{grid_text}
use Rattle.std.proofs.Common.{◌∙◌, List, All, ap, inr, subst, sym}
use Rattle.cell_grid.specs.declared.record.Record.{Record}
use Rattle.feast_run.proofs.Runs.{journal_events, ready_valid}
use Rattle.feast_run.specs.Answer.{atoms_after}
use Rattle.feast_run.specs.Values.{elements_value, ready_value}
use Rattle.feast_run.specs.declared.elements.Elements.{Elements}
use Rattle.world_runs.specs.Worlds.{IsLiveEvent}
use Rattle.world_text.specs.Values.{world_value}
use Rattle.feast_run.proofs.replaying.replay_rest.Goals as goal

pub load_journal-requires : goal.load_journal-requires
load_journal-requires g c = ready_valid c.args.ready c.requires

pub grid_after-requires-clause-live : goal.grid_after-requires-clause-live
grid_after-requires-clause-live g c =
    let w = world_value c.args.ready.world in
    let valid = ready_valid c.args.ready c.requires in
    subst (λ (rs : List Record). All (IsLiveEvent w.plane) rs) (sym c.records.ensures) (journal_events _ _ w c.in_ok-journal.journal valid c.in_ok-journal.ensures.tells)

pub returns-clause-tells : goal.returns-clause-tells
returns-clause-tells g c =
    inr (record {
      value = c.in_ok-journal.journal;
      passed = c.in_ok-journal.ensures.tells;
      rest = ap (λ (e : Elements). grid_text (elements_value e).names c.in_ok-grid.grid) c.into_elements.ensures ∙ ap (grid_text (elements_value c.args.ready.elements).names) c.in_ok-grid.ensures.grid ∙ ap (atoms_after (ready_value c.args.ready)) c.records.ensures;
    })

pub returns-in_err-journal-clause-tells : goal.returns-in_err-journal-clause-tells
returns-in_err-journal-clause-tells g c =
    let exit = c.from_residual in
    tells_exit (λ (j : Entries). j) output_text _ _ c.in_err-journal.field-0.0 exit.result exit.ensures.1
    c.in_err-journal.ensures.tells
