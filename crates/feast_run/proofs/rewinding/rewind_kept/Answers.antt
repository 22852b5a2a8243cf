use Rattle.std.proofs.Common.{◌∙◌, ◌≤◌, List, All, ap, length, sym, subst}
use Rattle.std.specs.Prelude.{take}
use Rattle.cell_grid.specs.declared.record.Record.{Record}
use Rattle.feast_run.specs.Answer.{atoms_after}
use Rattle.feast_run.specs.Values.{elements_value, ready_value}
use Rattle.feast_run.specs.declared.elements.Elements.{Elements}
use Rattle.report_text.specs.Report.{grid_text}
use Rattle.world_runs.specs.Worlds.{IsLiveEvent}
use Rattle.world_text.specs.Values.{world_value}
use Rattle.feast_run.proofs.rewinding.rewind_kept.Goals as goal

pub grid_rewound-requires-clause-live : goal.grid_rewound-requires-clause-live
grid_rewound-requires-clause-live c = subst (λ (rs : List Record). All (IsLiveEvent (world_value c.args.ready.world).plane) rs) (sym c.records.ensures) c.requires.live

pub grid_rewound-requires-clause-enough : goal.grid_rewound-requires-clause-enough
grid_rewound-requires-clause-enough c = subst (λ (rs : List Record). c.args.left ≤ length rs) (sym c.records.ensures) c.requires.enough

pub returns-clause-tells : goal.returns-clause-tells
returns-clause-tells c =
    let shown = ap (λ (e : Elements). grid_text (elements_value e).names c.in_ok-grid.grid) c.into_elements.ensures in
    (c.requires.enough, shown ∙ ap (grid_text (elements_value c.args.ready.elements).names) c.in_ok-grid.ensures.grid ∙ ap (λ (rs : List Record). atoms_after (ready_value c.args.ready) (take c.args.left rs)) c.records.ensures)
