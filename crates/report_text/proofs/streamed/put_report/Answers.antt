use Rattle.std.proofs.Common.{◌≡◌, [], ◌++◌, ap, append-nil, refl, subst, sym, ◌∙◌}
use Rattle.event_journal.specs.Logs.{abandoned_in, records_in}
use Rattle.feast_base.specs.Loading.{IsCut}
use Rattle.report_text.specs.Details.{header_by, logs_text_by, report_by}
use Rattle.report_text.specs.Report.{atoms_text, of_logs}
use Rattle.report_text.specs.Writing.{IsTurned}
use Rattle.report_text.proofs.Putting.{puts_cut, puts_last, underway_cut, underway_done, underway_more, underway_none}
use Rattle.report_text.proofs.WrittenLines.{report_parts_by}
use Rattle.report_text.proofs.streamed.put_report.Goals as goal

pub returns-in_err-put_grid : goal.returns-in_err-put_grid
returns-in_err-put_grid g c =
    let detail = c.args.events.now.detail in
    let atoms = atoms_text c.args.names.now c.args.grid.now in
    let grid = c.header-header.result.now ++ atoms in
    let journal = logs_text_by detail c.args.journal.now in
    let text = report_by detail c.args.names.now (of_logs c.args.grid.now c.args.journal.now) in
    let a = g.K.Sink.state c.args.sink.now in
    let b = g.K.Sink.state c.put_grid.new.sink in
    let parts : text ≡ grid ++ journal = report_parts_by detail c.args.names.now c.args.grid.now (records_in c.args.journal.now) (abandoned_in c.args.journal.now)
    ∙ ap (λ z. (z ++ atoms) ++ journal) (sym (c.header-header.ensures ∙ ap header_by c.detail.ensures)) in
    let begun = underway_none a [] text in
    let cut : IsCut a b grid = subst (λ p. IsCut a b (p ++ grid)) c.new-page.ensures c.in_err-put_grid.ensures in
    puts_cut a b [] text c.from_residual.result c.from_residual.ensures.0
    (underway_cut a a b [] [] [] text grid journal text c.from_residual.result c.from_residual.ensures.0 begun parts cut)

pub returns-in_err-put_journal : goal.returns-in_err-put_journal
returns-in_err-put_journal g c =
    let detail = c.args.events.now.detail in
    let atoms = atoms_text c.args.names.now c.args.grid.now in
    let grid = c.header-header.result.now ++ atoms in
    let journal = logs_text_by detail c.args.journal.now in
    let text = report_by detail c.args.names.now (of_logs c.args.grid.now c.args.journal.now) in
    let a = g.K.Sink.state c.args.sink.now in
    let b = g.K.Sink.state c.put_grid.new.sink in
    let parts : text ≡ grid ++ journal = report_parts_by detail c.args.names.now c.args.grid.now (records_in c.args.journal.now) (abandoned_in c.args.journal.now)
    ∙ ap (λ z. (z ++ atoms) ++ journal) (sym (c.header-header.ensures ∙ ap header_by c.detail.ensures)) in
    let begun = underway_none a [] text in
    let d = g.K.Sink.state c.put_journal.new.sink in
    let turned : IsTurned a b [] c.put_grid.new.page grid = subst (λ p. IsTurned a b p c.put_grid.new.page grid) c.new-page.ensures c.in_ok-put_grid.ensures in
    let one = underway_more a a b [] [] c.put_grid.new.page text grid journal text begun parts turned in
    let answer = c.from_residual-in_err-put_journal in
    puts_cut a d [] text answer.result answer.ensures.0
    (underway_cut a b d [] c.put_grid.new.page [] journal journal [] text answer.result answer.ensures.0 one (sym (append-nil journal)) c.in_err-put_journal.ensures)

pub returns : goal.returns
returns g c =
    let detail = c.args.events.now.detail in
    let atoms = atoms_text c.args.names.now c.args.grid.now in
    let grid = c.header-header.result.now ++ atoms in
    let journal = logs_text_by detail c.args.journal.now in
    let text = report_by detail c.args.names.now (of_logs c.args.grid.now c.args.journal.now) in
    let a = g.K.Sink.state c.args.sink.now in
    let b = g.K.Sink.state c.put_grid.new.sink in
    let parts : text ≡ grid ++ journal = report_parts_by detail c.args.names.now c.args.grid.now (records_in c.args.journal.now) (abandoned_in c.args.journal.now)
    ∙ ap (λ z. (z ++ atoms) ++ journal) (sym (c.header-header.ensures ∙ ap header_by c.detail.ensures)) in
    let begun = underway_none a [] text in
    let d = g.K.Sink.state c.put_journal.new.sink in
    let turned : IsTurned a b [] c.put_grid.new.page grid = subst (λ p. IsTurned a b p c.put_grid.new.page grid) c.new-page.ensures c.in_ok-put_grid.ensures in
    let one = underway_more a a b [] [] c.put_grid.new.page text grid journal text begun parts turned in
    let two = underway_more a b d [] c.put_grid.new.page c.put_journal.new.page journal journal [] text one (sym (append-nil journal)) c.in_ok-put_journal.ensures in
    puts_last a d (g.K.Sink.state c.put_last.new.sink) c.put_journal.new.page text c.put_last.result
    (underway_done a d [] c.put_journal.new.page [] text two refl) c.put_last.ensures
