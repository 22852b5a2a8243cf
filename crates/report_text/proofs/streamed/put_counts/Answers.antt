use Rattle.std.proofs.Common.{◌≡◌, ◌++◌, codes, refl}
use Rattle.text_lines.specs.Lines.{ended_line}
use Rattle.report_text.specs.JournalText.{count_fields}
use Rattle.report_text.specs.Report.{atoms_text}
use Rattle.report_text.specs.Short.{counts_report}
use Rattle.report_text.proofs.Putting.{underway_cut, underway_last, underway_more, underway_none}
use Rattle.report_text.proofs.WrittenLines.{counts_parts}
use Rattle.report_text.proofs.streamed.put_counts.Goals as goal

pub returns-in_err-put_grid : goal.returns-in_err-put_grid
returns-in_err-put_grid g c =
    let names = c.args.names.now in
    let grid = codes "feast 3\n" ++ atoms_text names c.args.grid.now in
    let events = ended_line (count_fields (codes "journal") c.args.events) in
    let abandoned = ended_line (count_fields (codes "abandoned") c.args.abandoned) in
    let text = counts_report names c.args.grid.now c.args.events c.args.abandoned in
    let parts : text ≡ grid ++ (events ++ abandoned) = counts_parts names c.args.grid.now c.args.events c.args.abandoned in
    let begun = underway_none (g.K.Sink.state c.args.sink.now) c.args.page.now text in
    underway_cut _ _ (g.K.Sink.state c.put_grid.new.sink) _ _ _ text grid (events ++ abandoned) text
    c.from_residual.result c.from_residual.ensures.0 begun parts c.in_err-put_grid.ensures

pub returns-in_err-put_count : goal.returns-in_err-put_count
returns-in_err-put_count g c =
    let names = c.args.names.now in
    let grid = codes "feast 3\n" ++ atoms_text names c.args.grid.now in
    let events = ended_line (count_fields (codes "journal") c.args.events) in
    let abandoned = ended_line (count_fields (codes "abandoned") c.args.abandoned) in
    let text = counts_report names c.args.grid.now c.args.events c.args.abandoned in
    let parts : text ≡ grid ++ (events ++ abandoned) = counts_parts names c.args.grid.now c.args.events c.args.abandoned in
    let begun = underway_none (g.K.Sink.state c.args.sink.now) c.args.page.now text in
    let one = underway_more _ _ (g.K.Sink.state c.put_grid.new.sink) _ _ c.put_grid.new.page text grid (events ++ abandoned) text begun parts c.in_ok-put_grid.ensures in
    underway_cut _ (g.K.Sink.state c.put_grid.new.sink) (g.K.Sink.state c.put_count.new.sink) _ c.put_grid.new.page _ (events ++ abandoned) events abandoned text
    c.from_residual-in_err-put_count.result c.from_residual-in_err-put_count.ensures.0 one refl c.in_err-put_count.ensures

pub returns : goal.returns
returns g c =
    let names = c.args.names.now in
    let grid = codes "feast 3\n" ++ atoms_text names c.args.grid.now in
    let events = ended_line (count_fields (codes "journal") c.args.events) in
    let abandoned = ended_line (count_fields (codes "abandoned") c.args.abandoned) in
    let text = counts_report names c.args.grid.now c.args.events c.args.abandoned in
    let parts : text ≡ grid ++ (events ++ abandoned) = counts_parts names c.args.grid.now c.args.events c.args.abandoned in
    let begun = underway_none (g.K.Sink.state c.args.sink.now) c.args.page.now text in
    let one = underway_more _ _ (g.K.Sink.state c.put_grid.new.sink) _ _ c.put_grid.new.page text grid (events ++ abandoned) text begun parts c.in_ok-put_grid.ensures in
    let two = underway_more _ (g.K.Sink.state c.put_grid.new.sink) (g.K.Sink.state c.put_count.new.sink) _ c.put_grid.new.page c.put_count.new.page (events ++ abandoned) events abandoned text one refl c.in_ok-put_count.ensures in
    underway_last _ (g.K.Sink.state c.put_count.new.sink) (g.K.Sink.state c.put_count-2.new.sink) _ c.put_count.new.page _ abandoned text c.put_count-2.result two c.put_count-2.ensures
