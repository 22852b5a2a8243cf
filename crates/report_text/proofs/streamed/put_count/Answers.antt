use Rattle.std.proofs.Common.{◌∷◌, ◌++◌, sym, rules}
use Rattle.std.specs.Prelude.{[], decimal}
use Rattle.text_lines.specs.Lines.{ended_line}
use Rattle.report_text.specs.JournalText.{count_fields}
use Rattle.report_text.proofs.Putting.{underway_cut, underway_last, underway_more, underway_none}
use Rattle.report_text.proofs.WrittenLines.{count_parts, end_written}
use Rattle.report_text.proofs.streamed.put_count.Goals as goal

pub returns-in_err-put_bytes : goal.returns-in_err-put_bytes
returns-in_err-put_bytes g c =
    let word = c.args.word.now in
    let text = ended_line (count_fields word c.args.count) in
    let begun = underway_none (g.K.Sink.state c.args.sink.now) c.args.page.now text in
    underway_cut _ _ _ _ _ _ text word (32 ∷ (decimal c.args.count ++ 10 ∷ [])) text c.from_residual.result c.from_residual.ensures.0 begun (sym (count_parts word c.args.count)) c.in_err-put_bytes.ensures

pub returns : goal.returns
returns g c =
    let word = c.args.word.now in
    let text = ended_line (count_fields word c.args.count) in
    let line = 32 ∷ (decimal c.args.count ++ 10 ∷ []) in
    let begun = underway_none (g.K.Sink.state c.args.sink.now) c.args.page.now text in
    let one = underway_more _ _ _ _ _ _ text word line text begun (sym (count_parts word c.args.count)) c.in_ok-put_bytes.ensures in
    let written = end_written 22 c.write_count-start.result c.write_count-start.new.line line (search rules) c.write_count-start.ensures.written in
    underway_last _ _ _ _ _ _ line text c.put_bytes-2.result one (rw written at c.put_bytes-2.ensures)
