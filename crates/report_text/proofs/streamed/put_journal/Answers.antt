use Rattle.std.proofs.Common.{◌≡◌, ◌++◌, ap, append_assoc, codes, length, sym, ◌∙◌}
use Rattle.text_lines.specs.Lines.{ended_line}
use Rattle.event_journal.specs.Logs.{abandoned_in, records_in}
use Rattle.report_text.specs.Details.{abandoned_text, logs_text_by, records_text}
use Rattle.report_text.specs.JournalText.{count_fields}
use Rattle.report_text.specs.Writing.{Streams, heading}
use Rattle.report_text.proofs.Putting.{underway_cut, underway_last, underway_more, underway_none}
use Rattle.report_text.proofs.streamed.put_journal.Goals as goal

pub returns-in_err-put_count : goal.returns-in_err-put_count
returns-in_err-put_count g c =
    let journal = c.args.journal.now in
    let detail = c.args.events.now.detail in
    let records = records_text detail (records_in journal) in
    let abandoned = abandoned_text detail (abandoned_in journal) in
    let second = ended_line (count_fields (codes "abandoned") (length (abandoned_in journal))) in
    let first = ended_line (count_fields (codes "journal") c.len.result) in
    let text = logs_text_by detail journal in
    let begun = underway_none (g.K.Sink.state c.args.sink.now) c.args.page.now text in
    let begins : text ≡ first ++ (records ++ (second ++ abandoned)) =
    append_assoc (ended_line (count_fields (codes "journal") (length (records_in journal)))) records (second ++ abandoned)
    ∙ ap (λ n. ended_line (count_fields (codes "journal") n) ++ (records ++ (second ++ abandoned))) (sym c.len.ensures.value) in
    underway_cut _ _ (g.K.Sink.state c.put_count.new.sink) _ _ _ text first (records ++ (second ++ abandoned)) text
    c.from_residual.result c.from_residual.ensures.0 begun begins c.in_err-put_count.ensures

pub returns-in_err-put_events : goal.returns-in_err-put_events
returns-in_err-put_events g c =
    let journal = c.args.journal.now in
    let detail = c.args.events.now.detail in
    let records = records_text detail (records_in journal) in
    let abandoned = abandoned_text detail (abandoned_in journal) in
    let second = ended_line (count_fields (codes "abandoned") (length (abandoned_in journal))) in
    let first = ended_line (count_fields (codes "journal") c.len.result) in
    let text = logs_text_by detail journal in
    let begun = underway_none (g.K.Sink.state c.args.sink.now) c.args.page.now text in
    let begins : text ≡ first ++ (records ++ (second ++ abandoned)) =
    append_assoc (ended_line (count_fields (codes "journal") (length (records_in journal)))) records (second ++ abandoned)
    ∙ ap (λ n. ended_line (count_fields (codes "journal") n) ++ (records ++ (second ++ abandoned))) (sym c.len.ensures.value) in
    let one = underway_more _ _ (g.K.Sink.state c.put_count.new.sink) _ _ c.put_count.new.page text first (records ++ (second ++ abandoned)) text begun begins c.in_ok-put_count.ensures in
    let events = c.args.events.now.text in
    let walked : records ++ (second ++ abandoned) ≡ events ++ (second ++ abandoned) = ap (λ z. z ++ (second ++ abandoned)) (sym c.requires.all) in
    underway_cut _ (g.K.Sink.state c.put_count.new.sink) (g.K.Sink.state c.put_events.new.sink) _ c.put_count.new.page _ (records ++ (second ++ abandoned)) events (second ++ abandoned) text
    c.from_residual-in_err-put_events.result c.from_residual-in_err-put_events.ensures.0 one walked c.in_err-put_events.ensures

pub returns-in_err-put_count-2 : goal.returns-in_err-put_count-2
returns-in_err-put_count-2 g c =
    let journal = c.args.journal.now in
    let detail = c.args.events.now.detail in
    let records = records_text detail (records_in journal) in
    let abandoned = abandoned_text detail (abandoned_in journal) in
    let second = ended_line (count_fields (codes "abandoned") (length (abandoned_in journal))) in
    let first = ended_line (count_fields (codes "journal") c.len.result) in
    let text = logs_text_by detail journal in
    let begun = underway_none (g.K.Sink.state c.args.sink.now) c.args.page.now text in
    let begins : text ≡ first ++ (records ++ (second ++ abandoned)) =
    append_assoc (ended_line (count_fields (codes "journal") (length (records_in journal)))) records (second ++ abandoned)
    ∙ ap (λ n. ended_line (count_fields (codes "journal") n) ++ (records ++ (second ++ abandoned))) (sym c.len.ensures.value) in
    let one = underway_more _ _ (g.K.Sink.state c.put_count.new.sink) _ _ c.put_count.new.page text first (records ++ (second ++ abandoned)) text begun begins c.in_ok-put_count.ensures in
    let events = c.args.events.now.text in
    let walked : records ++ (second ++ abandoned) ≡ events ++ (second ++ abandoned) = ap (λ z. z ++ (second ++ abandoned)) (sym c.requires.all) in
    let two = underway_more _ (g.K.Sink.state c.put_count.new.sink) (g.K.Sink.state c.put_events.new.sink) _ c.put_count.new.page c.put_events.new.page (records ++ (second ++ abandoned)) events (second ++ abandoned) text one walked c.in_ok-put_events.ensures in
    let third = ended_line (count_fields (codes "abandoned") c.abandoned_len.result) in
    let counted : second ++ abandoned ≡ third ++ abandoned = ap (λ n. ended_line (count_fields (codes "abandoned") n) ++ abandoned) (sym c.abandoned_len.ensures.value) in
    underway_cut _ (g.K.Sink.state c.put_events.new.sink) (g.K.Sink.state c.put_count-2.new.sink) _ c.put_events.new.page _ (second ++ abandoned) third abandoned text
    c.from_residual-in_err-put_count-2.result c.from_residual-in_err-put_count-2.ensures.0 two counted c.in_err-put_count-2.ensures

pub returns : goal.returns
returns g c =
    let journal = c.args.journal.now in
    let detail = c.args.events.now.detail in
    let records = records_text detail (records_in journal) in
    let abandoned = abandoned_text detail (abandoned_in journal) in
    let second = ended_line (count_fields (codes "abandoned") (length (abandoned_in journal))) in
    let first = ended_line (count_fields (codes "journal") c.len.result) in
    let text = logs_text_by detail journal in
    let begun = underway_none (g.K.Sink.state c.args.sink.now) c.args.page.now text in
    let begins : text ≡ first ++ (records ++ (second ++ abandoned)) =
    append_assoc (ended_line (count_fields (codes "journal") (length (records_in journal)))) records (second ++ abandoned)
    ∙ ap (λ n. ended_line (count_fields (codes "journal") n) ++ (records ++ (second ++ abandoned))) (sym c.len.ensures.value) in
    let one = underway_more _ _ (g.K.Sink.state c.put_count.new.sink) _ _ c.put_count.new.page text first (records ++ (second ++ abandoned)) text begun begins c.in_ok-put_count.ensures in
    let events = c.args.events.now.text in
    let walked : records ++ (second ++ abandoned) ≡ events ++ (second ++ abandoned) = ap (λ z. z ++ (second ++ abandoned)) (sym c.requires.all) in
    let two = underway_more _ (g.K.Sink.state c.put_count.new.sink) (g.K.Sink.state c.put_events.new.sink) _ c.put_count.new.page c.put_events.new.page (records ++ (second ++ abandoned)) events (second ++ abandoned) text one walked c.in_ok-put_events.ensures in
    let third = ended_line (count_fields (codes "abandoned") c.abandoned_len.result) in
    let counted : second ++ abandoned ≡ third ++ abandoned = ap (λ n. ended_line (count_fields (codes "abandoned") n) ++ abandoned) (sym c.abandoned_len.ensures.value) in
    let three = underway_more _ (g.K.Sink.state c.put_events.new.sink) (g.K.Sink.state c.put_count-2.new.sink) _ c.put_events.new.page c.put_count-2.new.page (second ++ abandoned) third abandoned text two counted c.in_ok-put_count-2.ensures in
    let put : Streams (heading (g.K.Sink.state c.put_count-2.new.sink) c.put_count-2.new.page) (heading (g.K.Sink.state c.put_logs.new.sink) c.put_logs.new.page) (abandoned_text c.detail-detail.result (abandoned_in c.logs.result.now)) c.put_logs.result = c.put_logs.ensures in
    underway_last _ (g.K.Sink.state c.put_count-2.new.sink) (g.K.Sink.state c.put_logs.new.sink) _ c.put_count-2.new.page _ abandoned text c.put_logs.result three (rw (c.detail-detail.ensures, c.logs.ensures) at put)
