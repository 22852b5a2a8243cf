-- What a report tells of its entries: all of each, or what the plan of a run does not say.
use Rattle.std.specs.Prelude.{ℕ, List, ◌∷◌, ◌++◌, codes, length, map}
use Rattle.cell_grid.specs.declared.record.Record.{Record}
use Rattle.event_journal.specs.declared.abandoned.Abandoned.{Abandoned}
use Rattle.event_journal.specs.declared.walk.Walk.{Walk}
use Rattle.event_journal.specs.Logs.{LogValue, abandoned_in, records_in}
use Rattle.event_journal.specs.Walks.{rest_of}
use Rattle.text_lines.specs.Lines.{text_of}
use Rattle.report_text.specs.JournalText.{abandoned_fields, count_fields, record_fields}
use Rattle.report_text.specs.Report.{ReportValue, report_of}
use Rattle.report_text.specs.Short.{short_abandoned_fields, short_record_fields, short_report_of}
use Rattle.report_text.specs.declared.detail.Detail.{Detail}
use Rattle.report_text.specs.declared.detail.Detail.TheVariants.{Whole, Short}

-- the first line of a report, with its LF
abbrev pub header_by : Detail → List ℕ
header_by Whole = codes "feast 1\n"
header_by Short = codes "feast 2\n"

-- the line of an event
abbrev pub record_fields_by : Detail → Record → List (List ℕ)
record_fields_by Whole = record_fields
record_fields_by Short = short_record_fields

-- the line of an abandoned attempt
abbrev pub abandoned_fields_by : Detail → Abandoned → List (List ℕ)
abandoned_fields_by Whole = abandoned_fields
abandoned_fields_by Short = short_abandoned_fields

-- the lines of some events
abbrev pub records_text : Detail → List Record → List ℕ
records_text detail records = text_of (map (record_fields_by detail) records)

-- the lines of some abandoned attempts
abbrev pub abandoned_text : Detail → List Abandoned → List ℕ
abandoned_text detail abandoned = text_of (map (abandoned_fields_by detail) abandoned)

-- the text of a journal: its events, and then its abandoned attempts
abbrev pub journal_text_by : Detail → List Record → List Abandoned → List ℕ
journal_text_by detail records abandoned =
    text_of (count_fields (codes "journal") (length records) ∷ map (record_fields_by detail) records)
    ++ text_of (count_fields (codes "abandoned") (length abandoned) ∷ map (abandoned_fields_by detail) abandoned)

-- the text of the journal of some logs
abbrev pub logs_text_by : Detail → List LogValue → List ℕ
logs_text_by detail logs = journal_text_by detail (records_in logs) (abandoned_in logs)

-- the lines of the events that a walk has left
abbrev pub rest_text : Detail → Walk → List ℕ
rest_text detail w = records_text detail (rest_of w)

-- the text of a report
abbrev pub report_by : Detail → List (List ℕ) → ReportValue → List ℕ
report_by Whole = report_of
report_by Short = short_report_of

-- events that are not put yet: what is told of them, and the text of their lines
pub record EventsValue : Type 0 where
  pub detail : Detail
  pub text : List ℕ

abbrev pub events_value : Detail → List Record → EventsValue
events_value detail records = record { detail = detail; text = records_text detail records }
