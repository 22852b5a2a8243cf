-- What the reader of a report keeps: for each tile the attempts that are left.
use Rattle.std.specs.Prelude.{ℕ, ◌≡◌, ◌+◌, ◌<◌, ◌≤◌, ◌==◌, List, [], Option, Some, None, drop, length, map, slice_index_or, Result, Ok, Err, if◌then◌else◌}
use Rattle.draw_stream.specs.declared.attempt.Attempt.{Attempt}
use Rattle.tile_map.specs.Plane.{MapValue}
use Rattle.report_text.specs.declared.cursors.LogCursor.{LogCursor}
use Rattle.report_text.specs.declared.reading.Reading.{Reading}
use Rattle.report_text.specs.declared.reading.Wants.{Wants as CodeWants}
use Rattle.report_text.specs.declared.reading.Wants.TheVariants.{Header, AtomCount, Atoms, RecordCount, Records, AbandonedCount, Abandoned, Nothing}
use Rattle.report_text.specs.declared.journal_fault.JournalFault.{JournalFault}
use Rattle.report_text.specs.declared.journal_fault.LineFault.{LineFault}
use Rattle.report_text.specs.Entries.{Entries}
use Rattle.report_text.specs.Reading.{Said, Wants, header, atom_count, atoms, record_count, records, abandoned_count, abandoned, nothing, read_report, entries_said, IsFault, Steps, fault_of}

-- the line and the attempt of a tile's last record
abbrev pub last_of : LogCursor → Option (ℕ × ℕ)
last_of s = if s.line == 0 then None else Some (s.line, s.last)

abbrev pub lasts_of : List LogCursor → List (Option (ℕ × ℕ))
lasts_of cursors = map last_of cursors

-- how many attempts were passed
abbrev pub passed_of : LogCursor → ℕ
passed_of s = if s.line == 0 then 0 else s.last + 1

-- the attempts that are left are those of this list
abbrev pub Serves : LogCursor → List Attempt → Type 0
Serves s list = s.stream ≡ drop (passed_of s) list

-- each tile's attempts that are left are those of its list
pub record AllServe (cursors : List LogCursor) (lists : List (List Attempt)) : Type 0 where
  pub as_many : length lists ≡ length cursors
  pub each : (t : ℕ) (d : LogCursor) → t < length cursors → Serves (slice_index_or cursors t d) (slice_index_or lists t [])

-- it holds for any lists of attempts that the cursors serve
abbrev pub ForServed : List LogCursor → (List (List Attempt) → Type 0) → Type 0
ForServed cursors says = (lists : List (List Attempt)) → AllServe cursors lists → says lists

-- the lists that the cursors served are served still
abbrev pub StillServe : List LogCursor → List LogCursor → Type 0
StillServe old new = ForServed old (AllServe new)

-- the last record of a tile, by the cursors
abbrev pub last_in : List LogCursor → ℕ → Option (ℕ × ℕ)
last_in cursors t = slice_index_or (lasts_of cursors) t None

abbrev pub wants_value : CodeWants → Wants
wants_value Header = header
wants_value AtomCount = atom_count
wants_value (Atoms k) = atoms k
wants_value RecordCount = record_count
wants_value (Records k) = records k
wants_value AbandonedCount = abandoned_count
wants_value (Abandoned k) = abandoned k
wants_value Nothing = nothing

-- what the lines so far say
abbrev pub said_value : Reading → Said
said_value d = record { wants = wants_value d.wants; sites = d.sites; before = d.before; lasts = lasts_of d.cursors.items; journal = d.journal.items; gone = d.gone.items }

-- how many entries were read
abbrev pub entry_count : Reading → ℕ
entry_count d = length d.journal.items + length d.gone.items

-- at most one entry more was read
abbrev pub IsOneMore : Reading → Reading → Type 0
IsOneMore old new = entry_count new ≤ entry_count old + 1

-- line n was taken by a step from what the lines before it said
abbrev pub TakesLine : ℕ → (List (List Attempt) → Said → Result Said LineFault) → Reading → Reading → Result (Unit {0}) JournalFault → Type 0
TakesLine n step old new result = ForServed old.cursors.items (λ lists. Steps n (step lists (said_value old)) (said_value new) result)

-- at Ok the entries that a report says, otherwise its first fault
abbrev pub ReadsJournal : MapValue → List (List Attempt) → List ℕ → Result Entries JournalFault → Type 0
ReadsJournal m lists bytes (Ok e) = entries_said (read_report m lists bytes) ≡ Ok e
ReadsJournal m lists bytes (Err fault) = IsFault (read_report m lists bytes) (fault_of fault)

-- lines are read: at Ok the entries that they say, otherwise their first fault
abbrev pub ReadsSaid : Result Said (ℕ × LineFault) → Result Entries JournalFault → Type 0
ReadsSaid asked (Ok e) = entries_said asked ≡ Ok e
ReadsSaid asked (Err fault) = IsFault asked (fault_of fault)
