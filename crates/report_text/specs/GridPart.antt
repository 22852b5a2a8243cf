-- The part of a report that shows its grid.
use Rattle.std.specs.Prelude.{ℕ, ◌≡◌, ◌++◌, List, All, drop}
use Rattle.draw_stream.specs.Plans.{PlanValue}
use Rattle.report_text.specs.Again.{SaysThese}
use Rattle.report_text.specs.Entries.{Entries}
use Rattle.report_text.specs.JournalText.{journal_text}
use Rattle.text_lines.specs.Lines.{text_of}
use Rattle.text_lines.specs.Printed.{IsLine}
use Rattle.tile_map.specs.Plane.{IsMap, MapValue}

-- this is left of a text behind its first k lines
abbrev pub LeavesLines : List ℕ → ℕ → List ℕ → Type 0
LeavesLines bytes k left = (ls : List (List (List ℕ))) → All IsLine ls → bytes ≡ text_of ls → left ≡ text_of (drop k ls)

-- behind this part of some bytes comes the text of these entries, and nothing else
abbrev pub IsBeforeJournal : List ℕ → Entries → List ℕ → Type 0
IsBeforeJournal bytes e part = bytes ≡ part ++ journal_text e.records e.abandoned

-- a part of some bytes comes before the text of these entries if, by any map and plan, the bytes say them
abbrev pub IsGridPart : List ℕ → Entries → List ℕ → Type 0
IsGridPart bytes e part = (m : MapValue) (plan : PlanValue) → IsMap m → SaysThese m plan.lists bytes e → IsBeforeJournal bytes e part
