-- Reports that are cut after some of their lines.
use Rattle.std.specs.Prelude.{ℕ, ◌≡◌, ◌+◌, ◌<◌, List, All, Ok, Err, length, take}
use Rattle.draw_stream.specs.declared.attempt.Attempt.{Attempt}
use Rattle.text_lines.specs.Lines.{text_of}
use Rattle.text_lines.specs.Printed.{IsLine}
use Rattle.tile_map.specs.Plane.{MapValue}
use Rattle.report_text.specs.Reading.{Said, read_report}
use Rattle.report_text.specs.Widened.{widened_text}
use Rattle.report_text.specs.declared.journal_fault.LineFault.TheVariants.{BadForm}

-- if the text of some lines is a report, the first k of these lines lack line k + 1
abbrev pub AreCutShort : MapValue → List (List Attempt) → Type 0
AreCutShort m lists = (ls : List (List (List ℕ))) (d : Said) (k : ℕ) → All IsLine ls → read_report m lists (text_of ls) ≡ Ok d → k < length ls → read_report m lists (text_of (take k ls)) ≡ Err (k + 1, BadForm)

-- and so of a short report, which is read as the whole one for which it stands
abbrev pub AreShortCutShort : MapValue → List (List Attempt) → Type 0
AreShortCutShort m lists = (ls : List (List (List ℕ))) (d : Said) (k : ℕ) → All IsLine ls → read_report m lists (widened_text m lists (text_of ls)) ≡ Ok d → k < length ls
    → read_report m lists (widened_text m lists (text_of (take k ls))) ≡ Err (k + 1, BadForm)
