-- The whole report that a short one stands for: each event, and each abandoned attempt, has the site and the seed of its attempt
-- again. A short report is read as the whole one that it stands for, line by line.
use Rattle.std.specs.Prelude.{ℕ, ◌*◌, ◌^◌, Bool, false, ◌&&◌, ◌||◌, List, [], ◌∷◌, codes, bytes_eq, drop, flat_map, is_some, nat_lt, option_map, Option, Some, None, slice_index_or, if◌then◌else◌}
use Rattle.cell_grid.specs.Grid.{below}
use Rattle.cell_grid.specs.declared.record.Record.{Record}
use Rattle.draw_stream.specs.declared.attempt.Attempt.{Attempt}
use Rattle.event_journal.specs.declared.abandoned.Abandoned.{Abandoned}
use Rattle.report_text.specs.Forms.{abandoned_form, is_header, record_form, take_attempt, take_small}
use Rattle.report_text.specs.JournalText.{abandoned_fields, record_fields}
use Rattle.report_text.specs.Reading.{first_of}
use Rattle.report_text.specs.declared.short_forms.ShortAbandoned.{ShortAbandoned}
use Rattle.report_text.specs.declared.short_forms.ShortRecord.{ShortRecord}
use Rattle.text_lines.specs.Fields.{fields}
use Rattle.text_lines.specs.Forms.{one_field, one_number, with}
use Rattle.text_lines.specs.Lines.{ended_line, ended_lines}
use Rattle.tile_map.specs.Plane.{MapValue, Site, site, site_in, tiles_of}

-- the number of an attempt that the one field is
abbrev pub last_attempt : List (List ℕ) → Option ℕ
last_attempt fs = below (2 ^ 64) (one_number fs)

unfoldable pub short_record_form : List (List ℕ) → Option ShortRecord
short_record_form fs =
    with (take_small fs) (λ s. with (take_small s.1) (λ t. option_map (λ a. record { stamp = s.0; tile = t.0; attempt = a }) (last_attempt t.1)))

unfoldable pub short_abandoned_form : List (List ℕ) → Option ShortAbandoned
short_abandoned_form fs =
    with (take_small fs) (λ t. with (take_attempt t.1) (λ a. with (take_small a.1) (λ e. with (take_small e.1) (λ u.
    option_map (λ j. record { tile = t.0; attempt = a.0; edge = e.0; holder = u.0; holder_attempt = j }) (last_attempt u.1)))))

abbrev pub is_two : Option (List ℕ) → Bool
is_two None = false
is_two (Some f) = bytes_eq f (codes "2")

-- the first line of a short report
unfoldable pub is_short_header : List (List ℕ) → Bool
is_short_header [] = false
is_short_header (f ∷ fs) = bytes_eq f (codes "feast") && is_two (one_field fs)

-- an event, or an abandoned attempt, of a whole report
abbrev pub is_entry : List (List ℕ) → Bool
is_entry fs = is_some (record_form fs) || is_some (abandoned_form fs)

-- whether only a whole report has such a line
abbrev pub is_long : List (List ℕ) → Bool
is_long fs = is_header fs || is_entry fs

-- an attempt, if its centre is a position of a rectangle of this many sites
abbrev pub inside : ℕ → Option Attempt → Option Attempt
inside sites None = None
inside sites (Some a) = if nat_lt a.centre sites then Some a else None

-- the attempt of this number of a tile, if it has one
abbrev pub attempt_of : MapValue → List (List Attempt) → ℕ → ℕ → Option Attempt
attempt_of m lists tile number = inside (m.w * m.h) (first_of (drop number (slice_index_or lists tile [])))

-- the site of an attempt of a tile. Where there is no such attempt it is the tile's first site, and where there is no such tile
-- it is that of tile 0
abbrev pub site_of : MapValue → ℕ → Option Attempt → Site
site_of m tile (Some a) = site_in m tile a.centre
site_of m tile None = if nat_lt tile (tiles_of m) then site_in m tile 0 else site 0 0

-- its seed, or 0
abbrev pub seed_of : Option Attempt → ℕ
seed_of (Some a) = a.seed
seed_of None = 0

-- an event with the site and the seed of its attempt
abbrev pub widened_record : MapValue → List (List Attempt) → ShortRecord → Record
widened_record m lists r =
    record { stamp = r.stamp; tile = r.tile; attempt = r.attempt; x = (site_of m r.tile (attempt_of m lists r.tile r.attempt)).x; y = (site_of m r.tile (attempt_of m lists r.tile r.attempt)).y; seed = seed_of (attempt_of m lists r.tile r.attempt) }

-- an abandoned attempt with its site
abbrev pub widened_abandoned : MapValue → List (List Attempt) → ShortAbandoned → Abandoned
widened_abandoned m lists a =
    record { tile = a.tile; attempt = a.attempt; x = (site_of m a.tile (attempt_of m lists a.tile a.attempt)).x; y = (site_of m a.tile (attempt_of m lists a.tile a.attempt)).y; edge = a.edge; holder = a.holder; holder_attempt = a.holder_attempt }

-- any other line: the first one of a short report stands for that of a whole one, a line that only a whole report has stands for
-- an empty line, which no report has, and the others stand for themselves
abbrev pub widened_other : List (List ℕ) → List (List ℕ)
widened_other fs = if is_short_header fs then codes "feast" ∷ codes "1" ∷ [] else (if is_long fs then [] else fs)

abbrev pub or_abandoned : MapValue → List (List Attempt) → List (List ℕ) → Option ShortAbandoned → List (List ℕ)
or_abandoned m lists fs (Some a) = abandoned_fields (widened_abandoned m lists a)
or_abandoned m lists fs None = widened_other fs

abbrev pub or_record : MapValue → List (List Attempt) → List (List ℕ) → Option ShortRecord → List (List ℕ)
or_record m lists fs (Some r) = record_fields (widened_record m lists r)
or_record m lists fs None = or_abandoned m lists fs (short_abandoned_form fs)

-- the fields of the line for which a line with these fields stands
abbrev pub widened : MapValue → List (List Attempt) → List (List ℕ) → List (List ℕ)
widened m lists fs = or_record m lists fs (short_record_form fs)

-- a line, or `?` for a last one that lacks its LF; this one lacks it too
abbrev pub widened_line : MapValue → List (List Attempt) → Option (List ℕ) → List ℕ
widened_line m lists (Some t) = ended_line (widened m lists (fields t))
widened_line m lists None = codes "?"

-- the text for which that of a short report stands
unfoldable pub widened_text : MapValue → List (List Attempt) → List ℕ → List ℕ
widened_text m lists bytes = flat_map (widened_line m lists) (ended_lines bytes)
