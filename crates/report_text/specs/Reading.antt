-- What the text of a report says about a journal, or its first fault.
use Rattle.std.specs.Prelude.{ℕ, zero, suc, ◌≡◌, ◌+◌, ◌-◌, ◌*◌, ◌==◌, Bool, true, false, not, ◌&&◌, List, [], ◌∷◌, ◌++◌, drop, replicate, nat_le, nat_lt, codes, Option, Some, None, Result, Ok, Err, slice_index_or, slice_set, if◌then◌else◌}
use Rattle.text_lines.specs.Fields.{fields}
use Rattle.text_lines.specs.Lines.{ended_lines}
use Rattle.cell_grid.specs.declared.record.Record.{Record}
use Rattle.draw_stream.specs.declared.attempt.Attempt.{Attempt}
use Rattle.tile_map.specs.Plane.{MapValue, Site, site, tiles_of, in_plane, owner_of, site_in}
use Rattle.event_journal.specs.declared.abandoned.Abandoned.{Abandoned}
use Rattle.report_text.specs.declared.journal_fault.LineFault.{LineFault}
use Rattle.report_text.specs.declared.journal_fault.LineFault.TheVariants.{BadForm, OutOfTurn, ElsewhereThanTile, OtherThanAttempt}
use Rattle.report_text.specs.declared.journal_fault.JournalFault.{JournalFault}
use Rattle.report_text.specs.declared.journal_fault.JournalFault.TheVariants.{BadLine, OutOfOrder, NotOwned, NotDrawn, NoMemory}
use Rattle.report_text.specs.Entries.{Entries, entries}
use Rattle.report_text.specs.Forms.{record_form, abandoned_form, is_atom, is_header, count_form}
use Rattle.event_journal.specs.Logs.{is_before}

-- what the next line has to be, and how many more lines of its kind come after it
pub data Wants : Type 0 where
  header : Wants
  atom_count : Wants
  atoms : ℕ → Wants
  record_count : Wants
  records : ℕ → Wants
  abandoned_count : Wants
  abandoned : ℕ → Wants
  nothing : Wants

abbrev pub want_atoms : ℕ → Wants
want_atoms zero = record_count
want_atoms (suc k) = atoms k

abbrev pub want_records : ℕ → Wants
want_records zero = abandoned_count
want_records (suc k) = records k

abbrev pub want_abandoned : ℕ → Wants
want_abandoned zero = nothing
want_abandoned (suc k) = abandoned k

-- what the lines so far say: what comes next, how many sites are shown, the record before, for each
-- tile the line and the attempt of its last record, the records and the abandoned attempts
pub record Said : Type 0 where
  pub wants : Wants
  pub sites : ℕ
  pub before : Option Record
  pub lasts : List (Option (ℕ × ℕ))
  pub journal : List Record
  pub gone : List Abandoned

-- whether a record comes after the previous one in the order of a journal; the first has a stamp of
-- at least 1
abbrev pub is_behind : Option Record → Record → Bool
is_behind None r = nat_le 1 r.stamp
is_behind (Some p) r = is_before p r

-- the line of the previous record, or 0 if there is none
abbrev pub line_before : ℕ → Option Record → ℕ
line_before n None = 0
line_before n (Some p) = n - 1

-- the line of the tile's last record, if the attempt of that is not smaller
abbrev pub not_later : Option (ℕ × ℕ) → ℕ → Option ℕ
not_later None attempt = None
not_later (Some p) attempt = if nat_lt p.1 attempt then None else Some p.0

-- whether the site of a record is one of its tile's rectangle
abbrev pub is_at_home : MapValue → Record → Bool
is_at_home m r = in_plane m (site r.x r.y) && owner_of m (site r.x r.y) == r.tile

abbrev pub is_site : Site → ℕ → ℕ → Bool
is_site s x y = s.x == x && s.y == y

-- whether a record is this attempt of its tile: the attempt's centre is the position of its site,
-- and the seeds are equal
abbrev pub is_attempt : MapValue → Option Attempt → Record → Bool
is_attempt m None r = false
is_attempt m (Some a) r = nat_lt a.centre (m.w * m.h) && (is_site (site_in m r.tile a.centre) r.x r.y && a.seed == r.seed)

-- the first of some attempts
abbrev pub first_of : List Attempt → Option Attempt
first_of [] = None
first_of (a ∷ rest) = Some a

-- the fault of a record whose site is not its tile's, or whose attempt is not among those of its
-- tile
abbrev pub attempt_fault : MapValue → List Attempt → Record → Option LineFault
attempt_fault m list r = if not (is_at_home m r) then Some ElsewhereThanTile else (if not (is_attempt m (first_of (drop r.attempt list)) r) then Some OtherThanAttempt else None)

-- the fault by the line of an earlier record of the tile, or else another one
abbrev pub earlier : Option ℕ → Option LineFault → Option LineFault
earlier (Some line) other = Some (OutOfTurn line)
earlier None other = other

-- the fault of the record of line n: against the previous record, the last one of its tile, and the
-- attempts of its tile
unfoldable pub record_fault : MapValue → ℕ → Option Record → Option (ℕ × ℕ) → List Attempt → Record → Option LineFault
record_fault m n before last list r =
    if not (is_behind before r) then Some (OutOfTurn (line_before n before))
    else earlier (not_later last r.attempt) (attempt_fault m list r)

abbrev pub put_record : ℕ → Said → Wants → Record → Said
put_record n d next r = record d { wants = next; before = Some r; lasts = slice_set d.lasts r.tile (Some (n, r.attempt)); journal = d.journal ++ r ∷ [] }

-- what has been said, unless there is a fault
abbrev pub unless : Option LineFault → Said → Result Said LineFault
unless None d = Ok d
unless (Some fault) d = Err fault

-- a record's line
unfoldable pub record_step : MapValue → List (List Attempt) → ℕ → Said → Wants → Option Record → Result Said LineFault
record_step m lists n d next None = Err BadForm
record_step m lists n d next (Some r) = unless (record_fault m n d.before (slice_index_or d.lasts r.tile None) (slice_index_or lists r.tile []) r) (put_record n d next r)

-- a count's line
abbrev pub count_line : Said → (ℕ → Wants) → Option ℕ → Result Said LineFault
count_line d next None = Err BadForm
count_line d next (Some k) = Ok (record d { wants = next k })

-- the line of the count of sites
abbrev pub put_sites : Said → Option ℕ → Result Said LineFault
put_sites d None = Err BadForm
put_sites d (Some k) = Ok (record d { wants = want_atoms k; sites = k })

-- the line of an abandoned attempt
abbrev pub put_abandoned : Said → Wants → Option Abandoned → Result Said LineFault
put_abandoned d next None = Err BadForm
put_abandoned d next (Some a) = Ok (record d { wants = next; gone = d.gone ++ a ∷ [] })

-- the fields of line n, by what the line has to be
unfoldable pub fields_step : MapValue → List (List Attempt) → ℕ → Said → Wants → List (List ℕ) → Result Said LineFault
fields_step m lists n d header fs = if is_header fs then Ok (record d { wants = atom_count }) else Err BadForm
fields_step m lists n d atom_count fs = put_sites d (count_form (codes "atoms") fs)
fields_step m lists n d (atoms k) fs = if is_atom fs then Ok (record d { wants = want_atoms k }) else Err BadForm
fields_step m lists n d record_count fs = count_line d want_records (count_form (codes "journal") fs)
fields_step m lists n d (records k) fs = record_step m lists n d (want_records k) (record_form fs)
fields_step m lists n d abandoned_count fs = count_line d want_abandoned (count_form (codes "abandoned") fs)
fields_step m lists n d (abandoned k) fs = put_abandoned d (want_abandoned k) (abandoned_form fs)
fields_step m lists n d nothing fs = Err BadForm

abbrev pub is_over : Wants → Bool
is_over nothing = true
is_over w = false

-- a line, or a last one that lacks its LF
unfoldable pub line_step : MapValue → List (List Attempt) → ℕ → Said → Option (List ℕ) → Result Said LineFault
line_step m lists n d None = Err BadForm
line_step m lists n d (Some t) = fields_step m lists n d d.wants (fields t)

-- what follows line n, or its fault
abbrev pub go_on : ℕ → Result Said LineFault → (Said → Result Said (ℕ × LineFault)) → Result Said (ℕ × LineFault)
go_on n (Ok e) next = next e
go_on n (Err fault) next = Err (n, fault)

-- what lines say after others, or the first fault and its line, if the first line has number n
unfoldable pub read_lines : MapValue → List (List Attempt) → ℕ → Said → List (Option (List ℕ)) → Result Said (ℕ × LineFault)
read_lines m lists n d [] = if is_over d.wants then Ok d else Err (n, BadForm)
read_lines m lists n d (t ∷ ts) = go_on n (line_step m lists n d t) (λ e. read_lines m lists (n + 1) e ts)

-- before any line
abbrev pub nothing_said : MapValue → Said
nothing_said m = record { wants = header; sites = 0; before = None; lasts = replicate (tiles_of m) None; journal = []; gone = [] }

-- what a text says of a map's journal with these attempts of each tile, or its first fault
unfoldable pub read_report : MapValue → List (List Attempt) → List ℕ → Result Said (ℕ × LineFault)
read_report m lists bytes = read_lines m lists 1 (nothing_said m) (ended_lines bytes)

-- the entries that were said
abbrev pub entries_said : {F : Type 0} → Result Said F → Result Entries F
entries_said (Ok d) = Ok (entries d.sites d.journal d.gone)
entries_said (Err fault) = Err fault

-- the line and the cause of a fault; None if memory ran out
abbrev pub fault_of : JournalFault → Option (ℕ × LineFault)
fault_of (BadLine line) = Some (line, BadForm)
fault_of (OutOfOrder line previous) = Some (line, OutOfTurn previous)
fault_of (NotOwned line) = Some (line, ElsewhereThanTile)
fault_of (NotDrawn line) = Some (line, OtherThanAttempt)
fault_of NoMemory = None

-- a fault is answered only if it is the one that is asked for; running out of memory says nothing
abbrev pub IsFault : {X : Type 0} → Result X (ℕ × LineFault) → Option (ℕ × LineFault) → Type 0
IsFault asked None = Unit {0}
IsFault asked (Some fault) = asked ≡ Err fault

-- the result for line n: at Ok what is said then, otherwise the fault
abbrev pub Steps : ℕ → Result Said LineFault → Said → Result (Unit {0}) JournalFault → Type 0
Steps n asked new (Ok x) = asked ≡ Ok new
Steps n asked new (Err fault) = IsFault (go_on n asked (λ e. Ok e)) (fault_of fault)
