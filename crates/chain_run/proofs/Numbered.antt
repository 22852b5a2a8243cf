-- The lines of a report have numbers of 64 bits in its file, too.
use Rattle.std.proofs.Common.{ℕ, suc, ◌≡◌, ◌+◌, ◌^◌, ◌<◌, ◌≤◌, Bool, true, false, not, List, [], ◌∷◌, ◌++◌, All, Option, Some, None, Result, Ok, Err, codes, get_or, length, length-append, refl, subst, sym, arith, inl, inr}
use Rattle.std.specs.Prelude.{drop, if◌then◌else◌, nat_lt, slice_index_or}
use Rattle.std.proofs.Math.ListN.{get_or-eq_default}
use Rattle.std.proofs.lemmas.Bool.{cases_lt}
use Rattle.std.proofs.lemmas.Bool.Decides.{eqb_tells}
use Rattle.std.proofs.lemmas.List.Elements.{All-replicate, All-set}
use Rattle.list_laws.specs.Options.{or_zero}
use Rattle.cell_grid.specs.declared.record.Record.{Record}
use Rattle.draw_stream.specs.Plans.{PlanValue}
use Rattle.draw_stream.specs.declared.attempt.Attempt.{Attempt}
use Rattle.event_journal.specs.declared.abandoned.Abandoned.{Abandoned}
use Rattle.report_judge.specs.Judging.{Judges, NamedCourse}
use Rattle.report_judge.specs.declared.judgement.Judgement.{Judgement}
use Rattle.report_judge.specs.declared.judgement.Judgement.TheVariants as word
use Rattle.report_text.proofs.Exact.{count_exact, map_some, with_some}
use Rattle.report_text.proofs.ReadForm.{are_reports}
use Rattle.report_text.specs.Again.{SaysThese}
use Rattle.report_text.specs.Entries.{Entries}
use Rattle.report_text.specs.First.{count_in, first_lines, lines_counted}
use Rattle.report_text.specs.Forms.{abandoned_form, count_form, is_atom, is_header, record_form}
use Rattle.report_text.specs.Reading.{IsFault, Said, Wants, abandoned, abandoned_count, atom_count, atoms, attempt_fault, count_line, earlier, fault_of, fields_step, go_on, header, is_at_home, is_attempt, is_behind, is_over, line_before, line_step, not_later, nothing, nothing_said, first_of, put_abandoned, put_record, put_sites, read_lines, read_report, record_count, record_fault, record_step, records, unless, want_abandoned, want_atoms, want_records}
use Rattle.report_text.specs.ReportForm.{IsReportOf}
use Rattle.report_text.specs.declared.journal_fault.JournalFault.{JournalFault}
use Rattle.report_text.specs.declared.journal_fault.LineFault.{LineFault}
use Rattle.report_text.specs.declared.journal_fault.LineFault.TheVariants.{BadForm, ElsewhereThanTile, OtherThanAttempt, OutOfTurn}
use Rattle.text_lines.specs.Fields.{fields}
use Rattle.text_lines.specs.Lines.{ended_after, ended_lines}
use Rattle.tile_map.specs.Plane.{IsMap, MapValue, tiles_of}
use Rattle.chain_run.specs.Lines.{HasNumber, HasNumbers, line_beside}

-- a text has no more lines than bytes
few_lines : (front bs : List ℕ) → length (ended_after front bs) ≤ length front + length bs
unfolding ended_after
few_lines [] [] = let few : 0 ≤ 0 + 0 = omega arith in few
few_lines (f ∷ fs) [] = let few : suc 0 ≤ suc (length fs) + 0 = omega arith in few
few_lines [] (b ∷ bs) = elim (eqb_tells b 10) [
  | inl t ↦
      let rest : length (ended_after [] bs) ≤ 0 + length bs = few_lines [] bs in
      let few : suc (length (ended_after [] bs)) ≤ 0 + suc (length bs) = omega (arith, rest) in
      rw t.0 few
  | inr t ↦
      let rest : length (ended_after (b ∷ []) bs) ≤ suc 0 + length bs = few_lines (b ∷ []) bs in
      let few : length (ended_after (b ∷ []) bs) ≤ 0 + suc (length bs) = omega (arith, rest) in
      rw t.0 few
]
few_lines (f ∷ fs) (b ∷ bs) = elim (eqb_tells b 10) [
  | inl t ↦
      let rest : length (ended_after [] bs) ≤ 0 + length bs = few_lines [] bs in
      let few : suc (length (ended_after [] bs)) ≤ suc (length fs) + suc (length bs) = omega (arith, rest) in
      rw t.0 few
  | inr t ↦
      let front : List ℕ = (f ∷ fs) ++ b ∷ [] in
      let long : length front ≡ suc (length fs) + suc 0 = length-append (f ∷ fs) (b ∷ []) in
      let rest : length (ended_after front bs) ≤ length front + length bs = few_lines front bs in
      let few : length (ended_after front bs) ≤ suc (length fs) + suc (length bs) = omega (arith, rest, long) in
      rw t.0 few
]

none : (n : ℕ) → 0 ≤ n
none n = omega arith

same : (n : ℕ) → n ≤ n
same n = omega arith

more : (a n m : ℕ) → a ≤ n → a ≤ n + m
more a n m h = omega (arith, h)

-- The faults of a report name no line behind the one that is read

-- the last record of a tile
abbrev IsEarlier : ℕ → Option (ℕ × ℕ) → Type 0
IsEarlier n None = Unit {0}
IsEarlier n (Some p) = p.0 ≤ n

earlier_still : (n : ℕ) (o : Option (ℕ × ℕ)) → IsEarlier n o → IsEarlier (n + 1) o
earlier_still n None h = tt
earlier_still n (Some p) h = omega (arith, h)

-- a fault, if there is one
abbrev IsNoLater : ℕ → Option LineFault → Type 0
IsNoLater n None = Unit {0}
IsNoLater n (Some fault) = line_beside fault ≤ n

attempt_no_later : (m : MapValue) (n : ℕ) (list : List Attempt) (r : Record) → IsNoLater n (attempt_fault m list r)
attempt_no_later m n list r = on (not (is_at_home m r)) (not (is_attempt m (first_of (drop r.attempt list)) r))
  where
    on : (a b : Bool) → IsNoLater n (if a then Some ElsewhereThanTile else (if b then Some OtherThanAttempt else None))
    on true b = none n
    on false true = none n
    on false false = tt

earlier_no_later : (n attempt : ℕ) (last : Option (ℕ × ℕ)) (other : Option LineFault) → IsEarlier n last → IsNoLater n other → IsNoLater n (earlier (not_later last attempt) other)
earlier_no_later n attempt None other h rest = rest
earlier_no_later n attempt (Some p) other h rest = on (nat_lt p.1 attempt)
  where
    on : (b : Bool) → IsNoLater n (earlier (if b then None else Some p.0) other)
    on true = rest
    on false = h

before_no_later : (n : ℕ) (before : Option Record) → line_before n before ≤ n
before_no_later n None = none n
before_no_later n (Some p) = omega arith

record_no_later : (m : MapValue) (n : ℕ) (before : Option Record) (last : Option (ℕ × ℕ)) (list : List Attempt) (r : Record) → IsEarlier n last → IsNoLater n (record_fault m n before last list r)
unfolding record_fault
record_no_later m n before last list r h = on (not (is_behind before r))
  where
    on : (b : Bool) → IsNoLater n (if b then Some (OutOfTurn (line_before n before)) else earlier (not_later last r.attempt) (attempt_fault m list r))
    on true = before_no_later n before
    on false = earlier_no_later n r.attempt last (attempt_fault m list r) h (attempt_no_later m n list r)

-- what a line says, or its fault
abbrev IsStep : ℕ → Result Said LineFault → Type 0
IsStep n (Ok d) = All (IsEarlier n) d.lasts
IsStep n (Err fault) = line_beside fault ≤ n

module _ (m : MapValue) (lists : List (List Attempt)) (n : ℕ) (d : Said) (all : All (IsEarlier n) d.lasts) where
  -- the last record of a tile that may not be there
  last_there : (t : ℕ) → IsEarlier n (slice_index_or d.lasts t None)
  last_there t = here t d.lasts all
    where
      here : (t : ℕ) (os : List (Option (ℕ × ℕ))) → All (IsEarlier n) os → IsEarlier n (slice_index_or os t None)
      here t os h = elim (cases_lt t (length os)) [
        | inl inside ↦ h t None inside
        | inr past ↦ subst (IsEarlier n) (sym (get_or-eq_default os None {n = t} past)) tt
      ]

  record_steps : (next : Wants) (o : Option Record) → IsStep n (record_step m lists n d next o)
  unfolding record_step
  record_steps next None = none n
  record_steps next (Some r) = on (record_fault m n d.before (slice_index_or d.lasts r.tile None) (slice_index_or lists r.tile []) r) (record_no_later m n d.before (slice_index_or d.lasts r.tile None) (slice_index_or lists r.tile []) r (last_there r.tile))
    where
      on : (o : Option LineFault) → IsNoLater n o → IsStep n (unless o (put_record n d next r))
      on None h = All-set (IsEarlier n) d.lasts r.tile (Some (n, r.attempt)) (same n) all
      on (Some fault) h = h

  count_steps : (next : ℕ → Wants) (o : Option ℕ) → IsStep n (count_line d next o)
  count_steps next None = none n
  count_steps next (Some k) = all

  sites_steps : (o : Option ℕ) → IsStep n (put_sites d o)
  sites_steps None = none n
  sites_steps (Some k) = all

  gone_steps : (next : Wants) (o : Option Abandoned) → IsStep n (put_abandoned d next o)
  gone_steps next None = none n
  gone_steps next (Some a) = all

  form_steps : (b : Bool) (next : Wants) → IsStep n (if b then Ok (record d { wants = next }) else Err BadForm)
  form_steps true next = all
  form_steps false next = none n

  fields_steps : (w : Wants) (fs : List (List ℕ)) → IsStep n (fields_step m lists n d w fs)
  unfolding fields_step
  fields_steps header fs = form_steps (is_header fs) atom_count
  fields_steps atom_count fs = sites_steps (count_form (codes "atoms") fs)
  fields_steps (atoms k) fs = form_steps (is_atom fs) (want_atoms k)
  fields_steps record_count fs = count_steps want_records (count_form (codes "journal") fs)
  fields_steps (records k) fs = record_steps (want_records k) (record_form fs)
  fields_steps abandoned_count fs = count_steps want_abandoned (count_form (codes "abandoned") fs)
  fields_steps (abandoned k) fs = gone_steps (want_abandoned k) (abandoned_form fs)
  fields_steps nothing fs = none n

  line_steps : (o : Option (List ℕ)) → IsStep n (line_step m lists n d o)
  unfolding line_step
  line_steps None = none n
  line_steps (Some t) = fields_steps d.wants (fields t)

-- what lines say, or the first fault
abbrev IsReadTo : ℕ → Result Said (ℕ × LineFault) → Type 0
IsReadTo n (Ok d) = Unit {0}
IsReadTo n (Err fault) = (fault.0 ≤ n) × (line_beside fault.1 ≤ n)

read_to : (m : MapValue) (lists : List (List Attempt)) (n : ℕ) (d : Said) (ts : List (Option (List ℕ))) → All (IsEarlier n) d.lasts → IsReadTo (n + length ts) (read_lines m lists n d ts)
unfolding read_lines
read_to m lists n d [] all = on (is_over d.wants)
  where
    on : (b : Bool) → IsReadTo (n + length {A = Option (List ℕ)} []) (if b then Ok d else Err (n, BadForm))
    on true = tt
    on false = (more n n 0 (same n), none (n + 0))
read_to m lists n d (t ∷ ts) all = on (line_step m lists n d t) (line_steps m lists n d all t) (λ e h. read_to m lists (n + 1) e ts h)
  where
    on : (r : Result Said LineFault) → IsStep n r → ((e : Said) → All (IsEarlier (n + 1)) e.lasts → IsReadTo (n + 1 + length ts) (read_lines m lists (n + 1) e ts)) →
        IsReadTo (n + length (t ∷ ts)) (go_on n r (λ e. read_lines m lists (n + 1) e ts))
    on (Err fault) h next = (more n n (length (t ∷ ts)) (same n), more (line_beside fault) n (length (t ∷ ts)) h)
    on (Ok e) h next =
        let at : n + 1 + length ts ≡ n + suc (length ts) = omega arith in
        subst (λ k. IsReadTo k (read_lines m lists (n + 1) e ts)) at (next e (λ i o lt. earlier_still n (get_or e.lasts i o) (h i o lt)))

report_to : (m : MapValue) (lists : List (List Attempt)) (bytes : List ℕ) → IsReadTo (1 + length bytes) (read_report m lists bytes)
unfolding read_report
report_to m lists bytes = up (read_lines m lists 1 (nothing_said m) (ended_lines bytes)) (read_to m lists 1 (nothing_said m) (ended_lines bytes) (All-replicate (IsEarlier 1) (tiles_of m) None tt))
  where
    up : (r : Result Said (ℕ × LineFault)) → IsReadTo (1 + length (ended_lines bytes)) r → IsReadTo (1 + length bytes) r
    up (Ok d) h = tt
    up (Err fault) h =
        let few : length (ended_lines bytes) ≤ 0 + length bytes = few_lines [] bytes in
        let line = h.0 in
        let beside = h.1 in
        (omega (arith, few, line), omega (arith, few, beside))

pub fault_numbers : (m : MapValue) (lists : List (List Attempt)) (bytes : List ℕ) (before : ℕ) (fault : JournalFault) → before < 2 ^ 62 → length bytes < 2 ^ 63 → IsFault (read_report m lists bytes) (fault_of fault) → HasNumbers before (fault_of fault)
fault_numbers m lists bytes before fault low short is = on (fault_of fault) is
  where
    on : (o : Option (ℕ × LineFault)) → IsFault (read_report m lists bytes) o → HasNumbers before o
    on None h = tt
    on (Some f) h =
        let to = subst (IsReadTo (1 + length bytes)) h (report_to m lists bytes) in
        let line = to.0 in
        let beside = to.1 in
        let at : before + f.0 < 2 ^ 64 = omega (arith, line, low, short) in
        let other : before + line_beside f.1 < 2 ^ 64 = omega (arith, beside, low, short) in
        (at, other)

-- the counts of a report are of 32 bits
count_low : (word : List ℕ) (ls : List (Option (List ℕ))) (k c : ℕ) → count_in word ls k ≡ Some c → c < 2 ^ 32
count_low word ls k c h = let t = with_some (slice_index_or ls k None) (λ t. count_form word (fields t)) c h in (count_exact word (fields t.0) c t.2).1

counted_few : (ls : List (Option (List ℕ))) (n : ℕ) → lines_counted ls ≡ Some n → n ≤ 2 ^ 34
unfolding lines_counted
counted_few ls n h =
    let a = with_some (count_in (codes "atoms") ls 1) _ n h in
    let r = with_some (count_in (codes "journal") ls (a.0 + 2)) _ n a.2 in
    let g = map_some _ (count_in (codes "abandoned") ls (a.0 + r.0 + 3)) n r.2 in
    let atoms_low = count_low (codes "atoms") ls 1 a.0 a.1 in
    let records_low = count_low (codes "journal") ls (a.0 + 2) r.0 r.1 in
    let gone_low = count_low (codes "abandoned") ls (a.0 + r.0 + 3) g.0 g.1 in
    let all : a.0 + r.0 + g.0 + 4 ≡ n = g.2 in
    omega (arith, atoms_low, records_low, gone_low, all)

pub first_few : (bytes : List ℕ) → first_lines bytes ≤ 2 ^ 34
first_few bytes = on (lines_counted (ended_lines bytes)) refl
  where
    on : (o : Option ℕ) → lines_counted (ended_lines bytes) ≡ o → or_zero o ≤ 2 ^ 34
    on None h = none (2 ^ 34)
    on (Some n) h = counted_few (ended_lines bytes) n h

-- so are those of the entries
module _ (m : MapValue) (plan : PlanValue) (map : IsMap m) (whole : List ℕ) (e : Entries) (says : SaysThese m plan.lists whole e) where
  form : IsReportOf m plan whole e
  form = (are_reports m plan map whole e).0 says

  pub events_few : length e.records < 2 ^ 32
  events_few = form.few_records

  pub judged_number : (s : NamedCourse) (bytes : List ℕ) (before : ℕ) (j : Judgement) → before < 2 ^ 62 → Judges s bytes e j → HasNumber before j
  judged_number s bytes before word.Yes low h = tt
  judged_number s bytes before word.NoAccounted low h = tt
  judged_number s bytes before (word.NoStamped line) low h =
      let at : line ≡ e.sites + 4 + h.1.0 = h.1.2 in
      let within = h.1.1.within in
      let sites = form.few_sites in
      let events = form.few_records in
      let number : before + line < 2 ^ 64 = omega (arith, at, within, sites, events, low) in
      number
  judged_number s bytes before (word.NoExcused line) low h =
      let at : line ≡ e.sites + 5 + length e.records + h.2.0 = h.2.2 in
      let within = h.2.1.within in
      let sites = form.few_sites in
      let events = form.few_records in
      let gone = form.few_abandoned in
      let number : before + line < 2 ^ 64 = omega (arith, at, within, sites, events, gone, low) in
      number
  judged_number s bytes before word.NoAtoms low h = tt
