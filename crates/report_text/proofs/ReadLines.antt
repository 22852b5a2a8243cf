-- Reading a report line by line.
use Rattle.std.proofs.Common.{ℕ, zero, suc, ◌≡◌, ◌≢◌, ◌+◌, ◌<◌, ◌≤◌, ◌==◌, arith, true, false, ◌&&◌, List, [], ◌∷◌, ◌++◌, refl, ap, sym, ◌∙◌, Option, Some, None, Result, Ok, Err, length, get_or, replicate, subst, inl, inr}
use Rattle.std.specs.Result.{IsErrAnd}
use Rattle.std.proofs.lemmas.List.{map-append, get_or_append_left}
use Rattle.std.proofs.Math.Seq.{get_or-append_seam}
use Rattle.std.proofs.lemmas.Bool.Decides.{eqb_tells}
use Rattle.text_lines.specs.Fields.{Lacks, fields}
use Rattle.text_lines.specs.Lines.{ended_lines}
use Rattle.text_lines.proofs.Cuts.{ended_open, ended_none}
use Rattle.draw_stream.specs.declared.attempt.Attempt.{Attempt}
use Rattle.tile_map.specs.Plane.{MapValue}
use Rattle.report_text.specs.declared.journal_fault.LineFault.{LineFault}
use Rattle.report_text.specs.declared.journal_fault.LineFault.TheVariants.{BadForm}
use Rattle.report_text.specs.declared.cursors.LogCursor.{LogCursor}
use Rattle.report_text.specs.Entries.{Entries}
use Rattle.report_text.specs.Reading.{Said, entries_said, fields_step, line_step, read_report, read_lines, nothing_said, is_over, go_on, IsFault, fault_of}
use Rattle.report_text.specs.Cursors.{Serves, last_of, lasts_of, ReadsJournal, ReadsSaid}
use Rattle.report_text.specs.declared.journal_fault.JournalFault.{JournalFault}

pub walk_start : (m : MapValue) (lists : List (List Attempt)) (bytes : List ℕ) → read_lines m lists 1 (nothing_said m) (ended_lines bytes) ≡ read_report m lists bytes
unfolding read_report
walk_start m lists bytes = refl

pub walk_line : (m : MapValue) (lists : List (List Attempt)) (n : ℕ) (d e : Said) (t : List ℕ) (ts : List (Option (List ℕ))) → fields_step m lists n d d.wants (fields t) ≡ Ok e →
    read_lines m lists n d (Some t ∷ ts) ≡ read_lines m lists (n + 1) e ts
unfolding read_lines line_step
walk_line m lists n d e t ts h = rw h refl

pub walk_fault : (m : MapValue) (lists : List (List Attempt)) (n : ℕ) (d : Said) (t : List ℕ) (ts : List (Option (List ℕ))) (fault : Option (ℕ × LineFault)) →
    IsFault (go_on n (fields_step m lists n d d.wants (fields t)) (λ e. Ok e)) fault → IsFault (read_lines m lists n d (Some t ∷ ts)) fault
unfolding read_lines line_step
walk_fault m lists n d t ts None h = tt {0}
walk_fault m lists n d t ts (Some f) h = on (fields_step m lists n d d.wants (fields t)) h
  where
    on : (r : Result Said LineFault) → go_on n r (λ e. Ok e) ≡ Err f → go_on n r (λ e. read_lines m lists (n + 1) e ts) ≡ Err f
    on (Ok e) is = cc
    on (Err fault) is = is

walk_open : (m : MapValue) (lists : List (List Attempt)) (n : ℕ) (d : Said) → read_lines m lists n d (None ∷ []) ≡ Err (n, BadForm)
unfolding read_lines line_step
walk_open m lists n d = refl

-- a text that is over where nothing more is wanted
pub walk_whole : (m : MapValue) (lists : List (List Attempt)) (n : ℕ) (d : Said) (left : List ℕ) → (length left == 0) ≡ true → is_over d.wants ≡ true → read_lines m lists n d (ended_lines left) ≡ Ok d
unfolding read_lines
walk_whole m lists n d [] none h = ap (read_lines m lists n d) ended_none ∙ rw h refl
walk_whole m lists n d (b ∷ bs) none h = absurd (never (length (b ∷ bs)) (omega arith) none)
  where
    never : (k : ℕ) → 1 ≤ k → (k == 0) ≡ true → ⊥
    never k some e = grind arith

-- a text that is over where more is wanted, or whose last line lacks its LF
pub walk_short : (m : MapValue) (lists : List (List Attempt)) (n : ℕ) (d : Said) (left : List ℕ) → Lacks left 10 → (length left == 0 && is_over d.wants) ≡ false → read_lines m lists n d (ended_lines left) ≡ Err (n, BadForm)
unfolding read_lines
walk_short m lists n d [] lacks h = ap (read_lines m lists n d) ended_none ∙ rw h refl
walk_short m lists n d (b ∷ bs) lacks h = ap (read_lines m lists n d) (ended_open (b ∷ bs) (λ e. absurd (cc e)) lacks) ∙ walk_open m lists n d

-- an answer by a fault
pub read_stops : (m : MapValue) (lists : List (List Attempt)) (bytes : List ℕ) (r : Result Entries JournalFault) (fault : JournalFault) → IsErrAnd r (λ e. e ≡ fault) →
    IsFault (read_report m lists bytes) (fault_of fault) → ReadsJournal m lists bytes r
read_stops m lists bytes (Ok e) fault is h = absurd is
read_stops m lists bytes (Err e) fault is h = subst (λ f. IsFault (read_report m lists bytes) (fault_of f)) (sym is) h

-- an answer by what the lines that are left are read as
pub read_on : (m : MapValue) (lists : List (List Attempt)) (bytes : List ℕ) (asked : Result Said (ℕ × LineFault)) (r : Result Entries JournalFault) → asked ≡ read_report m lists bytes →
    ReadsSaid asked r → ReadsJournal m lists bytes r
read_on m lists bytes asked (Ok e) is h = subst (λ q. entries_said q ≡ Ok e) is h
read_on m lists bytes asked (Err fault) is h = subst (λ q. IsFault q (fault_of fault)) is h

replicate_more : (n : ℕ) → replicate n None ++ None ∷ [] ≡ replicate {A = Option (ℕ × ℕ)} (suc n) None
replicate_more zero = refl
replicate_more (suc n) = ap (λ z. None ∷ z) (replicate_more n)

-- one more cursor, which has passed nothing
pub fresh_more : (cursors : List LogCursor) (n : ℕ) (s : LogCursor) → last_of s ≡ None → lasts_of cursors ≡ replicate n None → lasts_of (cursors ++ s ∷ []) ≡ replicate (n + 1) None
fresh_more cursors n s is was =
    map-append last_of cursors (s ∷ []) ∙ ap (λ z. z ++ last_of s ∷ []) was ∙ ap (λ (o : Option (ℕ × ℕ)). replicate n None ++ o ∷ []) is ∙ replicate_more n
    ∙ (let next : suc n ≡ n + 1 = omega arith in ap (λ k. replicate {A = Option (ℕ × ℕ)} k None) next)

pub serve_more : (cursors : List LogCursor) (lists : List (List Attempt)) (n : ℕ) (s : LogCursor) → length cursors ≡ n → ((t : ℕ) (d : LogCursor) → t < n → Serves (get_or cursors t d) (get_or lists t [])) →
    Serves s (get_or lists n []) → (t : ℕ) (d : LogCursor) → t < n + 1 → Serves (get_or (cursors ++ s ∷ []) t d) (get_or lists t [])
serve_more cursors lists n s size before last t d less = elim (eqb_tells t n) [
  | inl same ↦ subst (λ k. Serves (get_or (cursors ++ s ∷ []) k d) (get_or lists k [])) (sym same.1)
      (subst (λ (z : LogCursor). Serves z (get_or lists n [])) (sym (ap (λ k. get_or (cursors ++ s ∷ []) k d) (sym size) ∙ get_or-append_seam cursors s [] d)) last)
  | inr other ↦ let o = other.1 in let lt : t < n = below t n less o in
      subst (λ (z : LogCursor). Serves z (get_or lists t [])) (sym (get_or_append_left cursors (s ∷ []) d t (omega (arith, size, lt)))) (before t d lt)
]
  where
    below : (t n : ℕ) → t < n + 1 → t ≢ n → t < n
    below t n a b = grind arith
