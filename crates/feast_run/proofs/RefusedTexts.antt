-- The fault of a journal has a line, and that of a code file a byte.
use Rattle.std.proofs.Common.{ℕ, ◌≡◌, ◌≤◌, ◌+◌, ◌++◌, Bool, true, false, List, [], ◌∷◌, Option, Result, Ok, Err, refl, subst, arith, if◌then◌else◌}
use Rattle.code_file.specs.Form.{CodesValue, names_of}
use Rattle.code_file.specs.Judging.{Reads, column_behind, is_among, right_elements}
use Rattle.code_file.specs.declared.fault.CodeFault.{CodeFault}
use Rattle.code_file.specs.declared.fault.CodeFault.TheVariants.{BadMagic, BadForm, NotValid, SameName, NoMemory}
use Rattle.draw_stream.specs.declared.attempt.Attempt.{Attempt}
use Rattle.report_text.specs.Reading.{Said, entries_said, go_on, is_over, line_step, nothing_said, read_lines, read_report}
use Rattle.report_text.specs.declared.journal_fault.LineFault.{LineFault}
use Rattle.report_text.specs.declared.journal_fault.LineFault.TheVariants.{BadForm as bad_form, OutOfTurn, ElsewhereThanTile, OtherThanAttempt}
use Rattle.feast_base.specs.declared.place.Refusal.{Refusal}
use Rattle.feast_run.proofs.Placed.{HasPlace, byte_placed, line_placed}
use Rattle.feast_run.specs.CodeFiles.{IsCodeRefused, at_byte}
use Rattle.feast_run.specs.Halting.{RefusedValue, refusal_of}
use Rattle.feast_run.specs.Stages.{line_refusal}
use Rattle.feast_run.specs.declared.halt.Input.TheVariants as input
use Rattle.stack_code.specs.Valid.{valid}
use Rattle.text_lines.specs.Lines.{ended_lines}
use Rattle.tile_map.specs.Plane.{MapValue}

-- A journal

abbrev HasLine : ℕ × LineFault → Type 0
HasLine f = 1 ≤ f.0

ends_late : (n : ℕ) (b : Bool) (d : Said) (f : ℕ × LineFault) → 1 ≤ n → if◌then◌else◌ {A = Result Said (ℕ × LineFault)} b (Ok d) (Err (n, bad_form)) ≡ Err f → HasLine f
ends_late n true d f some h = cc
ends_late n false d f some h = let same : (n, bad_form) ≡ f = cc in subst HasLine same some

lines_refused : (m : MapValue) (lists : List (List Attempt)) (n : ℕ) (d : Said) (ts : List (Option (List ℕ))) (f : ℕ × LineFault) → 1 ≤ n → read_lines m lists n d ts ≡ Err f → HasLine f
unfolding read_lines
lines_refused m lists n d [] f some h = ends_late n (is_over d.wants) d f some h
lines_refused m lists n d (t ∷ ts) f some h = on (line_step m lists n d t) h (λ e g. lines_refused m lists (n + 1) e ts f (omega arith) g)
  where
    on : (r : Result Said LineFault) → go_on n r (λ e. read_lines m lists (n + 1) e ts) ≡ Err f → ((e : Said) → read_lines m lists (n + 1) e ts ≡ Err f → HasLine f) → HasLine f
    on (Ok e) g rest = rest e g
    on (Err fault) g rest = let same : (n, fault) ≡ f = cc in subst HasLine same some

report_refused : (m : MapValue) (lists : List (List Attempt)) (bytes : List ℕ) (f : ℕ × LineFault) → read_report m lists bytes ≡ Err f → HasLine f
unfolding read_report
report_refused m lists bytes f h = lines_refused m lists 1 (nothing_said m) (ended_lines bytes) f (omega arith) h

pub journal_refused_at : (m : MapValue) (lists : List (List Attempt)) (bytes : List ℕ) (f : ℕ × LineFault) → entries_said (read_report m lists bytes) ≡ Err f → 1 ≤ f.0
journal_refused_at m lists bytes f h = on (read_report m lists bytes) refl h
  where
    on : (r : Result Said (ℕ × LineFault)) → read_report m lists bytes ≡ r → entries_said r ≡ Err f → HasLine f
    on (Ok d) is g = cc
    on (Err fault) is g = let same : fault ≡ f = cc in subst HasLine same (report_refused m lists bytes fault is)

pub line_refused : (line : ℕ) (fault : LineFault) → 1 ≤ line → HasPlace (line_refusal line fault)
line_refused line bad_form some = line_placed 80 line 0 (omega arith) some
line_refused line (OutOfTurn previous) some = line_placed 81 line previous (omega arith) some
line_refused line ElsewhereThanTile some = line_placed 82 line 0 (omega arith) some
line_refused line OtherThanAttempt some = line_placed 83 line 0 (omega arith) some

-- A code file

-- the byte that a fault is at is from 1
abbrev IsFrom : CodeFault → Type 0
IsFrom (NotValid column) = 1 ≤ column
IsFrom (SameName column) = 1 ≤ column
IsFrom fault = Unit {0}

abbrev fails : CodeFault → Result CodesValue CodeFault
fails fault = Err fault

judged_from : (done es : CodesValue) (f : CodeFault) → right_elements done es ≡ Err f → IsFrom f
judged_from done [] f h = cc
judged_from done (e ∷ es) f h = by (is_among e.name (names_of done)) (valid e.code) h (λ g. judged_from (done ++ e ∷ []) es f g)
  where
    by : (a b : Bool) → (if a then fails (SameName (column_behind done)) else (if b then right_elements (done ++ e ∷ []) es else fails (NotValid (column_behind done)))) ≡ Err f → (right_elements (done ++ e ∷ []) es ≡ Err f → IsFrom f) → IsFrom f
    by true b g rest = let same : SameName (column_behind done) ≡ f = cc in subst IsFrom same (omega arith)
    by false true g rest = rest g
    by false false g rest = let same : NotValid (column_behind done) ≡ f = cc in subst IsFrom same (omega arith)

-- a refusal of a code file at a byte
pub record IsCodesRefused (word : List ℕ) (r : RefusedValue) : Type 0 where
  pub refusal : Refusal
  pub is : r ≡ refusal_of input.Codes word refusal
  pub place : HasPlace refusal

at_column : (word : List ℕ) (code column : ℕ) (r : RefusedValue) → 3 ≤ code → 1 ≤ column → r ≡ refusal_of input.Codes word (at_byte code column) → IsCodesRefused word r
at_column word code column r shown some is = record { refusal = at_byte code column; is = is; place = byte_placed code column shown some }

pub codes_refused : (word bytes : List ℕ) (fault : CodeFault) (r : RefusedValue) → Reads bytes (Err fault) → IsCodeRefused word fault r → IsCodesRefused word r
codes_refused word bytes BadMagic r reads is = at_column word 61 1 r (omega arith) (omega arith) is
codes_refused word bytes (BadForm column) r reads is = at_column word 62 column r (omega arith) reads.1.some is
codes_refused word bytes (NotValid column) r reads is = at_column word 63 column r (omega arith) (judged_from [] reads.says (NotValid column) reads.judged_is) is
codes_refused word bytes (SameName column) r reads is = at_column word 64 column r (omega arith) (judged_from [] reads.says (SameName column) reads.judged_is) is
codes_refused word bytes NoMemory r reads is = absurd is
