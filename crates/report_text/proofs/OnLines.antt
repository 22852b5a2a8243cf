-- The entries of a report stand on the lines that are told of them.
use Rattle.std.proofs.Common.{ℕ, zero, suc, ◌≡◌, ◌+◌, ◌-◌, List, [], ◌∷◌, ◌++◌, All, codes, get_or, length, map, refl, ap, ◌∙◌, arith, Option, Some, None, Result, Ok, Err}
use Rattle.std.proofs.lemmas.List.{length-map}
use Rattle.std.specs.Prelude.{IfOk, option_map, slice_get}
use Rattle.cell_grid.specs.declared.record.Record.{Record}
use Rattle.draw_stream.specs.Plans.{PlanValue}
use Rattle.event_journal.specs.declared.abandoned.Abandoned.{Abandoned}
use Rattle.report_text.proofs.FormRead.{lines_are}
use Rattle.report_text.proofs.ReadForm.{are_reports}
use Rattle.report_text.specs.Cursors.{ReadsJournal}
use Rattle.report_text.specs.declared.journal_fault.JournalFault.{JournalFault}
use Rattle.report_text.specs.Entries.{Entries, abandoned_line, event_line}
use Rattle.report_text.specs.EntryLines.{AreOnLines, line_at}
use Rattle.report_text.specs.JournalText.{abandoned_fields, abandoned_lines, count_fields, record_fields}
use Rattle.report_text.specs.ReportForm.{IsReportOf, lines_of}
use Rattle.text_lines.proofs.Joined.{ended_again}
use Rattle.text_lines.specs.Lines.{ended_lines, line_text, text_of}
use Rattle.text_lines.specs.Printed.{IsLine}
use Rattle.tile_map.specs.Plane.{IsMap, MapValue}

-- what stands at a place, among the results of a function, before others, and behind others

mapped : {A B : Type 0} → (f : A → B) (xs : List A) (k : ℕ) (x : A) → slice_get xs k ≡ Some x → slice_get (map f xs) k ≡ Some (f x)
mapped f [] k x is = cc is
mapped f (y ∷ xs) zero x is = ap (λ o. option_map f o) is
mapped f (y ∷ xs) (suc k) x is = mapped f xs k x is

before : {A : Type 0} → (front back : List A) (k : ℕ) (x : A) → slice_get front k ≡ Some x → slice_get (front ++ back) k ≡ Some x
before [] back k x is = cc is
before (y ∷ front) back zero x is = is
before (y ∷ front) back (suc k) x is = before front back k x is

behind : {A : Type 0} → (front back : List A) (n k : ℕ) (x : A) → n ≡ length front + k → slice_get back k ≡ Some x → slice_get (front ++ back) n ≡ Some x
behind [] back n k x at is = let same : n ≡ k = omega (arith, at) in ap (slice_get back) same ∙ is
behind (y ∷ front) back zero k x at is = absurd (omega (arith, at))
behind (y ∷ front) back (suc n) k x at is = behind front back n k x (omega (arith, at)) is

at_place : {A : Type 0} → (xs : List A) (k : ℕ) (d x : A) → slice_get xs k ≡ Some x → get_or xs k d ≡ x
at_place [] k d x is = cc is
at_place (y ∷ xs) zero d x is = cc is
at_place (y ∷ xs) (suc k) d x is = at_place xs k d x is

module _ (bytes : List ℕ) (e : Entries) (sites : List (List (List ℕ))) where
  abbrev front : List (List (List ℕ))
  front = (codes "feast" ∷ codes "1" ∷ []) ∷ count_fields (codes "atoms") e.sites ∷ sites

  front_long : length front ≡ length sites + 2
  front_long = let n : suc (suc (length sites)) ≡ length sites + 2 = omega arith in n

  -- a line of the text
  told : (n : ℕ) (fs : List (List ℕ)) → bytes ≡ text_of (lines_of sites e) → All IsLine (lines_of sites e) → slice_get (lines_of sites e) (n - 1) ≡ Some fs → line_at bytes n ≡ Some (line_text fs)
  told n fs text all is =
      let line = λ (l : List (List ℕ)). Some (line_text l) in
      ap (λ (ls : List (Option (List ℕ))). get_or ls (n - 1) None) (ap ended_lines text ∙ ended_again (lines_of sites e) all)
      ∙ at_place (map line (lines_of sites e)) (n - 1) None (line fs) (mapped line (lines_of sites e) (n - 1) fs is)

  event_at : (k : ℕ) (r : Record) → length sites ≡ e.sites → slice_get e.records k ≡ Some r → slice_get (lines_of sites e) (e.sites + 4 + k - 1) ≡ Some (record_fields r)
  event_at k r many is =
      let events = map record_fields e.records in
      let count = count_fields (codes "journal") (length e.records) in
      let gone = abandoned_lines e.abandoned in
      behind front ((count ∷ events) ++ gone) (e.sites + 4 + k - 1) (1 + k) (record_fields r) (omega (arith, many, front_long))
      (behind (count ∷ []) (events ++ gone) (1 + k) k (record_fields r) refl (before events gone k (record_fields r) (mapped record_fields e.records k r is)))

  abandoned_at : (k : ℕ) (a : Abandoned) → length sites ≡ e.sites → slice_get e.abandoned k ≡ Some a → slice_get (lines_of sites e) (e.sites + 5 + length e.records + k - 1) ≡ Some (abandoned_fields a)
  abandoned_at k a many is =
      let events = count_fields (codes "journal") (length e.records) ∷ map record_fields e.records in
      let count = count_fields (codes "abandoned") (length e.abandoned) in
      let gone = map abandoned_fields e.abandoned in
      let long = length-map e.records record_fields in
      behind front (events ++ (count ∷ gone)) (e.sites + 5 + length e.records + k - 1) (length e.records + 2 + k) (abandoned_fields a) (omega (arith, many, front_long))
      (behind events (count ∷ gone) (length e.records + 2 + k) (1 + k) (abandoned_fields a) (omega (arith, long))
      (behind (count ∷ []) gone (1 + k) k (abandoned_fields a) refl (mapped abandoned_fields e.abandoned k a is)))

-- the entries of a report are on their lines
pub on_lines : (m : MapValue) (plan : PlanValue) (bytes : List ℕ) (e : Entries) → IsReportOf m plan bytes e → AreOnLines bytes e
on_lines m plan bytes e is =
    let lines = lines_are m plan bytes e is in
    record {
      events = λ k r got. told bytes e is.sites (event_line e k) (record_fields r) is.text lines (event_at bytes e is.sites k r is.many got);
      abandoned = λ k a got. told bytes e is.sites (abandoned_line e k) (abandoned_fields a) is.text lines (abandoned_at bytes e is.sites k a is.many got);
    }

-- so they are in whatever was read
pub read_on_lines : (m : MapValue) (plan : PlanValue) → IsMap m → (bytes : List ℕ) (r : Result Entries JournalFault) → ReadsJournal m plan.lists bytes r → IfOk r (AreOnLines bytes)
read_on_lines m plan map bytes (Ok e) reads = on_lines m plan bytes e ((are_reports m plan map bytes e).0 reads)
read_on_lines m plan map bytes (Err fault) reads = tt
