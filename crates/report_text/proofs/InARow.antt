-- A report is told from what follows it by its counts.
use Rattle.std.proofs.Common.{ℕ, suc, ◌≡◌, ◌≢◌, ◌+◌, ◌^◌, ◌<◌, true, List, [], ◌∷◌, ◌++◌, All, append_assoc, bytes_eq, codes, get_or, length, map, refl, ap, sym, ◌∙◌, arith, Option, Some, None, length-append}
use Rattle.std.specs.List.{list_all}
use Rattle.std.proofs.lemmas.List.{length-map}
use Rattle.std.proofs.lemmas.List.Elements.{All-append, All-cons, All-head, All-nil, All-tail}
use Rattle.list_laws.proofs.Tests.{both}
use Rattle.cell_grid.specs.declared.record.Record.{Record}
use Rattle.draw_stream.specs.Plans.{PlanValue}
use Rattle.event_journal.specs.declared.abandoned.Abandoned.{Abandoned}
use Rattle.report_text.proofs.Bounds.{abandoned_words, record_words}
use Rattle.report_text.proofs.Exact.{ended, site_line}
use Rattle.report_text.proofs.Firsts.{behind_lf, first_of_later}
use Rattle.report_text.proofs.FormRead.{count_again, lines_are}
use Rattle.report_text.proofs.PrintedLines.{counted_lines, each_line}
use Rattle.report_text.proofs.ReadAgain.{form_left}
use Rattle.report_text.specs.Again.{AreFormed, IsDrawablePlan, entries_in}
use Rattle.report_text.specs.Entries.{Entries}
use Rattle.report_text.specs.First.{behind_lines, count_in, lines_counted}
use Rattle.report_text.specs.Forms.{count_form}
use Rattle.report_text.specs.JournalText.{abandoned_fields, count_fields, record_fields}
use Rattle.report_text.specs.OneReport.{AreAbandonedWords, AreRecordWords}
use Rattle.report_text.specs.Report.{atom_fields, report_of, shown_atoms}
use Rattle.report_text.specs.ReportForm.{IsSmallAbandoned, IsSmallRecord}
use Rattle.report_text.specs.Short.{short_abandoned_fields, short_header, short_record_fields}
use Rattle.report_text.specs.ShortForm.{short_lines_of}
use Rattle.report_text.specs.ShortLaws.{AreInARow, IsFirstReport}
use Rattle.text_lines.proofs.Cuts.{ended_at}
use Rattle.text_lines.proofs.Joined.{fields_again}
use Rattle.text_lines.proofs.Printed.{decimal_high, high_lacks}
use Rattle.text_lines.specs.Fields.{Lacks, fields}
use Rattle.text_lines.specs.Forms.{with}
use Rattle.text_lines.specs.Lines.{ended_line, ended_lines, line_text, more_text, text_of}
use Rattle.text_lines.specs.Printed.{IsLine, is_field}
use Rattle.tile_map.specs.Plane.{MapValue}

-- Lines before other bytes

more_lacks : (fs : List (List ℕ)) → list_all is_field fs ≡ true → Lacks (more_text fs) 10
more_lacks [] all = All-nil _
more_lacks (f ∷ fs) all =
    let h = both (is_field f) (list_all is_field fs) all in
    All-append (λ v. v ≢ 10) (32 ∷ f) (more_text fs) (All-cons (λ v. v ≢ 10) 32 f (λ e. absurd (omega (arith, e))) (high_lacks f 10 h.0 (omega arith))) (more_lacks fs h.1)

pub line_lacks : (fs : List (List ℕ)) → IsLine fs → Lacks (line_text fs) 10
line_lacks [] line = All-nil _
line_lacks (f ∷ fs) line =
    let h = both (is_field f) (list_all is_field fs) line.high in
    All-append (λ v. v ≢ 10) f (more_text fs) (high_lacks f 10 h.0 (omega arith)) (more_lacks fs h.1)

one_on : (l : List (List ℕ)) (ls : List (List (List ℕ))) (rest : List ℕ) → text_of (l ∷ ls) ++ rest ≡ line_text l ++ 10 ∷ (text_of ls ++ rest)
one_on l ls rest = append_assoc (ended_line l) (text_of ls) rest ∙ append_assoc (line_text l) (10 ∷ []) (text_of ls ++ rest)

ended_on : (ls : List (List (List ℕ))) (rest : List ℕ) → All IsLine ls → ended_lines (text_of ls ++ rest) ≡ ended ls ++ ended_lines rest
ended_on [] rest all = refl
ended_on (l ∷ ls) rest all =
    ended_at (line_text l) (text_of ls ++ rest) (text_of (l ∷ ls) ++ rest) (line_lacks l (All-head IsLine l ls all)) (one_on l ls rest)
    ∙ ap (λ z. Some (line_text l) ∷ z) (ended_on ls rest (All-tail IsLine l ls all))

behind_on : (ls : List (List (List ℕ))) (rest : List ℕ) → All IsLine ls → behind_lines (length ls) (text_of ls ++ rest) ≡ rest
unfolding behind_lines
behind_on [] rest all = refl
behind_on (l ∷ ls) rest all =
    ap (behind_lines (length ls)) (sym (behind_lf (text_of (l ∷ ls) ++ rest) (line_text l) (text_of ls ++ rest) (line_lacks l (All-head IsLine l ls all)) (one_on l ls rest)))
    ∙ behind_on ls rest (All-tail IsLine l ls all)

-- Counts among them

seam : (front back : List (List (List ℕ))) (l : List (List ℕ)) (ts : List (Option (List ℕ))) → get_or (ended (front ++ l ∷ back) ++ ts) (length front) None ≡ Some (line_text l)
seam [] back l ts = refl
seam (f ∷ front) back l ts = seam front back l ts

counted_at : (word : List ℕ) (k n : ℕ) (front back ls : List (List (List ℕ))) (ts : List (Option (List ℕ))) → ls ≡ front ++ count_fields word n ∷ back → length front ≡ k → bytes_eq word word ≡ true → is_field word ≡ true → n < 2 ^ 32
    → count_in word (ended ls ++ ts) k ≡ Some n
counted_at word k n front back ls ts is long same high few =
    let line : IsLine (count_fields word n) = record { some = omega arith; high = rw (high, decimal_high n (omega (arith, few))) refl } in
    ap (λ (o : Option (List ℕ)). with o (λ t. count_form word (fields t))) (ap (λ z. get_or (ended z ++ ts) k None) is ∙ ap (λ j. get_or (ended (front ++ count_fields word n ∷ back) ++ ts) j None) (sym long) ∙ seam front back (count_fields word n) ts)
    ∙ ap (count_form word) (fields_again (count_fields word n) line) ∙ count_again word n same few

-- the lines of a report, by their kinds
abbrev kinds : List (List ℕ) → ℕ → ℕ → ℕ → List (List (List ℕ)) → List (List (List ℕ)) → List (List (List ℕ)) → List (List (List ℕ))
kinds head a r g atoms events gone = head ∷ ((count_fields (codes "atoms") a ∷ atoms) ++ ((count_fields (codes "journal") r ∷ events) ++ (count_fields (codes "abandoned") g ∷ gone)))

all_counted : (head : List (List ℕ)) (a r g : ℕ) (atoms events gone : List (List (List ℕ))) (ts : List (Option (List ℕ))) → length atoms ≡ a → length events ≡ r → a < 2 ^ 32 → r < 2 ^ 32 → g < 2 ^ 32
    → lines_counted (ended (kinds head a r g atoms events gone) ++ ts) ≡ Some (a + r + g + 4)
unfolding lines_counted
all_counted head a r g atoms events gone ts long longer few fewer fewest =
    let ls = kinds head a r g atoms events gone in
    let front = head ∷ count_fields (codes "atoms") a ∷ atoms in
    let journal = count_fields (codes "journal") r ∷ events in
    let last = count_fields (codes "abandoned") g ∷ gone in
    let two : length front ≡ a + 2 = let n : suc (suc (length atoms)) ≡ a + 2 = omega (arith, long) in n in
    let three : length (front ++ journal) ≡ a + r + 3 = length-append front journal ∙ (let n : suc (suc (length atoms)) + suc (length events) ≡ a + r + 3 = omega (arith, long, longer) in n) in
    let first = counted_at (codes "atoms") 1 a (head ∷ []) (atoms ++ (journal ++ last)) ls ts refl refl refl refl few in
    let second = counted_at (codes "journal") (a + 2) r front (events ++ last) ls ts refl two refl refl fewer in
    let third = counted_at (codes "abandoned") (a + r + 3) g (front ++ journal) gone ls ts (sym (append_assoc front journal last)) three refl refl fewest in
    rw (first, second, third) refl

-- a text of such lines before other bytes
told : (head : List (List ℕ)) (a r g : ℕ) (atoms events gone : List (List (List ℕ))) (rest : List ℕ) → All IsLine (kinds head a r g atoms events gone) → length atoms ≡ a → length events ≡ r → length gone ≡ g → a < 2 ^ 32 → r < 2 ^ 32 → g < 2 ^ 32
    → IsFirstReport (text_of (kinds head a r g atoms events gone)) (a + r + g + 4) rest
told head a r g atoms events gone rest all long longer longest few fewer fewest =
    let ls = kinds head a r g atoms events gone in
    let front = head ∷ count_fields (codes "atoms") a ∷ atoms in
    let journal = count_fields (codes "journal") r ∷ events in
    let last = count_fields (codes "abandoned") g ∷ gone in
    let size : length ls ≡ a + r + g + 4 = length-append front (journal ++ last) ∙ ap (λ j. length front + j) (length-append journal last)
    ∙ (let n : suc (suc (length atoms)) + (suc (length events) + suc (length gone)) ≡ a + r + g + 4 = omega (arith, long, longer, longest) in n) in
    first_of_later (text_of ls) rest (a + r + g + 4)
    (ap lines_counted (ended_on ls rest all) ∙ all_counted head a r g atoms events gone (ended_lines rest) long longer few fewer fewest)
    (ap (λ n. behind_lines n (text_of ls ++ rest)) (sym size) ∙ behind_on ls rest all)

-- The short lines

short_record_line : (r : Record) → AreRecordWords r → IsLine (short_record_fields r)
short_record_line r p = record { some = omega arith; high = rw (decimal_high r.stamp p.0, decimal_high r.tile p.1, decimal_high r.attempt p.2) refl }

short_abandoned_line : (a : Abandoned) → AreAbandonedWords a → IsLine (short_abandoned_fields a)
short_abandoned_line a p = record { some = omega arith; high = rw (decimal_high a.tile p.0, decimal_high a.attempt p.1, decimal_high a.edge p.4, decimal_high a.holder p.5, decimal_high a.holder_attempt p.6) refl }

pub short_lines : (sites : List (List (List ℕ))) (e : Entries) → All IsLine sites → All IsSmallRecord e.records → All IsSmallAbandoned e.abandoned → e.sites < 2 ^ 32 → length e.records < 2 ^ 32 → length e.abandoned < 2 ^ 32
    → All IsLine (short_lines_of sites e)
short_lines sites e lines small ends few_sites few_records few_abandoned =
    let events = map short_record_fields e.records in
    let gone = map short_abandoned_fields e.abandoned in
    let front = count_fields (codes "atoms") e.sites ∷ sites in
    let journal = count_fields (codes "journal") (length e.records) ∷ events in
    let last = count_fields (codes "abandoned") (length e.abandoned) ∷ gone in
    All-cons IsLine short_header (front ++ (journal ++ last)) (record { some = omega arith; high = refl })
    (All-append IsLine front (journal ++ last) (counted_lines (codes "atoms") e.sites sites refl (omega (arith, few_sites)) lines)
    (All-append IsLine journal last
    (counted_lines (codes "journal") (length e.records) events refl (omega (arith, few_records)) (each_line IsSmallRecord short_record_fields (λ r p. short_record_line r (record_words r p)) e.records small))
    (counted_lines (codes "abandoned") (length e.abandoned) gone refl (omega (arith, few_abandoned)) (each_line IsSmallAbandoned short_abandoned_fields (λ a p. short_abandoned_line a (abandoned_words a p)) e.abandoned ends))))

pub in_a_row : (names : List (List ℕ)) (m : MapValue) (plan : PlanValue) → AreFormed names → IsDrawablePlan m plan → AreInARow names m plan
unfolding form_left
in_a_row names m plan formed p = λ v rest left.
    let form = form_left names m plan formed p v left in
    let lines = lines_are m plan (report_of names v) (entries_in v) form in
    let shown = shown_atoms v.grid in
    let atoms = map (atom_fields names) shown in
    let sites : All IsLine atoms = λ k d lt. site_line _ (form.each k d lt) in
    record {
      whole = told (codes "feast" ∷ codes "1" ∷ []) (length shown) (length v.records) (length v.abandoned) atoms (map record_fields v.records) (map abandoned_fields v.abandoned) rest lines
          (length-map shown (atom_fields names)) (length-map v.records record_fields) (length-map v.abandoned abandoned_fields) form.few_sites form.few_records form.few_abandoned;
      short = told short_header (length shown) (length v.records) (length v.abandoned) atoms (map short_record_fields v.records) (map short_abandoned_fields v.abandoned) rest (short_lines atoms (entries_in v) sites form.small form.abandoned form.few_sites form.few_records form.few_abandoned)
          (length-map shown (atom_fields names)) (length-map v.records short_record_fields) (length-map v.abandoned short_abandoned_fields) form.few_sites form.few_records form.few_abandoned;
    }
