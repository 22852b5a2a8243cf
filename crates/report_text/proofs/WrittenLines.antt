-- Lines that are written from their last byte to their first.
use Rattle.std.proofs.Common.{ℕ, ◌≡◌, ◌+◌, ◌-◌, ◌/◌, ◌%◌, ◌^◌, ◌<◌, ◌≤◌, List, ◌∷◌, ◌++◌, length, drop, take, get_or, map, append-nil, append_assoc, refl, sym, ap, ◌∙◌, arith, rules}
use Rattle.std.specs.Prelude.{codes, decimal, []}
use Rattle.std.proofs.lemmas.Fmt.{length-decimal-le}
use Rattle.std.proofs.lemmas.List.{at_drop_more, drop_more, length-drop, map-append, take_all}
use Rattle.std.proofs.lemmas.Grind.{flat_map-append}
use Rattle.feast_base.proofs.Appending.{piece_done}
use Rattle.text_lines.specs.Lines.{ended_line, more_text, text_of}
use Rattle.event_journal.specs.Logs.{LogValue, abandoned_in, abandoned_of}
use Rattle.bit_field.specs.Atom.{AtomValue}
use Rattle.feast_base.specs.Digits.{hex}
use Rattle.feast_base.specs.TypeNames.{name_of}
use Rattle.cell_grid.specs.Grid.{GridValue}
use Rattle.cell_grid.specs.declared.record.Record.{Record}
use Rattle.report_text.specs.JournalText.{abandoned_fields, abandoned_lines, count_fields, journal_text, record_lines}
use Rattle.report_text.specs.Report.{atom_fields, atom_lines, atoms_text, report, report_value, shown_atoms, shown_at, shown_one}
use Rattle.report_text.specs.Details.{header_by, journal_text_by, report_by}
use Rattle.report_text.specs.Short.{counts_report, short_abandoned_lines, short_header, short_record_lines}
use Rattle.report_text.specs.declared.detail.Detail.{Detail}
use Rattle.report_text.specs.declared.detail.Detail.TheVariants.{Whole, Short}
use Rattle.event_journal.specs.declared.abandoned.Abandoned.{Abandoned}

-- how many digits a number of 32 bits has, and one of 64
pub short_number : (n : ℕ) → n < 2 ^ 32 → length (decimal n) ≤ 10
short_number n fits = length-decimal-le 10 n (omega arith) (omega (arith, fits)) (omega (arith, fits))

pub long_number : (n : ℕ) → n < 2 ^ 64 → length (decimal n) ≤ 20
long_number n fits = length-decimal-le 20 n (omega arith) (omega (arith, fits)) fits

-- further fields and the LF, from left to right
abbrev pub rest_of_line : List (List ℕ) → List ℕ
rest_of_line [] = 10 ∷ []
rest_of_line (f ∷ fs) = 32 ∷ (f ++ rest_of_line fs)

more_fields : (fs : List (List ℕ)) → more_text fs ++ (10 ∷ []) ≡ rest_of_line fs
more_fields [] = refl
more_fields (f ∷ fs) = append_assoc (32 ∷ f) (more_text fs) (10 ∷ []) ∙ ap (λ z. 32 ∷ (f ++ z)) (more_fields fs)

-- a line from left to right
pub whole_line : (f : List ℕ) (fs : List (List ℕ)) → f ++ rest_of_line fs ≡ ended_line (f ∷ fs)
whole_line f fs = sym (append_assoc f (more_text fs) (10 ∷ []) ∙ ap (λ z. f ++ z) (more_fields fs))

-- a part of a text that was written at the end of an array of n bytes
pub end_written : (n start : ℕ) (line part : List ℕ) → length line ≡ n → drop start line ≡ part → take (n - start) (drop start line) ≡ part
end_written n start line part long is = take_all (n - start) (drop start line) (omega (arith, length-drop start line, long)) ∙ is

-- the text of a list's elements from one on, by its first line
pub next_line : {X : Type 0} (f : X → List (List ℕ)) (i : ℕ) (xs : List X) (d : X) → i < length xs
    → text_of (map f (drop i xs)) ≡ ended_line (f (get_or xs i d)) ++ text_of (map f (drop (i + 1) xs))
next_line f i xs d lt = at_drop_more (λ z. text_of (map f z)) xs i d lt

-- the same, by what was written of the first line
pub next_written : {X : Type 0} (f : X → List (List ℕ)) (i : ℕ) (xs : List X) (d : X) (n start : ℕ) (line : List ℕ) → i < length xs
    → length line ≡ n → drop start line ≡ ended_line (f (get_or xs i d))
    → text_of (map f (drop i xs)) ≡ take (n - start) (drop start line) ++ text_of (map f (drop (i + 1) xs))
next_written f i xs d n start line lt long is =
    next_line f i xs d lt ∙ ap (λ z. z ++ text_of (map f (drop (i + 1) xs))) (sym (end_written n start line (ended_line (f (get_or xs i d))) long is))

-- the text of what a walk has left, by what was written of the first line
pub walk_written : {X : Type 0} (f : X → List (List ℕ)) (old new : List X) (x : X) (n start : ℕ) (line : List ℕ) → old ≡ x ∷ new
    → length line ≡ n → drop start line ≡ ended_line (f x)
    → text_of (map f old) ≡ take (n - start) (drop start line) ++ text_of (map f new)
walk_written f old new x n start line first long is =
    ap (λ z. text_of (map f z)) first ∙ ap (λ z. z ++ text_of (map f new)) (sym (end_written n start line (ended_line (f x)) long is))

-- the abandoned attempts of logs from one on, by those of the first
pub next_log : (f : Abandoned → List (List ℕ)) (i : ℕ) (logs : List LogValue) (log : LogValue) (list : List Abandoned) → i < length logs → log ≡ get_or logs i log → list ≡ abandoned_of log
    → text_of (map f (abandoned_in (drop i logs))) ≡ text_of (map f list) ++ text_of (map f (abandoned_in (drop (i + 1) logs)))
next_log f i logs log list lt is own =
    let rest = abandoned_in (drop (i + 1) logs) in
    let next : abandoned_in (drop i logs) ≡ list ++ rest = ap abandoned_in (drop_more logs i log lt)
    ∙ ap (λ l. abandoned_of l ++ rest) (sym is) ∙ ap (λ l. l ++ rest) (sym own) in
    ap (λ l. text_of (map f l)) next ∙ ap text_of (map-append f list rest)
    ∙ flat_map-append ended_line (map f list) (map f rest)

-- one more line of a list
pub lines_more : {X : Type 0} (f : X → List (List ℕ)) (i : ℕ) (xs : List X) (out new whole : List ℕ) (d : X)
    → i < length xs
    → new ≡ out ++ ended_line (f (get_or xs i d)) → out ++ text_of (map f (drop i xs)) ≡ whole
    → new ++ text_of (map f (drop (i + 1) xs)) ≡ whole
lines_more f i xs out new whole d lt e so_far =
    piece_done out new (ended_line (f (get_or xs i d))) (text_of (map f (drop (i + 1) xs))) whole e
    (ap (λ l. out ++ text_of (map f l)) (sym (drop_more xs i d lt)) ∙ so_far)

-- the lines of one more log
pub logs_more : (i : ℕ) (logs : List LogValue) (out new whole : List ℕ) (log : LogValue)
    (list : List Abandoned) → i < length logs → log ≡ get_or logs i log → list ≡ abandoned_of log
    → new ≡ out ++ text_of (map abandoned_fields list)
    → out ++ text_of (map abandoned_fields (abandoned_in (drop i logs))) ≡ whole
    → new ++ text_of (map abandoned_fields (abandoned_in (drop (i + 1) logs))) ≡ whole
logs_more i logs out new whole log list lt is own e so_far =
    let rest = abandoned_in (drop (i + 1) logs) in
    let next : abandoned_in (drop i logs) ≡ list ++ rest = ap abandoned_in (drop_more logs i log lt)
    ∙ ap (λ l. abandoned_of l ++ rest) (sym is) ∙ ap (λ l. l ++ rest) (sym own) in
    let parts : text_of (map abandoned_fields (list ++ rest)) ≡ text_of
    (map abandoned_fields list) ++ text_of (map abandoned_fields rest) =
    ap text_of (map-append abandoned_fields list rest)
    ∙ flat_map-append ended_line (map abandoned_fields list) (map abandoned_fields rest) in
    piece_done out new (text_of (map abandoned_fields list)) (text_of (map abandoned_fields rest)) whole e
    (ap (λ z. out ++ z) (sym (ap (λ l. text_of (map abandoned_fields l)) next ∙ parts)) ∙ so_far)

-- the line of a count, by what is written at once
pub count_parts : (word : List ℕ) (n : ℕ) → word ++ (32 ∷ (decimal n ++ 10 ∷ [])) ≡ ended_line (count_fields word n)
count_parts word n = whole_line word (decimal n ∷ [])

-- what is written before the name in the line of an atom, and behind it
abbrev pub site_part : ℕ → ℕ → List ℕ
site_part width place = decimal (place % width) ++ 32 ∷ (decimal (place / width) ++ 32 ∷ [])

abbrev pub end_part : ℕ → List ℕ
end_part state = 32 ∷ (hex 18 state ++ 10 ∷ [])

-- three parts that are equal to others
pub three_parts : (p q r a b c whole : List ℕ) → p ≡ a → q ≡ b → r ≡ c → a ++ (b ++ c) ≡ whole → whole ≡ p ++ (q ++ r)
three_parts p q r a b c whole one two three is = sym is ∙ ap (λ z. z ++ (b ++ c)) (sym one) ∙ ap (λ z. p ++ (z ++ c)) (sym two) ∙ ap (λ z. p ++ (q ++ z)) (sym three)

-- the line of an atom that is not empty, by what is written at once
pub atom_parts : (names : List (List ℕ)) (width place : ℕ) (a : AtomValue) → (a.kind ≡ 0 → ⊥)
    → site_part width place ++ (name_of names a.kind ++ end_part a.state) ≡ text_of (map (atom_fields names) (shown_one width place a))
atom_parts names width place a some =
    let one : shown_one width place a ≡ shown_at width place a ∷ [] = search rules in
    let x = decimal (place % width) in
    let y = decimal (place / width) in
    let more = name_of names a.kind ++ end_part a.state in
    append_assoc x (32 ∷ (y ++ 32 ∷ [])) more
    ∙ ap (λ z. x ++ 32 ∷ z) (append_assoc y (32 ∷ []) more)
    ∙ whole_line x (y ∷ name_of names a.kind ∷ hex 18 a.state ∷ [])
    ∙ sym (append-nil (ended_line (atom_fields names (shown_at width place a))))
    ∙ ap (λ s. text_of (map (atom_fields names) s)) (sym one)

-- the text of a header, of atoms, and of two parts of a journal
text_parts : (header : List (List ℕ)) (atoms records abandoned : List (List (List ℕ)))
    → text_of (header ∷ (atoms ++ (records ++ abandoned))) ≡ ended_line header ++ (text_of atoms ++ (text_of records ++ text_of abandoned))
text_parts header atoms records abandoned =
    ap (λ z. ended_line header ++ z) (flat_map-append ended_line atoms (records ++ abandoned)
    ∙ ap (λ z. text_of atoms ++ z) (flat_map-append ended_line records abandoned))

-- the text of a report, by its grid and its journal
pub report_parts : (names : List (List ℕ)) (g : GridValue) (rs : List Record) (gs : List Abandoned)
    → report names g rs gs ≡ (codes "feast 1\n" ++ atoms_text names g) ++ journal_text rs gs
report_parts names g rs gs = text_parts (codes "feast" ∷ codes "1" ∷ []) (atom_lines names (shown_atoms g)) (record_lines rs) (abandoned_lines gs)

-- the same, whatever it tells of its entries
pub report_parts_by : (detail : Detail) (names : List (List ℕ)) (g : GridValue) (rs : List Record) (gs : List Abandoned)
    → report_by detail names (report_value g rs gs) ≡ (header_by detail ++ atoms_text names g) ++ journal_text_by detail rs gs
report_parts_by Whole names g rs gs = report_parts names g rs gs
report_parts_by Short names g rs gs = text_parts short_header (atom_lines names (shown_atoms g)) (short_record_lines rs) (short_abandoned_lines gs)

-- the text of a report of counts, by its grid and its counts
pub counts_parts : (names : List (List ℕ)) (g : GridValue) (events abandoned : ℕ)
    → counts_report names g events abandoned
    ≡ (codes "feast 3\n" ++ atoms_text names g) ++ (ended_line (count_fields (codes "journal") events) ++ ended_line (count_fields (codes "abandoned") abandoned))
counts_parts names g events abandoned =
    let grid = codes "feast 3\n" ++ atoms_text names g in
    let first = count_fields (codes "journal") events in
    let last = count_fields (codes "abandoned") abandoned in
    text_parts (codes "feast" ∷ codes "3" ∷ []) (atom_lines names (shown_atoms g)) (first ∷ []) (last ∷ [])
    ∙ ap (λ z. grid ++ (z ++ text_of (last ∷ []))) (append-nil (ended_line first))
    ∙ ap (λ z. grid ++ (ended_line first ++ z)) (append-nil (ended_line last))
