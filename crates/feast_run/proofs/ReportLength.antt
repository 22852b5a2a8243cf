-- The report of a run is no longer than a journal may be.
use Rattle.std.proofs.Common.{ℕ, ◌≡◌, ◌+◌, ◌-◌, ◌*◌, ◌/◌, ◌%◌, ◌^◌, ◌<◌, ◌≤◌, ◌==◌, ◌&&◌, Bool, true, false, List, [], ◌∷◌, ◌++◌, All, codes, decimal, get_or, length, length-append, map, refl, ap, ◌∙◌, arith, inl, inr}
use Rattle.std.proofs.Math.ListN.{get_or-eq_default}
use Rattle.std.specs.Char.{is_ascii_uppercase}
use Rattle.std.specs.List.{list_all}
use Rattle.std.specs.Prelude.{nat_le}
use Rattle.std.proofs.Math.Nat.{div-add-mod'}
use Rattle.std.proofs.lemmas.Bool.{cases_lt}
use Rattle.std.proofs.lemmas.Grind.{flat_map-append}
use Rattle.std.proofs.lemmas.List.Concat.{length-flat_map}
use Rattle.std.proofs.lemmas.List.Elements.{All-cons, All-get_or, All-nil}
use Rattle.std.proofs.lemmas.List.Folds.{flat_map-map}
use Rattle.std.proofs.lemmas.List.Sums.{sum_by-le}
use Rattle.tile_map.proofs.Numbers.{plane_low}
use Rattle.text_lines.proofs.Printed.{hex_length}
use Rattle.list_laws.proofs.Tests.{both}
use Rattle.bit_field.specs.Atom.{AtomValue}
use Rattle.cell_grid.specs.Grid.{GridValue}
use Rattle.cell_grid.specs.declared.record.Record.{Record}
use Rattle.draw_stream.specs.Plans.{PlanValue}
use Rattle.event_journal.specs.declared.abandoned.Abandoned.{Abandoned}
use Rattle.report_text.specs.JournalText.{abandoned_fields, abandoned_lines, count_fields, record_fields, record_lines}
use Rattle.report_text.proofs.WrittenLines.{long_number, short_number}
use Rattle.feast_base.specs.Digits.{hex}
use Rattle.feast_base.specs.TypeNames.{is_type_name, is_word_byte, name_of}
use Rattle.feast_base.specs.declared.type_name.TheConstants.{LONGEST_NAME}
use Rattle.text_lines.specs.Lines.{ended_line, more_text, text_of}
use Rattle.tile_map.specs.Plane.{MapValue}
use Rattle.report_text.proofs.Bounds.{abandoned_small, events_few, given_up_few, records_small}
use Rattle.report_text.specs.ReportForm.{IsSmallAbandoned, IsSmallRecord}
use Rattle.report_text.specs.Again.{AreFormed, IsLeft, IsDrawablePlan}
use Rattle.report_text.specs.Report.{Shown, atom_fields, atom_lines, report, report_lines, report_value, shown_atoms, shown_at, shown_from}
use Rattle.feast_run.specs.declared.loading.TheConstants.{JOURNAL_LIMIT}

-- names that are no longer than names are
abbrev pub AreShort : List (List ℕ) → Type 0
AreShort names = All (λ n. length n ≤ LONGEST_NAME) names

-- such are the names of types
pub formed_short : (names : List (List ℕ)) → AreFormed names → AreShort names
formed_short names formed = λ k d lt. one (get_or names k d) (formed k d lt)
  where
    le_of : (a b : ℕ) → nat_le a b ≡ true → a ≤ b
    le_of a b h = grind arith

    one : (name : List ℕ) → is_type_name name ≡ true → length name ≤ LONGEST_NAME
    one [] h = omega arith
    one (b ∷ bs) h =
        let long = le_of (length bs + 1) LONGEST_NAME (both (is_ascii_uppercase b && list_all is_word_byte bs) (nat_le (length bs + 1) LONGEST_NAME) h).1 in
        omega (arith, long)

-- the bytes of some fields, with one more for each
abbrev size : List (List ℕ) → ℕ
size [] = 0
size (f ∷ fs) = length f + 1 + size fs

more_size : (fs : List (List ℕ)) → length (more_text fs) ≡ size fs
more_size [] = refl
more_size (f ∷ fs) = let all = length-append (32 ∷ f) (more_text fs) in omega (arith, all, more_size fs)

line_size : (f : List ℕ) (fs : List (List ℕ)) → length (ended_line (f ∷ fs)) ≡ size (f ∷ fs)
line_size f fs =
    let line = length-append (f ++ more_text fs) (10 ∷ []) in
    let fields = length-append f (more_text fs) in
    omega (arith, line, fields, more_size fs)

-- lines of at most k bytes each
lines_low : {A : Type 0} (f : A → List (List ℕ)) (k : ℕ) (xs : List A) → All (λ x. length (ended_line (f x)) ≤ k) xs → length (text_of (map f xs)) ≤ length xs * k
lines_low f k xs all =
    let lines = ap length (flat_map-map ended_line f xs) ∙ length-flat_map (λ x. ended_line (f x)) xs in
    let low = sum_by-le (λ x. length (ended_line (f x))) k xs all in
    omega (arith, lines, low)

count_low : (word : List ℕ) (n : ℕ) → length word ≤ 9 → n < 2 ^ 32 → length (ended_line (count_fields word n)) ≤ 21
count_low word n short low =
    let line = line_size word (decimal n ∷ []) in
    let count = short_number n low in
    omega (arith, line, count, short)

record_low : (r : Record) → IsSmallRecord r → length (ended_line (record_fields r)) ≤ 82
record_low r p =
    let line = line_size (decimal r.stamp) (decimal r.tile ∷ decimal r.attempt ∷ decimal r.x ∷ decimal r.y ∷ hex 16 r.seed ∷ []) in
    let stamp = short_number r.stamp p.stamp in
    let tile = short_number r.tile p.tile in
    let attempt = long_number r.attempt p.attempt in
    let x = short_number r.x p.x in
    let y = short_number r.y p.y in
    let seed = hex_length 16 r.seed in
    omega (arith, line, stamp, tile, attempt, x, y, seed)

abandoned_low : (a : Abandoned) → IsSmallAbandoned a → length (ended_line (abandoned_fields a)) ≤ 97
abandoned_low a p =
    let line = line_size (decimal a.tile) (decimal a.attempt ∷ decimal a.x ∷ decimal a.y ∷ decimal a.edge ∷ decimal a.holder ∷ decimal a.holder_attempt ∷ []) in
    let tile = short_number a.tile p.tile in
    let attempt = long_number a.attempt p.attempt in
    let x = short_number a.x p.x in
    let y = short_number a.y p.y in
    let edge = short_number a.edge p.edge in
    let holder = short_number a.holder p.holder in
    let last = long_number a.holder_attempt p.holder_attempt in
    omega (arith, line, tile, attempt, x, y, edge, holder, last)

name_low : (names : List (List ℕ)) (kind : ℕ) → AreShort names → length (name_of names kind) ≤ 255
name_low names kind short = elim (cases_lt (kind - 1) (length names)) [
  | inl inside ↦ All-get_or (λ n. length n ≤ LONGEST_NAME) names (kind - 1) [] inside short
  | inr past ↦ (let none = ap length (get_or-eq_default names [] {n = kind - 1} past) in omega (arith, none))
]

abbrev IsLowAtom : List (List ℕ) → Shown → Type 0
IsLowAtom names s = length (ended_line (atom_fields names s)) ≤ 297

atom_low : (names : List (List ℕ)) (width i : ℕ) (a : AtomValue) → AreShort names → 1 ≤ width → i < 2 ^ 32 → IsLowAtom names (shown_at width i a)
atom_low names width i a short wide low =
    let line = line_size (decimal (i % width)) (decimal (i / width) ∷ name_of names a.kind ∷ hex 18 a.state ∷ []) in
    let x = let m = rest_low i width in short_number (i % width) (omega (arith, m, low)) in
    let y = let m = part_low i width wide in short_number (i / width) (omega (arith, m, low)) in
    let name = name_low names a.kind short in
    let state = hex_length 18 a.state in
    omega (arith, line, x, y, name, state)
  where
    rest_low : (i w : ℕ) → i % w ≤ i
    rest_low i w = let e = div-add-mod' i w in omega (arith, e)

    part_low : (i w : ℕ) → 1 ≤ w → i / w ≤ i
    part_low i w some = let e = div-add-mod' i w in grind (arith, e)

-- the lines of the atoms of a grid, from place i on
record AreLowAtoms (names : List (List ℕ)) (width i : ℕ) (more : List AtomValue) : Type 0 where
  each : All (IsLowAtom names) (shown_from width i more)
  few : length (shown_from width i more) ≤ length more

atoms_low : (names : List (List ℕ)) (width i : ℕ) (more : List AtomValue) → AreShort names → 1 ≤ width → i + length more ≤ 2 ^ 32 → AreLowAtoms names width i more
unfolding shown_from
atoms_low names width i [] short wide low = record { each = All-nil _; few = omega arith }
atoms_low names width i (a ∷ more) short wide low = on (a.kind == 0) refl (atoms_low names width (i + 1) more short wide (omega (arith, low)))
  where
    on : (b : Bool) → (a.kind == 0) ≡ b → AreLowAtoms names width (i + 1) more → AreLowAtoms names width i (a ∷ more)
    on true e rest = record { each = rw e rest.each; few = rw e (let f = rest.few in omega (arith, f)) }
    on false e rest = record {
      each = rw e (All-cons (IsLowAtom names) (shown_at width i a) (shown_from width (i + 1) more) (atom_low names width i a short wide (omega (arith, low))) rest.each);
      few = rw e (let f = rest.few in omega (arith, f));
    }

-- a word with a count, and so many lines of at most k bytes each
counted_low : {A : Type 0} (word : List ℕ) (f : A → List (List ℕ)) (k most : ℕ) (xs : List A) → length word ≤ 9 → All (λ x. length (ended_line (f x)) ≤ k) xs → length xs ≤ most → most < 2 ^ 32 →
    length (text_of (count_fields word (length xs) ∷ map f xs)) ≤ 21 + most * k
counted_low word f k most xs short all few low =
    let head = count_low word (length xs) short (omega (arith, few, low)) in
    let rest = lines_low f k xs all in
    let long = length-append (ended_line (count_fields word (length xs))) (text_of (map f xs)) in
    let more = at_most (length xs) most k few in
    omega (arith, head, rest, long, more)
  where
    at_most : (a b k : ℕ) → a ≤ b → a * k ≤ b * k
    at_most a b k h = grind arith

-- a report of few lines with small numbers
report_low : (names : List (List ℕ)) (ss : List Shown) (rs : List Record) (gs : List Abandoned) → All (IsLowAtom names) ss → All IsSmallRecord rs → All IsSmallAbandoned gs → length ss ≤ 262144 → length rs ≤ 1000000 → length gs ≤ 1000000 →
    length (text_of (report_lines names ss rs gs)) ≤ JOURNAL_LIMIT
report_low names ss rs gs atoms records abandoned few_atoms few_records few_abandoned =
    let first = counted_low (codes "atoms") (atom_fields names) 297 262144 ss (omega arith) atoms few_atoms (omega arith) in
    let second = counted_low (codes "journal") record_fields 82 1000000 rs (omega arith) (λ k d lt. record_low _ (records k d lt)) few_records (omega arith) in
    let third = counted_low (codes "abandoned") abandoned_fields 97 1000000 gs (omega arith) (λ k d lt. abandoned_low _ (abandoned k d lt)) few_abandoned (omega arith) in
    let behind = record_lines rs ++ abandoned_lines gs in
    let header = line_size (codes "feast") (codes "1" ∷ []) in
    let whole = length-append (ended_line (codes "feast" ∷ codes "1" ∷ [])) (text_of (atom_lines names ss ++ behind)) in
    let front = ap length (flat_map-append ended_line (atom_lines names ss) behind) ∙ length-append (text_of (atom_lines names ss)) (text_of behind) in
    let back = ap length (flat_map-append ended_line (record_lines rs) (abandoned_lines gs)) ∙ length-append (text_of (record_lines rs)) (text_of (abandoned_lines gs)) in
    omega (arith, first, second, third, header, whole, front, back)

-- the report of what a run of a plan left
pub report_short : (names : List (List ℕ)) (m : MapValue) (plan : PlanValue) → AreShort names → IsDrawablePlan m plan → (g : GridValue) (rs : List Record) (gs : List Abandoned) → IsLeft names m plan (report_value g rs gs) → length (report names g rs gs) ≤ JOURNAL_LIMIT
report_short names m plan short p g rs gs left =
    let plane = plane_low m p.map in
    let wide = left.wide in
    let sites = left.sites in
    let atoms = atoms_low names g.width 0 g.atoms short (omega (arith, wide, plane.0)) (omega (arith, sites, plane.1)) in
    let few = atoms.few in
    let records = records_small m plan p rs gs left.owes.accounted left.owes.stamped in
    let abandoned = abandoned_small m plan p rs gs left.owes.accounted left.owes.excused in
    report_low names (shown_atoms g) rs gs atoms.each records abandoned (omega (arith, few, sites, plane.1)) (events_few m plan p rs gs left.owes.accounted) (given_up_few m plan p rs gs left.owes.accounted)
