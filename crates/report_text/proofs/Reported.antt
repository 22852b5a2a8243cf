-- The report of a grid says its atoms.
use Rattle.std.proofs.Common.{ℕ, ◌≡◌, ◌+◌, ◌*◌, ◌/◌, ◌%◌, ◌^◌, ◌<◌, ◌≤◌, ◌==◌, Bool, true, false, List, [], ◌∷◌, ◌++◌, All, length, refl, ap, sym, ◌∙◌, arith, inl, inr, ◌⊎◌}
use Rattle.std.proofs.Math.Nat.{div-add-mod'}
use Rattle.std.specs.List.{flat_map}
use Rattle.std.proofs.lemmas.List.Elements.{All-append, All-cons, All-head, All-nil, All-tail}
use Rattle.bit_field.specs.Atom.{AtomValue, IsAtom, empty_atom}
use Rattle.cell_grid.specs.Grid.{GridValue}
use Rattle.cell_grid.specs.declared.record.Record.{Record}
use Rattle.event_journal.specs.Logs.{LogValue, abandoned_in, records_of}
use Rattle.event_journal.specs.declared.abandoned.Abandoned.{Abandoned}
use Rattle.text_lines.proofs.Joined.{text_one}
use Rattle.report_text.specs.OneReport.{AreAbandonedWords, AreRecordWords, AreTypeNames, AreWords, IsOneReport, IsReported, IsWord}
use Rattle.report_text.specs.Report.{AreNamed, Shown, report_lines, report_value, shown_atoms, shown_at, shown_from, shown_one}
use Rattle.report_text.proofs.PrintedLines.{ArePrinted, IsShown, lines_one, report_is}

abbrev IsNamedAtom : List (List ℕ) → AtomValue → Type 0
IsNamedAtom names a = (a ≡ empty_atom) ⊎ ((1 ≤ a.kind) × (a.kind ≤ length names))

some_kind : (k : ℕ) → (k == 0) ≡ false → 1 ≤ k
some_kind k h = grind arith

no_kind : (k : ℕ) → (k == 0) ≡ true → k ≡ 0
no_kind k h = grind arith

-- an atom that is not empty, at a place of the plane
shown_is : (names : List (List ℕ)) (width i : ℕ) (a : AtomValue) → 1 ≤ width → IsWord i → (a.kind == 0) ≡ false → IsNamedAtom names a → IsAtom a → IsShown names (shown_at width i a)
shown_is names width i a wide small kind (inl empty) fits = absurd (none (ap (λ (b : AtomValue). b.kind) empty) (some_kind a.kind kind))
  where
    none : a.kind ≡ 0 → 1 ≤ a.kind → ⊥
    none e h = omega (arith, e, h)
shown_is names width i a wide small kind (inr named) fits =
    let size = div-add-mod' i width in record {
      x = let m : i % width ≤ i = rest_low i width in omega (arith, m, small);
      y = let m : i / width ≤ i = part_low i width wide in omega (arith, m, small);
      some = some_kind a.kind kind;
      named = named.1;
      state = let s = fits.state_fits in omega (arith, s);
    }
  where
    rest_low : (i w : ℕ) → i % w ≤ i
    rest_low i w = let e = div-add-mod' i w in omega (arith, e)

    part_low : (i w : ℕ) → 1 ≤ w → i / w ≤ i
    part_low i w some = let e = div-add-mod' i w in grind (arith, e)

-- what holds of the atoms that are shown, from place i on
record AreShown (names : List (List ℕ)) (width i : ℕ) (atoms : List AtomValue) : Type 0 where
  each : All (IsShown names) (shown_from width i atoms)
  few : length (shown_from width i atoms) ≤ length atoms
  behind : All (λ (s : Shown). i ≤ s.y * width + s.x) (shown_from width i atoms)

all_behind : (width i j : ℕ) (ss : List Shown) → i ≤ j → All (λ (s : Shown). j ≤ s.y * width + s.x) ss → All (λ (s : Shown). i ≤ s.y * width + s.x) ss
all_behind width i j [] le all = All-nil _
all_behind width i j (s ∷ ss) le all =
    let head : j ≤ s.y * width + s.x = All-head (λ (s : Shown). j ≤ s.y * width + s.x) s ss all in
    All-cons (λ (s : Shown). i ≤ s.y * width + s.x) s ss (omega (arith, head, le)) (all_behind width i j ss le (All-tail (λ (s : Shown). j ≤ s.y * width + s.x) s ss all))

are_shown : (names : List (List ℕ)) (width i : ℕ) (atoms : List AtomValue) → 1 ≤ width → i + length atoms < 2 ^ 64 → AreNamed names atoms → All IsAtom atoms → AreShown names width i atoms
unfolding shown_from
are_shown names width i [] wide small named fits = record { each = All-nil _; few = omega arith; behind = All-nil _ }
are_shown names width i (a ∷ more) wide small named fits =
    on (a.kind == 0) refl (are_shown names width (i + 1) more wide (omega (arith, small)) (All-tail (IsNamedAtom names) a more named) (All-tail IsAtom a more fits))
  where
    on : (b : Bool) → (a.kind == 0) ≡ b → AreShown names width (i + 1) more → AreShown names width i (a ∷ more)
    on true e rest = record {
      each = rw e rest.each;
      few = rw e (let f = rest.few in omega (arith, f));
      behind = rw e (all_behind width i (i + 1) (shown_from width (i + 1) more) (omega arith) rest.behind);
    }
    on false e rest = record {
      each = rw e (All-cons (IsShown names) (shown_at width i a) (shown_from width (i + 1) more)
          (shown_is names width i a wide (omega (arith, small)) e (All-head (IsNamedAtom names) a more named) (All-head IsAtom a more fits)) rest.each);
      few = rw e (let f = rest.few in omega (arith, f));
      behind = rw e (All-cons (λ (s : Shown). i ≤ s.y * width + s.x) (shown_at width i a) (shown_from width (i + 1) more) (let p = div-add-mod' i width in omega (arith, p))
          (all_behind width i (i + 1) (shown_from width (i + 1) more) (omega arith) rest.behind));
    }

-- planes of one size that show the same have the same atoms
atoms_one : (names : List (List ℕ)) (width i : ℕ) (xs ys : List AtomValue) → 1 ≤ width → i + length xs < 2 ^ 64 → length xs ≡ length ys → AreNamed names xs → AreNamed names ys → All IsAtom xs → All IsAtom ys →
    shown_from width i xs ≡ shown_from width i ys → xs ≡ ys
unfolding shown_from
atoms_one names width i [] [] wide small long p q f g e = refl
atoms_one names width i [] (y ∷ ys) wide small long p q f g e = absurd (omega (arith, long))
atoms_one names width i (x ∷ xs) [] wide small long p q f g e = absurd (omega (arith, long))
atoms_one names width i (x ∷ xs) (y ∷ ys) wide small long p q f g e =
    let pt = All-tail (IsNamedAtom names) x xs p in
    let qt = All-tail (IsNamedAtom names) y ys q in
    let ft = All-tail IsAtom x xs f in
    let gt = All-tail IsAtom y ys g in
    let low : i + 1 + length xs < 2 ^ 64 = omega (arith, small) in
    let left = are_shown names width (i + 1) xs wide low pt ft in
    let right = are_shown names width (i + 1) ys wide (omega (arith, low, long)) qt gt in
    on (x.kind == 0) (y.kind == 0) refl refl (All-head (IsNamedAtom names) x xs p) (All-head (IsNamedAtom names) y ys q) left.behind right.behind e
    (λ h. atoms_one names width (i + 1) xs ys wide low (omega (arith, long)) pt qt ft gt h)
  where
    empty : (a : AtomValue) → IsNamedAtom names a → (a.kind == 0) ≡ true → a ≡ empty_atom
    empty a (inl is) none = is
    empty a (inr named) none = absurd (let z = no_kind a.kind none in let s = named.0 in omega (arith, z, s))

    -- no atom behind place i is at it
    never : (a : AtomValue) (ss ts : List Shown) → All (λ (s : Shown). i + 1 ≤ s.y * width + s.x) ss → ss ≡ shown_at width i a ∷ ts → ⊥
    never a [] ts all is = absurd (cc is)
    never a (s ∷ ss) ts all is =
        let same : s ≡ shown_at width i a = cc in
        let place : s.y * width + s.x ≡ i = ap (λ (z : Shown). z.y * width + z.x) same ∙ div-add-mod' i width in
        let head : i + 1 ≤ s.y * width + s.x = All-head (λ (s : Shown). i + 1 ≤ s.y * width + s.x) s ss all in
        omega (arith, head, place)

    on : (a b : Bool) → (x.kind == 0) ≡ a → (y.kind == 0) ≡ b → IsNamedAtom names x → IsNamedAtom names y →
        All (λ (s : Shown). i + 1 ≤ s.y * width + s.x) (shown_from width (i + 1) xs) → All (λ (s : Shown). i + 1 ≤ s.y * width + s.x) (shown_from width (i + 1) ys) →
        shown_one width i x ++ shown_from width (i + 1) xs ≡ shown_one width i y ++ shown_from width (i + 1) ys →
        (shown_from width (i + 1) xs ≡ shown_from width (i + 1) ys → xs ≡ ys) → x ∷ xs ≡ y ∷ ys
    on true true a b n m l r e next =
        let same = next (rw b at (rw a at e)) in
        let head : x ≡ y = empty x n a ∙ sym (empty y m b) in
        λ j. head j ∷ same j
    on true false a b n m l r e next = absurd (never y (shown_from width (i + 1) xs) (shown_from width (i + 1) ys) l (rw b at (rw a at e)))
    on false true a b n m l r e next = absurd (never x (shown_from width (i + 1) ys) (shown_from width (i + 1) xs) r (sym (rw b at (rw a at e))))
    on false false a b n m l r e next =
        let both : shown_at width i x ∷ shown_from width (i + 1) xs ≡ shown_at width i y ∷ shown_from width (i + 1) ys = rw b at (rw a at e) in
        let first : shown_at width i x ≡ shown_at width i y = cc in
        let rest : shown_from width (i + 1) xs ≡ shown_from width (i + 1) ys = cc in
        let same = next rest in
        λ j. (first j).atom ∷ same j

printed_of : (names : List (List ℕ)) (g : GridValue) (r : List Record) (a : List Abandoned) → IsReported names (report_value g r a) → ArePrinted names (shown_atoms g) r a
printed_of names g r a is =
    let k = is.sites in
    let s = are_shown names g.width 0 g.atoms is.wide (omega (arith, k)) is.named is.states in
    let f = s.few in record {
      atoms = s.each;
      records = is.records;
      abandoned = is.abandoned;
      many_atoms = omega (arith, f, k);
      many_records = is.many_records;
      many_abandoned = is.many_abandoned;
    }

pub one_report : (names : List (List ℕ)) → AreTypeNames names → IsOneReport names
one_report names are = λ one two p q e.
    let g = one.grid in
    let h = two.grid in
    let r = one.records in
    let s = two.records in
    let a = one.abandoned in
    let b = two.abandoned in
    let x = printed_of names g r a p in
    let y = printed_of names h s b q in
    let lines = text_one (report_lines names (shown_atoms g) r a) (report_lines names (shown_atoms h) s b) (report_is names (shown_atoms g) r a are x) (report_is names (shown_atoms h) s b are y) e in
    let same = lines_one names (shown_atoms g) (shown_atoms h) r s a b are x y lines in record {
      sites = same.0;
      atoms = λ wide long.
          let k = p.sites in
          atoms_one names g.width 0 g.atoms h.atoms p.wide (omega (arith, k)) long p.named q.named p.states q.states (same.0 ∙ ap (λ w. shown_from w 0 h.atoms) (sym wide));
      records = same.1;
      abandoned = same.2;
    }

-- the entries of all logs
pub all_entries : (logs : List LogValue) → All AreWords logs → (All AreRecordWords (flat_map records_of logs)) × (All AreAbandonedWords (abandoned_in logs))
all_entries [] all = (All-nil _, All-nil _)
all_entries (l ∷ ls) all =
    let here = All-head AreWords l ls all in
    let rest = all_entries ls (All-tail AreWords l ls all) in
    (All-append AreRecordWords l.records (flat_map records_of ls) here.0 rest.0, All-append AreAbandonedWords l.abandoned (abandoned_in ls) here.1 rest.1)
