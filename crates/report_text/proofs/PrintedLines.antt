-- The lines of a report say what they were printed of.
use Rattle.std.proofs.Common.{ℕ, ◌≡◌, ◌≢◌, ◌-◌, ◌*◌, ◌^◌, ◌<◌, ◌≤◌, true, List, [], ◌∷◌, ◌++◌, All, length, map, decimal, codes, refl, ap, sym, ◌∙◌, arith, inl, inr, ◌⊎◌}
use Rattle.std.specs.List.{list_all}
use Rattle.std.proofs.lemmas.Fmt.{decimal_injective}
use Rattle.std.proofs.lemmas.List.Elements.{All-append, All-cons, All-get_or, All-head, All-nil, All-tail}
use Rattle.std.proofs.lemmas.Bool.Decides.{eqb_tells}
use Rattle.std.proofs.lemmas.List.{length-map}
use Rattle.cell_grid.specs.declared.record.Record.{Record}
use Rattle.event_journal.specs.declared.abandoned.Abandoned.{Abandoned}
use Rattle.report_text.specs.JournalText.{abandoned_fields, abandoned_lines, count_fields, record_fields, record_lines}
use Rattle.feast_base.specs.Digits.{hex}
use Rattle.feast_base.specs.TypeNames.{is_type_name, name_of}
use Rattle.text_lines.specs.Fields.{hex_of}
use Rattle.text_lines.specs.Printed.{IsLine, is_field}
use Rattle.text_lines.proofs.Printed.{decimal_high, hex_hex, hex_high, name_high}
use Rattle.report_text.specs.OneReport.{AreAbandonedWords, AreRecordWords, AreTypeNames, IsWord}
use Rattle.report_text.specs.Report.{Shown, atom_fields, atom_lines, report_lines}
use Rattle.report_text.proofs.Lists.{map_one, parts_one}

-- an atom that is printed: its site, a name for its type, and the digits of its state
pub record IsShown (names : List (List ℕ)) (s : Shown) : Type 0 where
  pub x : IsWord s.x
  pub y : IsWord s.y
  pub some : 1 ≤ s.atom.kind
  pub named : s.atom.kind ≤ length names
  pub state : s.atom.state < 2 ^ 72

name_formed : (names : List (List ℕ)) (k : ℕ) → AreTypeNames names → 1 ≤ k → k ≤ length names → is_type_name (name_of names k) ≡ true
name_formed names k are some most = All-get_or (λ n. is_type_name n ≡ true) names (k - 1) [] (omega (arith, some, most)) are.formed

-- a name has one type number
kind_one : (names : List (List ℕ)) (j k : ℕ) → AreTypeNames names → 1 ≤ j → j ≤ length names → 1 ≤ k → k ≤ length names → name_of names j ≡ name_of names k → j ≡ k
kind_one names j k are j_some j_most k_some k_most e = elim (eqb_tells j k) [ inl same ↦ same.1 | inr other ↦ absurd (apart (order_of j k other.1)) ]
  where
    order_of : (t u : ℕ) → t ≢ u → (t < u) ⊎ (u < t)
    order_of t u ne = grind arith

    apart : (j < k) ⊎ (k < j) → ⊥
    apart (inl less) = are.apart (j - 1) (k - 1) [] (omega (arith, less, j_some)) (omega (arith, k_some, k_most)) e
    apart (inr less) = are.apart (k - 1) (j - 1) [] (omega (arith, less, k_some)) (omega (arith, j_some, j_most)) (sym e)

hex_one : (k m n : ℕ) → m < 2 ^ (4 * k) → n < 2 ^ (4 * k) → hex k m ≡ hex k n → m ≡ n
hex_one k m n a b e = let same = sym (hex_hex k m a) ∙ ap (hex_of k) e ∙ hex_hex k n b in cc

-- lines of one kind say what they were printed of
record_one : (r s : Record) → AreRecordWords r → AreRecordWords s → record_fields r ≡ record_fields s → r ≡ s
record_one r s p q e =
    let stamp : decimal r.stamp ≡ decimal s.stamp = cc in
    let tile : decimal r.tile ≡ decimal s.tile = cc in
    let attempt : decimal r.attempt ≡ decimal s.attempt = cc in
    let x : decimal r.x ≡ decimal s.x = cc in
    let y : decimal r.y ≡ decimal s.y = cc in
    let seed : hex 16 r.seed ≡ hex 16 s.seed = cc in
    let a = decimal_injective r.stamp s.stamp p.0 q.0 stamp in
    let b = decimal_injective r.tile s.tile p.1 q.1 tile in
    let c = decimal_injective r.attempt s.attempt p.2 q.2 attempt in
    let d = decimal_injective r.x s.x p.3 q.3 x in
    let f = decimal_injective r.y s.y p.4 q.4 y in
    let g = hex_one 16 r.seed s.seed p.5 q.5 seed in
    λ i. record { stamp = a i; tile = b i; attempt = c i; x = d i; y = f i; seed = g i }

pub abandoned_one : (a b : Abandoned) → AreAbandonedWords a → AreAbandonedWords b → abandoned_fields a ≡ abandoned_fields b → a ≡ b
abandoned_one a b p q e =
    let tile : decimal a.tile ≡ decimal b.tile = cc in
    let attempt : decimal a.attempt ≡ decimal b.attempt = cc in
    let x : decimal a.x ≡ decimal b.x = cc in
    let y : decimal a.y ≡ decimal b.y = cc in
    let edge : decimal a.edge ≡ decimal b.edge = cc in
    let holder : decimal a.holder ≡ decimal b.holder = cc in
    let last : decimal a.holder_attempt ≡ decimal b.holder_attempt = cc in
    let f = decimal_injective a.tile b.tile p.0 q.0 tile in
    let g = decimal_injective a.attempt b.attempt p.1 q.1 attempt in
    let h = decimal_injective a.x b.x p.2 q.2 x in
    let j = decimal_injective a.y b.y p.3 q.3 y in
    let k = decimal_injective a.edge b.edge p.4 q.4 edge in
    let l = decimal_injective a.holder b.holder p.5 q.5 holder in
    let m = decimal_injective a.holder_attempt b.holder_attempt p.6 q.6 last in
    λ i. record { tile = f i; attempt = g i; x = h i; y = j i; edge = k i; holder = l i; holder_attempt = m i }

pub shown_one : (names : List (List ℕ)) → AreTypeNames names → (s t : Shown) → IsShown names s → IsShown names t → atom_fields names s ≡ atom_fields names t → s ≡ t
shown_one names are s t p q e =
    let x : decimal s.x ≡ decimal t.x = cc in
    let y : decimal s.y ≡ decimal t.y = cc in
    let name : name_of names s.atom.kind ≡ name_of names t.atom.kind = cc in
    let state : hex 18 s.atom.state ≡ hex 18 t.atom.state = cc in
    let a = decimal_injective s.x t.x p.x q.x x in
    let b = decimal_injective s.y t.y p.y q.y y in
    let c = kind_one names s.atom.kind t.atom.kind are p.some p.named q.some q.named name in
    let d = hex_one 18 s.atom.state t.atom.state p.state q.state state in
    λ i. record { x = a i; y = b i; atom = record { kind = c i; state = d i } }

line_of : (fs : List (List ℕ)) → 1 ≤ length fs → list_all is_field fs ≡ true → IsLine fs
line_of fs some high = record { some = some; high = high }

pub record_line : (r : Record) → AreRecordWords r → IsLine (record_fields r)
record_line r p = line_of (record_fields r) (omega arith) (rw (decimal_high r.stamp p.0, decimal_high r.tile p.1, decimal_high r.attempt p.2, decimal_high r.x p.3, decimal_high r.y p.4, hex_high 16 r.seed) refl)

pub abandoned_line : (a : Abandoned) → AreAbandonedWords a → IsLine (abandoned_fields a)
abandoned_line a p =
    line_of (abandoned_fields a) (omega arith)
    (rw (decimal_high a.tile p.0, decimal_high a.attempt p.1, decimal_high a.x p.2, decimal_high a.y p.3, decimal_high a.edge p.4, decimal_high a.holder p.5, decimal_high a.holder_attempt p.6) refl)

shown_line : (names : List (List ℕ)) → AreTypeNames names → (s : Shown) → IsShown names s → IsLine (atom_fields names s)
shown_line names are s p =
    let name = name_high (name_of names s.atom.kind) (name_formed names s.atom.kind are p.some p.named) in
    line_of (atom_fields names s) (omega arith) (rw (decimal_high s.x p.x, decimal_high s.y p.y, name, hex_high 18 s.atom.state) refl)

pub count_line : (word : List ℕ) (n : ℕ) → is_field word ≡ true → IsWord n → IsLine (count_fields word n)
count_line word n high small = line_of (count_fields word n) (omega arith) (rw (high, decimal_high n small) refl)

pub each_line : {A : Type 0} (P : A → Type 0) (f : A → List (List ℕ)) → ((x : A) → P x → IsLine (f x)) → (xs : List A) → All P xs → All IsLine (map f xs)
each_line P f so [] p = All-nil _
each_line P f so (x ∷ xs) p = All-cons IsLine (f x) (map f xs) (so x (All-head P x xs p)) (each_line P f so xs (All-tail P x xs p))

-- a word with a count, and that many lines
pub counted_lines : (word : List ℕ) (n : ℕ) (ls : List (List (List ℕ))) → is_field word ≡ true → IsWord n → All IsLine ls → All IsLine (count_fields word n ∷ ls)
counted_lines word n ls high small lines = All-cons IsLine (count_fields word n) ls (count_line word n high small) lines

-- what the lines of a report can be printed of
pub record ArePrinted (names : List (List ℕ)) (s : List Shown) (r : List Record) (a : List Abandoned) : Type 0 where
  pub atoms : All (IsShown names) s
  pub records : All AreRecordWords r
  pub abandoned : All AreAbandonedWords a
  pub many_atoms : IsWord (length s)
  pub many_records : IsWord (length r)
  pub many_abandoned : IsWord (length a)

pub report_is : (names : List (List ℕ)) (s : List Shown) (r : List Record) (a : List Abandoned) → AreTypeNames names → ArePrinted names s r a → All IsLine (report_lines names s r a)
report_is names s r a are p =
    All-cons IsLine (codes "feast" ∷ codes "1" ∷ []) (atom_lines names s ++ (record_lines r ++ abandoned_lines a)) (record { some = omega arith; high = refl })
    (All-append IsLine (atom_lines names s) (record_lines r ++ abandoned_lines a)
    (counted_lines (codes "atoms") (length s) (map (atom_fields names) s) refl p.many_atoms (each_line (IsShown names) (atom_fields names) (shown_line names are) s p.atoms))
    (All-append IsLine (record_lines r) (abandoned_lines a)
    (counted_lines (codes "journal") (length r) (map record_fields r) refl p.many_records (each_line AreRecordWords record_fields record_line r p.records))
    (counted_lines (codes "abandoned") (length a) (map abandoned_fields a) refl p.many_abandoned (each_line AreAbandonedWords abandoned_fields abandoned_line a p.abandoned))))

-- two lists of lines behind their count
counts_one : {A : Type 0} (P : A → Type 0) (word : List ℕ) (f : A → List (List ℕ)) → ((x y : A) → P x → P y → f x ≡ f y → x ≡ y) → (xs ys : List A) (us vs : List (List (List ℕ))) → All P xs → All P ys → IsWord (length xs) → IsWord (length ys) →
    (count_fields word (length xs) ∷ map f xs) ++ us ≡ (count_fields word (length ys) ∷ map f ys) ++ vs → (xs ≡ ys) × (us ≡ vs)
counts_one P word f one xs ys us vs p q many more e =
    let count : decimal (length xs) ≡ decimal (length ys) = cc in
    let tail : map f xs ++ us ≡ map f ys ++ vs = cc in
    let long = decimal_injective (length xs) (length ys) many more count in
    let parts = parts_one (map f xs) (map f ys) us vs (length-map xs f ∙ long ∙ sym (length-map ys f)) tail in
    (map_one P f one xs ys p q parts.0, parts.1)

-- equal lines say the same
pub lines_one : (names : List (List ℕ)) (s t : List Shown) (r q : List Record) (a b : List Abandoned) → AreTypeNames names → ArePrinted names s r a → ArePrinted names t q b → report_lines names s r a ≡ report_lines names t q b →
    (s ≡ t) × (r ≡ q) × (a ≡ b)
lines_one names s t r q a b are p o e =
    let behind : atom_lines names s ++ (record_lines r ++ abandoned_lines a) ≡ atom_lines names t ++ (record_lines q ++ abandoned_lines b) = cc in
    let first = counts_one (IsShown names) (codes "atoms") (atom_fields names) (shown_one names are) s t (record_lines r ++ abandoned_lines a) (record_lines q ++ abandoned_lines b) p.atoms o.atoms p.many_atoms o.many_atoms behind in
    let second = counts_one AreRecordWords (codes "journal") record_fields record_one r q (abandoned_lines a) (abandoned_lines b) p.records o.records p.many_records o.many_records first.1 in
    let third = counts_one AreAbandonedWords (codes "abandoned") abandoned_fields abandoned_one a b [] [] p.abandoned o.abandoned p.many_abandoned o.many_abandoned (ap (λ z. z ++ []) second.1) in
    (first.0, second.0, third.0)
