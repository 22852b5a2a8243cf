-- A line that has the form that is wanted is the one spelling of what it says.
use Rattle.std.proofs.Common.{ℕ, suc, ◌≡◌, ◌+◌, ◌-◌, ◌*◌, ◌^◌, ◌<◌, ◌≤◌, ◌==◌, Bool, true, false, not, ◌&&◌, ◌||◌, List, [], ◌∷◌, ◌++◌, append_assoc, append-nil, bytes_eq, codes, decimal, fold, length, refl, ap, sym, subst, ◌∙◌, arith, Option, Some, None, is_some, map, inl, inr, eq-eqb, eqb-true, ltb-true, rules}
use Rattle.std.specs.Prelude.{nat_le, nat_lt, option_map, if◌then◌else◌}
use Rattle.std.specs.List.{list_all}
use Rattle.std.specs.Int.{IsInRange}
use Rattle.std.proofs.lemmas.Bool.Decides.{eqb_tells}
use Rattle.std.proofs.lemmas.Fmt.{decimal-digits_value}
use Rattle.std.proofs.lemmas.Slice.Eq.{bytes_eq-Decides}
use Rattle.std.proofs.lemmas.Str.Parse.{IsDigitsTest, IsNumeralModel, numerals_by_fold}
use Rattle.list_laws.proofs.Tests.{both, together}
use Rattle.cell_grid.specs.Grid.{below}
use Rattle.cell_grid.specs.declared.record.Record.{Record}
use Rattle.event_journal.specs.declared.abandoned.Abandoned.{Abandoned}
use Rattle.feast_base.proofs.Digits.{hex_more, hex_none, hex_small}
use Rattle.feast_base.specs.Digits.{glyph, hex}
use Rattle.feast_base.specs.TypeNames.{is_type_name}
use Rattle.report_text.specs.Forms.{abandoned_form, count_form, is_atom, is_header, is_name_state, is_named_rest, is_one, record_form, site_form, take_attempt, take_below, take_small}
use Rattle.report_text.specs.JournalText.{abandoned_fields, count_fields, record_fields}
use Rattle.report_text.specs.ReportForm.{IsSiteLine, IsSmallAbandoned, IsSmallRecord}
use Rattle.text_lines.proofs.Cuts.{some_field}
use Rattle.text_lines.proofs.Digits.{digit_in, nibble_in}
use Rattle.text_lines.proofs.Printed.{decimal_high, hex_high, name_high}
use Rattle.text_lines.specs.Fields.{fields, fields_after, hex_of, hex_worth, is_canonical, is_digit, is_nibble, nibble, field_number, worth}
use Rattle.text_lines.specs.Forms.{one_field, one_number, one_seed, take_number, with}
use Rattle.text_lines.specs.Lines.{ended_after, line_text, more_text, text_of}
use Rattle.text_lines.specs.Printed.{IsLine}

-- Answers that are there

pub if_some : {A : Type 0} (b : Bool) (x y : A) → if◌then◌else◌ {A = Option A} b (Some x) None ≡ Some y → (b ≡ true) × (x ≡ y)
if_some true x y h = (refl, cc)
if_some false x y h = cc

if_then : {A : Type 0} (b : Bool) (o : Option A) (y : A) → if◌then◌else◌ {A = Option A} b o None ≡ Some y → (b ≡ true) × (o ≡ Some y)
if_then true o y h = (refl, h)
if_then false o y h = cc

pub with_some : {X Y : Type 0} (o : Option X) (next : X → Option Y) (y : Y) → with o next ≡ Some y → (x : X) × (o ≡ Some x) × (next x ≡ Some y)
with_some None next y h = cc
with_some (Some x) next y h = (x, refl, h)

pub map_some : {X Y : Type 0} (f : X → Y) (o : Option X) (y : Y) → option_map f o ≡ Some y → (x : X) × (o ≡ Some x) × (f x ≡ y)
map_some f None y h = cc
map_some f (Some x) y h = (x, refl, cc)

-- Numbers and digits

digits : IsDigitsTest (λ ds. list_all is_digit ds ≡ true)
digits = record {
  empty = refl;
  parts = λ c cs h. let p = both (is_digit c) (list_all is_digit cs) h in (digit_in c p.0, p.1);
  more = λ c cs inside rest. together (is_digit c) (list_all is_digit cs) (digit_is c inside) rest;
}
  where
    digit_is : (c : ℕ) → IsInRange 48 57 c → is_digit c ≡ true
    digit_is c h = grind (arith, h)

own : IsNumeralModel (λ ds. list_all is_digit ds ≡ true) worth
own = numerals_by_fold _ digits (λ n ds. fold (λ (v d : ℕ). v * 10 + (d - 48)) n ds) (search rules)

canonical_parts : (d : ℕ) (ds : List ℕ) → is_canonical (d ∷ ds) ≡ true → (list_all is_digit (d ∷ ds) ≡ true) × (d ≡ 48 → suc (length ds) ≡ 1)
canonical_parts d ds h =
    let p = both (list_all is_digit (d ∷ ds) && (not (d == 48) || length ds == 0)) (nat_le (length (d ∷ ds)) 20) h in
    let q = both (list_all is_digit (d ∷ ds)) (not (d == 48) || length ds == 0) p.0 in
    (q.0, first d (length ds) q.1)
  where
    first : (d k : ℕ) → (not (d == 48) || k == 0) ≡ true → d ≡ 48 → suc k ≡ 1
    first d k h e = let g = rw (eq-eqb d 48 e) at h in ap (λ n. suc n) (eqb-true k 0 g)

number_exact : (f : List ℕ) (n : ℕ) → n < 2 ^ 64 → field_number f ≡ Some n → f ≡ decimal n
number_exact [] n small h = cc
number_exact (d ∷ ds) n small h =
    let p = if_some (is_canonical (d ∷ ds)) (worth (d ∷ ds)) n h in
    let c = canonical_parts d ds p.0 in
    let low : worth (d ∷ ds) < 2 ^ 64 = subst (λ v. v < 2 ^ 64) (sym p.1) small in
    sym (decimal-digits_value own (d ∷ ds) c.0 (omega arith) c.1 low) ∙ ap decimal p.1

glyph_again : (b : ℕ) → is_nibble b ≡ true → glyph (nibble b) ≡ b
glyph_again b h = grind arith

-- digits behind others that are there
hex_on : (ds done : List ℕ) (i v : ℕ) → hex i v ≡ done → v < 2 ^ (4 * i) → list_all is_nibble ds ≡ true →
    (hex (i + length ds) (fold (λ (v d : ℕ). v * 16 + nibble d) v ds) ≡ done ++ ds) × (fold (λ (v d : ℕ). v * 16 + nibble d) v ds < 2 ^ (4 * (i + length ds)))
hex_on [] done i v is small all = let at : i + 0 ≡ i = omega arith in rw at (is ∙ sym (append-nil done), small)
hex_on (d ∷ ds) done i v is small all =
    let p = both (is_nibble d) (list_all is_nibble ds) all in
    let digit = (nibble_in d p.0).1 in
    let next = hex_more i v (nibble d) digit ∙ (λ j. is j ++ glyph_again d p.0 j ∷ []) in
    let rest = hex_on ds (done ++ d ∷ []) (i + 1) (v * 16 + nibble d) next (hex_small v (nibble d) i small digit) p.1 in
    let at : i + 1 + length ds ≡ i + suc (length ds) = omega arith in
    let value = fold (λ (v d : ℕ). v * 16 + nibble d) (v * 16 + nibble d) ds in
    (ap (λ k. hex k value) (sym at) ∙ rest.0 ∙ append_assoc done (d ∷ []) ds, subst (λ k. value < 2 ^ (4 * k)) at rest.1)

hex_exact : (k : ℕ) (f : List ℕ) (n : ℕ) → hex_of k f ≡ Some n → (f ≡ hex k n) × (n < 2 ^ (4 * k))
hex_exact k f n h =
    let p = if_some (length f == k && list_all is_nibble f) (hex_worth f) n h in
    let q = both (length f == k) (list_all is_nibble f) p.0 in
    let size : 0 + length f ≡ k = let e = eqb-true (length f) k q.0 in omega (arith, e) in
    let r = hex_on f [] 0 0 (hex_none 0) (omega arith) q.1 in
    (sym r.0 ∙ ap (λ j. hex j (hex_worth f)) size ∙ ap (hex k) p.1, subst (λ j. n < 2 ^ (4 * j)) size (subst (λ v. v < 2 ^ (4 * (0 + length f))) p.1 r.1))

-- Fields

pub below_exact : (bound : ℕ) (fs : List (List ℕ)) (p : ℕ × List (List ℕ)) → bound ≤ 2 ^ 64 → take_below bound fs ≡ Some p → (fs ≡ decimal p.0 ∷ p.1) × (p.0 < bound)
unfolding take_number
below_exact bound [] p most h = cc
below_exact bound (f ∷ fs) p most h = on (field_number f) refl h
  where
    on : (o : Option ℕ) → field_number f ≡ o → with (option_map (λ n. (n, fs)) o) (λ q. if nat_lt q.0 bound then Some q else None) ≡ Some p → (f ∷ fs ≡ decimal p.0 ∷ p.1) × (p.0 < bound)
    on None is g = cc
    on (Some n) is g =
        let q = if_some (nat_lt n bound) (n, fs) p g in
        let low : n < bound = ltb-true n bound q.0 in
        let first : n ≡ p.0 = ap (λ z. z.0) q.1 in
        let rest : fs ≡ p.1 = ap (λ z. z.1) q.1 in
        ((λ i. number_exact f n (omega (arith, low, most)) is i ∷ fs) ∙ (λ i. decimal (first i) ∷ rest i), subst (λ k. k < bound) first low)

pub one_exact : (fs : List (List ℕ)) (f : List ℕ) → one_field fs ≡ Some f → fs ≡ f ∷ []
unfolding one_field
one_exact [] f h = cc
one_exact (g ∷ []) f h = let e : g ≡ f = cc in ap (λ z. z ∷ []) e
one_exact (g ∷ k ∷ fs) f h = cc

pub last_exact : (bound : ℕ) (fs : List (List ℕ)) (n : ℕ) → bound ≤ 2 ^ 64 → below bound (one_number fs) ≡ Some n → (fs ≡ decimal n ∷ []) × (n < bound)
last_exact bound fs n most h = on (one_number fs) refl h
  where
    on : (o : Option ℕ) → one_number fs ≡ o → below bound o ≡ Some n → (fs ≡ decimal n ∷ []) × (n < bound)
    on None is g = cc
    on (Some k) is g =
        let q = if_some (nat_lt k bound) k n g in
        let low : k < bound = ltb-true k bound q.0 in
        let w = with_some (one_field fs) field_number k is in
        (one_exact fs w.0 w.1 ∙ ap (λ z. z ∷ []) (number_exact w.0 k (omega (arith, low, most)) w.2 ∙ ap decimal q.1), subst (λ j. j < bound) q.1 low)

seed_exact : (fs : List (List ℕ)) (n : ℕ) → one_seed fs ≡ Some n → (fs ≡ hex 16 n ∷ []) × (n < 2 ^ 64)
seed_exact fs n h =
    let w = with_some (one_field fs) (hex_of 16) n h in
    let e = hex_exact 16 w.0 n w.2 in
    (one_exact fs w.0 w.1 ∙ ap (λ z. z ∷ []) e.0, e.1)

-- Lines

site_exact : (fs : List (List ℕ)) (p : ℕ × ℕ × ℕ) → site_form fs ≡ Some p → (fs ≡ decimal p.0 ∷ decimal p.1 ∷ hex 16 p.2 ∷ []) × (p.0 < 2 ^ 32) × (p.1 < 2 ^ 32) × (p.2 < 2 ^ 64)
site_exact fs p h =
    let a = with_some (take_small fs) _ p h in
    let b = with_some (take_small a.0.1) _ p a.2 in
    let c = map_some _ (one_seed b.0.1) p b.2 in
    let x = below_exact (2 ^ 32) fs a.0 (omega arith) a.1 in
    let y = below_exact (2 ^ 32) a.0.1 b.0 (omega arith) b.1 in
    let s = seed_exact b.0.1 c.0 c.1 in
    subst (λ (q : ℕ × ℕ × ℕ). (fs ≡ decimal q.0 ∷ decimal q.1 ∷ hex 16 q.2 ∷ []) × (q.0 < 2 ^ 32) × (q.1 < 2 ^ 32) × (q.2 < 2 ^ 64)) c.2
    (x.0 ∙ ap (λ z. decimal a.0.0 ∷ z) (y.0 ∙ ap (λ z. decimal b.0.0 ∷ z) s.0), x.1, y.1, s.1)

pub record_exact : (fs : List (List ℕ)) (r : Record) → record_form fs ≡ Some r → (fs ≡ record_fields r) × IsSmallRecord r
unfolding record_form
record_exact fs r h =
    let a = with_some (take_small fs) _ r h in
    let b = with_some (take_small a.0.1) _ r a.2 in
    let c = with_some (take_attempt b.0.1) _ r b.2 in
    let d = map_some _ (site_form c.0.1) r c.2 in
    let stamp = below_exact (2 ^ 32) fs a.0 (omega arith) a.1 in
    let tile = below_exact (2 ^ 32) a.0.1 b.0 (omega arith) b.1 in
    let attempt = below_exact (2 ^ 64) b.0.1 c.0 (omega arith) c.1 in
    let site = site_exact c.0.1 d.0 d.1 in
    subst (λ (s : Record). (fs ≡ record_fields s) × IsSmallRecord s) d.2 (
      stamp.0 ∙ ap (λ z. decimal a.0.0 ∷ z) (tile.0 ∙ ap (λ z. decimal b.0.0 ∷ z) (attempt.0 ∙ ap (λ z. decimal c.0.0 ∷ z) site.0)),
      record { stamp = stamp.1; tile = tile.1; attempt = attempt.1; x = site.1; y = site.2; seed = site.3 },
    )

pub abandoned_exact : (fs : List (List ℕ)) (g : Abandoned) → abandoned_form fs ≡ Some g → (fs ≡ abandoned_fields g) × IsSmallAbandoned g
unfolding abandoned_form
abandoned_exact fs g h =
    let a = with_some (take_small fs) _ g h in
    let b = with_some (take_attempt a.0.1) _ g a.2 in
    let c = with_some (take_small b.0.1) _ g b.2 in
    let d = with_some (take_small c.0.1) _ g c.2 in
    let e = with_some (take_small d.0.1) _ g d.2 in
    let f = with_some (take_small e.0.1) _ g e.2 in
    let l = map_some _ (below (2 ^ 64) (one_number f.0.1)) g f.2 in
    let tile = below_exact (2 ^ 32) fs a.0 (omega arith) a.1 in
    let attempt = below_exact (2 ^ 64) a.0.1 b.0 (omega arith) b.1 in
    let x = below_exact (2 ^ 32) b.0.1 c.0 (omega arith) c.1 in
    let y = below_exact (2 ^ 32) c.0.1 d.0 (omega arith) d.1 in
    let edge = below_exact (2 ^ 32) d.0.1 e.0 (omega arith) e.1 in
    let holder = below_exact (2 ^ 32) e.0.1 f.0 (omega arith) f.1 in
    let last = last_exact (2 ^ 64) f.0.1 l.0 (omega arith) l.1 in
    subst (λ (s : Abandoned). (fs ≡ abandoned_fields s) × IsSmallAbandoned s) l.2 (
      tile.0 ∙ ap (λ z. decimal a.0.0 ∷ z) (attempt.0 ∙ ap (λ z. decimal b.0.0 ∷ z) (x.0 ∙ ap (λ z. decimal c.0.0 ∷ z) (y.0 ∙ ap (λ z. decimal d.0.0 ∷ z) (edge.0 ∙ ap (λ z. decimal e.0.0 ∷ z) (holder.0 ∙ ap (λ z. decimal f.0.0 ∷ z) last.0))))),
      record { tile = tile.1; attempt = attempt.1; x = x.1; y = y.1; edge = edge.1; holder = holder.1; holder_attempt = last.1 },
    )

pub count_exact : (word : List ℕ) (fs : List (List ℕ)) (k : ℕ) → count_form word fs ≡ Some k → (fs ≡ count_fields word k) × (k < 2 ^ 32)
unfolding count_form
count_exact word [] k h = cc
count_exact word (f ∷ fs) k h =
    let p = if_then (bytes_eq f word) (below (2 ^ 32) (one_number fs)) k h in
    let l = last_exact (2 ^ 32) fs k (omega arith) p.1 in
    ((λ i. (bytes_eq-Decides f word).0 p.0 i ∷ l.0 i), l.1)

one_is : (o : Option (List ℕ)) → is_one o ≡ true → o ≡ Some (codes "1")
one_is None h = cc
one_is (Some f) h = ap (λ z. Some z) ((bytes_eq-Decides f (codes "1")).0 h)

pub header_exact : (fs : List (List ℕ)) → is_header fs ≡ true → fs ≡ codes "feast" ∷ codes "1" ∷ []
unfolding is_header
header_exact [] h = cc
header_exact (f ∷ fs) h =
    let p = both (bytes_eq f (codes "feast")) (is_one (one_field fs)) h in
    λ i. (bytes_eq-Decides f (codes "feast")).0 p.0 i ∷ one_exact fs (codes "1") (one_is (one_field fs) p.1) i

some_of : (o : Option ℕ) → is_some o ≡ true → (n : ℕ) × (o ≡ Some n)
some_of None h = cc
some_of (Some n) h = (n, refl)

named_of : (o : Option (ℕ × List (List ℕ))) → is_named_rest o ≡ true → (p : ℕ × List (List ℕ)) × (o ≡ Some p) × (is_name_state p.1 ≡ true)
named_of None h = cc
named_of (Some p) h = (p, refl, h)

state_line : (fs : List (List ℕ)) → is_name_state fs ≡ true → (f : List ℕ) × (n : ℕ) × (fs ≡ f ∷ hex 18 n ∷ []) × (is_type_name f ≡ true)
unfolding is_name_state
state_line [] h = cc
state_line (f ∷ fs) h =
    let p = both (is_type_name f) (is_some (with (one_field fs) (hex_of 18))) h in
    let o = some_of (with (one_field fs) (hex_of 18)) p.1 in
    let w = with_some (one_field fs) (hex_of 18) o.0 o.1 in
    let e = hex_exact 18 w.0 o.0 w.2 in
    (f, o.0, (λ i. f ∷ (one_exact fs w.0 w.1 ∙ ap (λ z. z ∷ []) e.0) i), p.0)

pub site_fields : (fs : List (List ℕ)) → is_atom fs ≡ true → IsSiteLine fs
unfolding is_atom
site_fields fs h =
    let o = named_of (with (take_small fs) (λ x. take_small x.1)) h in
    let a = with_some (take_small fs) _ o.0 o.1 in
    let x = below_exact (2 ^ 32) fs a.0 (omega arith) a.1 in
    let y = below_exact (2 ^ 32) a.0.1 o.0 (omega arith) a.2 in
    let s = state_line o.0.1 o.2 in
    record {
      x = a.0.0;
      y = o.0.0;
      name = s.0;
      state = s.1;
      line = x.0 ∙ ap (λ z. decimal a.0.0 ∷ z) (y.0 ∙ ap (λ z. decimal o.0.0 ∷ z) s.2);
      small_x = x.1;
      small_y = y.1;
      named = s.3;
    }

-- an atom's line can be printed, and read as its fields
pub site_line : (fs : List (List ℕ)) → IsSiteLine fs → IsLine fs
site_line fs s =
    subst IsLine (sym s.line) (record {
      some = omega arith;
      high = rw (decimal_high s.x (let l = s.small_x in omega (arith, l)), decimal_high s.y (let l = s.small_y in omega (arith, l)), name_high s.name s.named, hex_high 18 s.state) refl;
    })

-- Texts

-- the fields of a text, joined, are the text
pub joined_after : (front bs : List ℕ) → line_text (fields_after front bs) ≡ front ++ bs
unfolding fields_after
joined_after front [] = refl
joined_after front (b ∷ bs) = elim (eqb_tells b 32) [
  | inl t ↦
      let f = some_field [] bs in
      let e = f.1.1 in
      rw t.0 (ap (λ z. front ++ z) (ap more_text e ∙ ap (λ z. 32 ∷ line_text z) (sym e) ∙ ap (λ z. 32 ∷ z) (joined_after [] bs) ∙ ap (λ c. c ∷ bs) (sym t.1)))
  | inr t ↦ rw t.0 (joined_after (front ++ b ∷ []) bs ∙ append_assoc front (b ∷ []) bs)
]

pub fields_joined : (t : List ℕ) → line_text (fields t) ≡ t
fields_joined t = joined_after [] t

-- lines, as the reader has them
abbrev pub ended : List (List (List ℕ)) → List (Option (List ℕ))
ended ls = map (λ l. Some (line_text l)) ls

-- a first line, and the text behind it
ended_line_on : (front bs : List ℕ) (ls : List (List (List ℕ))) → Some front ∷ ended_after [] bs ≡ ended ls → ((ms : List (List (List ℕ))) → ended_after [] bs ≡ ended ms → bs ≡ text_of ms) → front ++ 10 ∷ bs ≡ text_of ls
ended_line_on front bs [] h rest = cc
ended_line_on front bs (l ∷ ls) h rest =
    let first : front ≡ line_text l = cc in
    let more : ended_after [] bs ≡ ended ls = cc in
    (λ i. first i ++ 10 ∷ rest ls more i) ∙ sym (append_assoc (line_text l) (10 ∷ []) (text_of ls))

-- a text whose lines are these, each with its end
pub ended_exact : (front bs : List ℕ) (ls : List (List (List ℕ))) → ended_after front bs ≡ ended ls → front ++ bs ≡ text_of ls
unfolding ended_after
ended_exact [] [] [] h = refl
ended_exact [] [] (l ∷ ls) h = cc
ended_exact (f ∷ fs) [] [] h = cc
ended_exact (f ∷ fs) [] (l ∷ ls) h = cc
ended_exact [] (b ∷ bs) ls h = elim (eqb_tells b 10) [
  | inl t ↦ let g = rw t.0 at h in ap (λ c. c ∷ bs) t.1 ∙ ended_line_on [] bs ls g (λ ms e. ended_exact [] bs ms e)
  | inr t ↦ let g = rw t.0 at h in ended_exact (b ∷ []) bs ls g
]
ended_exact (f ∷ fs) (b ∷ bs) ls h = elim (eqb_tells b 10) [
  | inl t ↦ let g = rw t.0 at h in ap (λ c. (f ∷ fs) ++ c ∷ bs) t.1 ∙ ended_line_on (f ∷ fs) bs ls g (λ ms e. ended_exact [] bs ms e)
  | inr t ↦ let g = rw t.0 at h in sym (append_assoc (f ∷ fs) (b ∷ []) bs) ∙ ended_exact ((f ∷ fs) ++ b ∷ []) bs ls g
]
