-- Reports in a row: their lines, what is behind these, and their counts.
use Rattle.std.proofs.Common.{ℕ, zero, suc, ◌≡◌, ◌≢◌, ◌+◌, ◌-◌, ◌≤◌, ◌==◌, true, List, [], ◌∷◌, ◌++◌, append_assoc, append-nil, codes, get_or, length, length-append, take, refl, ap, sym, ◌∙◌, arith, Option, Some, None, inl, inr, ne_eqb}
use Rattle.std.proofs.Math.Seq.{take-append_seam}
use Rattle.std.proofs.lemmas.Bool.Decides.{eqb_tells}
use Rattle.std.proofs.lemmas.List.{take_all}
use Rattle.std.proofs.lemmas.List.Elements.{All-head, All-tail}
use Rattle.list_laws.specs.Options.{or_zero}
use Rattle.report_text.specs.First.{IsCounted, behind_counted, behind_line, behind_lines, count_in, first_report, later_reports, lines_counted}
use Rattle.report_text.specs.Forms.{count_form}
use Rattle.report_text.specs.ShortLaws.{IsFirstReport}
use Rattle.text_lines.proofs.Cuts.{ended_none, ended_open}
use Rattle.text_lines.specs.Fields.{Lacks, fields}
use Rattle.text_lines.specs.Forms.{with}
use Rattle.text_lines.specs.Lines.{ended_after, ended_lines}

-- What is behind lines

at_lf : (x rest : List ℕ) → Lacks x 10 → behind_line (x ++ 10 ∷ rest) ≡ rest
unfolding behind_line
at_lf [] rest lacks = refl
at_lf (b ∷ x) rest lacks = rw (ne_eqb b 10 (All-head (λ v. v ≢ 10) b x lacks)) (at_lf x rest (All-tail (λ v. v ≢ 10) b x lacks))

pub behind_lf : (bytes x rest : List ℕ) → Lacks x 10 → bytes ≡ x ++ 10 ∷ rest → rest ≡ behind_line bytes
behind_lf bytes x rest lacks is = sym (ap behind_line is ∙ at_lf x rest lacks)

pub behind_open : (x : List ℕ) → Lacks x 10 → [] ≡ behind_line x
unfolding behind_line
behind_open [] lacks = refl
behind_open (b ∷ x) lacks = rw (ne_eqb b 10 (All-head (λ v. v ≢ 10) b x lacks)) (behind_open x (All-tail (λ v. v ≢ 10) b x lacks))

pub none_first : (bytes : List ℕ) → bytes ≡ behind_lines 0 bytes
unfolding behind_lines
none_first bytes = refl

pub behind_nothing : (n : ℕ) → behind_lines n [] ≡ []
unfolding behind_lines behind_line
behind_nothing zero = refl
behind_nothing (suc n) = behind_nothing n

pub behind_more : (m n : ℕ) (bytes : List ℕ) → behind_lines n (behind_lines m bytes) ≡ behind_lines (m + n) bytes
unfolding behind_lines
behind_more zero n bytes = let at : n ≡ 0 + n = omega arith in ap (λ j. behind_lines j bytes) at
behind_more (suc m) n bytes = let at : suc (m + n) ≡ suc m + n = omega arith in behind_more m n (behind_line bytes) ∙ ap (λ j. behind_lines j bytes) at

pub behind_one : (n : ℕ) (bytes : List ℕ) → behind_line (behind_lines n bytes) ≡ behind_lines (n + 1) bytes
unfolding behind_lines
behind_one zero bytes = refl
behind_one (suc n) bytes = let at : suc (n + 1) ≡ suc n + 1 = omega arith in behind_one n (behind_line bytes) ∙ ap (λ j. behind_lines j bytes) at

-- and where nothing is left
pub behind_over : (k n : ℕ) (bytes left : List ℕ) → k ≤ n → left ≡ behind_lines k bytes → (length left == 0) ≡ true → left ≡ behind_lines n bytes
behind_over k n bytes [] le is none =
    let at : k + (n - k) ≡ n = omega (arith, le) in
    sym (behind_nothing (n - k)) ∙ ap (behind_lines (n - k)) is ∙ behind_more k (n - k) bytes ∙ ap (λ j. behind_lines j bytes) at
behind_over k n bytes (b ∷ bs) le is none = absurd (never (length bs) none)
  where
    never : (k : ℕ) → (suc k == 0) ≡ true → ⊥
    never k e = grind arith

pub first_whole : (bytes : List ℕ) → take (length bytes - 0) bytes ≡ bytes
first_whole bytes = take_all (length bytes - 0) bytes (omega arith)

-- Lines behind others

none_at : (k : ℕ) → get_or {A = Option (List ℕ)} [] k None ≡ None
none_at zero = refl
none_at (suc k) = refl

line_on : (front bs : List ℕ) (k : ℕ) → get_or (ended_after front bs) (k + 1) None ≡ get_or (ended_lines (behind_line bs)) k None
unfolding ended_after behind_line
line_on [] [] k = none_at (k + 1) ∙ sym (none_at k)
line_on (f ∷ fs) [] k = let at : k + 1 ≡ suc k = omega arith in ap (λ j. get_or {A = Option (List ℕ)} (None ∷ []) j None) at ∙ none_at k ∙ sym (none_at k)
line_on [] (b ∷ bs) k = elim (eqb_tells b 10) [
  | inl t ↦ let at : k + 1 ≡ suc k = omega arith in rw (t.0, at) refl
  | inr t ↦ rw t.0 (line_on (b ∷ []) bs k)
]
line_on (f ∷ fs) (b ∷ bs) k = elim (eqb_tells b 10) [
  | inl t ↦ let at : k + 1 ≡ suc k = omega arith in rw (t.0, at) refl
  | inr t ↦ rw t.0 (line_on ((f ∷ fs) ++ b ∷ []) bs k)
]

line_behind : (n k : ℕ) (bytes : List ℕ) → get_or (ended_lines bytes) (n + k) None ≡ get_or (ended_lines (behind_lines n bytes)) k None
unfolding behind_lines
line_behind zero k bytes = let at : 0 + k ≡ k = omega arith in ap (λ j. get_or (ended_lines bytes) j None) at
line_behind (suc n) k bytes =
    let at : suc n + k ≡ n + k + 1 = omega arith in
    ap (λ j. get_or (ended_lines bytes) j None) at ∙ line_on [] bytes (n + k) ∙ line_behind n k (behind_line bytes)

-- Counts

-- the count in the first line behind others
pub count_behind : (word : List ℕ) (n : ℕ) (bytes : List ℕ) → count_in word (ended_lines (behind_lines n bytes)) 0 ≡ count_in word (ended_lines bytes) n
count_behind word n bytes =
    let at : n + 0 ≡ n = omega arith in
    ap (λ o. with o (λ t. count_form word (fields t))) (sym (line_behind n 0 bytes) ∙ ap (λ j. get_or (ended_lines bytes) j None) at)

pub no_count : (word bytes : List ℕ) → Lacks bytes 10 → None ≡ count_in word (ended_lines bytes) 0
no_count word [] lacks = sym (ap (λ ls. count_in word ls 0) ended_none)
no_count word (b ∷ bs) lacks = sym (ap (λ ls. count_in word ls 0) (ended_open (b ∷ bs) (λ e. cc e) lacks))

pub a_count : (word bytes text : List ℕ) (ts : List (Option (List ℕ))) → ended_lines bytes ≡ Some text ∷ ts → count_form word (fields text) ≡ count_in word (ended_lines bytes) 0
a_count word bytes text ts is = sym (ap (λ ls. count_in word ls 0) is)

-- the count in the first line of what is behind n lines
count_here : (word bytes left : List ℕ) (n : ℕ) (c : Option ℕ) → left ≡ behind_lines n bytes → IsCounted word left c → count_in word (ended_lines bytes) n ≡ c
count_here word bytes left n c is counted = sym (count_behind word n bytes) ∙ ap (λ z. count_in word (ended_lines z) 0) (sym is) ∙ counted

behind_next : (k n : ℕ) (bytes left more : List ℕ) → left ≡ behind_lines k bytes → more ≡ behind_lines n left → more ≡ behind_lines (k + n) bytes
behind_next k n bytes left more is next = next ∙ ap (behind_lines n) is ∙ behind_more k n bytes

-- the counts of a report, each in the first line behind what the one before it counts
module _ (bytes left : List ℕ) (is : left ≡ behind_line bytes) where
  first_is : left ≡ behind_lines 1 bytes
  unfolding behind_lines
  first_is = is

  pub no_atoms : IsCounted (codes "atoms") left None → lines_counted (ended_lines bytes) ≡ None
  unfolding lines_counted
  no_atoms none = rw (count_here (codes "atoms") bytes left 1 None first_is none) refl

  module _ (a : ℕ) (more : List ℕ) (atoms : IsCounted (codes "atoms") left (Some a)) (next : more ≡ behind_lines (a + 1) left) where
    more_is : more ≡ behind_lines (a + 2) bytes
    more_is = let at : 1 + (a + 1) ≡ a + 2 = omega arith in behind_next 1 (a + 1) bytes left more first_is next ∙ ap (λ j. behind_lines j bytes) at

    pub no_records : IsCounted (codes "journal") more None → lines_counted (ended_lines bytes) ≡ None
    unfolding lines_counted
    no_records none = rw (count_here (codes "atoms") bytes left 1 (Some a) first_is atoms, count_here (codes "journal") bytes more (a + 2) None more_is none) refl

    module _ (r : ℕ) (rest : List ℕ) (records : IsCounted (codes "journal") more (Some r)) (later : rest ≡ behind_lines (r + 1) more) where
      rest_is : rest ≡ behind_lines (a + r + 3) bytes
      rest_is = let at : a + 2 + (r + 1) ≡ a + r + 3 = omega arith in behind_next (a + 2) (r + 1) bytes more rest more_is later ∙ ap (λ j. behind_lines j bytes) at

      pub no_abandoned : IsCounted (codes "abandoned") rest None → lines_counted (ended_lines bytes) ≡ None
      unfolding lines_counted
      no_abandoned none =
          rw (count_here (codes "atoms") bytes left 1 (Some a) first_is atoms, count_here (codes "journal") bytes more (a + 2) (Some r) more_is records, count_here (codes "abandoned") bytes rest (a + r + 3) None rest_is none) refl

      pub all_counts : (g : ℕ) (last : List ℕ) → IsCounted (codes "abandoned") rest (Some g) → last ≡ behind_lines (g + 1) rest → (lines_counted (ended_lines bytes) ≡ Some (a + r + g + 4)) × (last ≡ behind_lines (a + r + g + 4) bytes)
      unfolding lines_counted
      all_counts g last abandoned behind =
          let at : a + r + 3 + (g + 1) ≡ a + r + g + 4 = omega arith in (
            rw (count_here (codes "atoms") bytes left 1 (Some a) first_is atoms, count_here (codes "journal") bytes more (a + 2) (Some r) more_is records, count_here (codes "abandoned") bytes rest (a + r + 3) (Some g) rest_is abandoned) refl,
            behind_next (a + r + 3) (g + 1) bytes rest last rest_is behind ∙ ap (λ j. behind_lines j bytes) at,
          )

-- a text that has as many lines as its counts say, before other bytes
pub first_of_later : (text rest : List ℕ) (n : ℕ) → lines_counted (ended_lines (text ++ rest)) ≡ Some n → behind_lines n (text ++ rest) ≡ rest → IsFirstReport text n rest
unfolding later_reports
first_of_later text rest n counts behind =
    let bytes = text ++ rest in
    let later : later_reports bytes ≡ rest = ap (behind_counted bytes) counts ∙ behind in
    let sizes = length-append text rest in
    let size : length bytes - length (later_reports bytes) ≡ length text = ap (λ z. length bytes - length z) later ∙ omega (arith, sizes) in
    record {
      first = ap (λ n. take n bytes) size ∙ take-append_seam text rest;
      later = later;
      counted = ap or_zero counts;
    }

-- The first report and those behind it are all

behind_part : (bytes : List ℕ) → (front : List ℕ) × (bytes ≡ front ++ behind_line bytes)
unfolding behind_line
behind_part [] = ([], refl)
behind_part (b ∷ bs) = elim (eqb_tells b 10) [
  | inl t ↦ (b ∷ [], rw t.0 refl)
  | inr t ↦ let r = behind_part bs in (b ∷ r.0, rw t.0 (ap (λ z. b ∷ z) r.1))
]

behind_parts : (n : ℕ) (bytes : List ℕ) → (front : List ℕ) × (bytes ≡ front ++ behind_lines n bytes)
unfolding behind_lines
behind_parts zero bytes = ([], refl)
behind_parts (suc n) bytes =
    let a = behind_part bytes in
    let r = behind_parts n (behind_line bytes) in
    (a.0 ++ r.0, a.1 ∙ ap (λ z. a.0 ++ z) r.1 ∙ sym (append_assoc a.0 r.0 (behind_lines n (behind_line bytes))))

later_part : (bytes : List ℕ) → (front : List ℕ) × (bytes ≡ front ++ later_reports bytes)
unfolding later_reports
later_part bytes = on (lines_counted (ended_lines bytes))
  where
    on : (o : Option ℕ) → (front : List ℕ) × (bytes ≡ front ++ behind_counted bytes o)
    on None = (bytes, sym (append-nil bytes))
    on (Some n) = behind_parts n bytes

pub first_and_later : (bytes : List ℕ) → first_report bytes ++ later_reports bytes ≡ bytes
first_and_later bytes =
    let part = later_part bytes in
    let later = later_reports bytes in
    let long = length-append part.0 later in
    let size : length bytes - length later ≡ length part.0 = ap (λ z. length z - length later) part.1 ∙ omega (arith, long) in
    let first : first_report bytes ≡ part.0 = ap (λ n. take n bytes) size ∙ ap (take (length part.0)) part.1 ∙ take-append_seam part.0 later in
    ap (λ z. z ++ later) first ∙ sym part.1
