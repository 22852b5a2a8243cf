-- Places, one byte after another.
use Rattle.std.proofs.Common.{◌≡◌, ℕ, ◌+◌, ◌≤◌, Bool, cond, not, List, [], ◌∷◌, ◌++◌, length, refl, sym, ap, ◌∙◌, inl, inr, arith, append_assoc, append-nil}
use Rattle.std.specs.Prelude.{◌==◌, fold, count_by}
use Rattle.std.specs.List.{prefix_len, suffix_len}
use Rattle.std.proofs.lemmas.Bool.{cases_Bool}
use Rattle.std.proofs.lemmas.List.{reverse-append}
use Rattle.std.proofs.lemmas.List.Sums.{sum_by_push, count_by-le-length, suffix_len-le-length}
use Rattle.feast_base.specs.declared.place.Place.{Place}
use Rattle.ulam_lex.specs.Pieces.{is_in_line}
use Rattle.ulam_lex.specs.Texts.{place_after}
use Rattle.ulam_lex.specs.Steps.{next_place}

-- one more byte at the end
suffix_len_push : (p : ℕ → Bool) (xs : List ℕ) (x : ℕ) → suffix_len p (xs ++ x ∷ []) ≡ cond (p x) (1 + suffix_len p xs) 0
suffix_len_push p xs x = ap (prefix_len p) (reverse-append xs (x ∷ []))

place_push : (file : ℕ) (before : List ℕ) (b : ℕ) → next_place (place_after file before) b ≡ place_after file (before ++ b ∷ [])
place_push file before b =
    let lines = sum_by_push (λ n. cond (n == 10) 1 0) before b in
    let columns = suffix_len_push is_in_line before b in
    elim (cases_Bool (b == 10)) [
      | inl feed ↦
          let line : 1 + count_by (λ n. n == 10) (before ++ b ∷ []) ≡ 1 + count_by (λ n. n == 10) before + 1 = rw feed at (ap (λ n. 1 + n) lines) ∙ omega arith in
          let column : 1 + suffix_len is_in_line (before ++ b ∷ []) ≡ 1 = ap (λ n. 1 + n) (columns ∙ ap (λ t. cond (not t) (1 + suffix_len is_in_line before) 0) feed) in
          rw (feed, line, column) refl
      | inr other ↦
          let line : 1 + count_by (λ n. n == 10) (before ++ b ∷ []) ≡ 1 + count_by (λ n. n == 10) before = rw other at (ap (λ n. 1 + n) lines) ∙ omega arith in
          let column : 1 + suffix_len is_in_line (before ++ b ∷ []) ≡ 1 + suffix_len is_in_line before + 1 = ap (λ n. 1 + n) (columns ∙ ap (λ t. cond (not t) (1 + suffix_len is_in_line before) 0) other) ∙ omega arith in
          rw (other, line, column) refl
    ]

pub place_passed : (file : ℕ) (before bytes : List ℕ) → fold next_place (place_after file before) bytes ≡ place_after file (before ++ bytes)
place_passed file before [] = ap (place_after file) (sym (append-nil before))
place_passed file before (b ∷ bytes) = ap (λ p. fold next_place p bytes) (place_push file before b) ∙ place_passed file (before ++ b ∷ []) bytes ∙ ap (place_after file) (append_assoc before (b ∷ []) bytes)

pub line_bound : (file : ℕ) (before : List ℕ) → (place_after file before).line ≤ 1 + length before
line_bound file before = omega (arith, count_by-le-length (λ b. b == 10) before)

pub column_bound : (file : ℕ) (before : List ℕ) → (place_after file before).column ≤ 1 + length before
column_bound file before = omega (arith, suffix_len-le-length is_in_line before)

-- a place is no further than the bytes before it
pub place_column : (place : Place) (file : ℕ) (before : List ℕ) → place ≡ place_after file before → place.column ≤ 1 + length before
place_column place file before placed = let bound = column_bound file before in omega (arith, ap (λ (p : Place). p.column) placed)

pub place_line : (place : Place) (file : ℕ) (before : List ℕ) → place ≡ place_after file before → place.line ≤ 1 + length before
place_line place file before placed = let bound = line_bound file before in omega (arith, ap (λ (p : Place). p.line) placed)

pub passed_is : (place next : Place) (file : ℕ) (before bytes : List ℕ) → place ≡ place_after file before → next ≡ fold next_place place bytes → next ≡ place_after file (before ++ bytes)
passed_is place next file before bytes placed passed = passed ∙ ap (λ p. fold next_place p bytes) placed ∙ place_passed file before bytes
