-- The text of lines says the lines.
use Rattle.std.proofs.Common.{ℕ, ◌≡◌, ◌+◌, ◌^◌, ◌<◌, ◌≤◌, true, false, List, [], ◌∷◌, All, length, map, codes, decimal, refl, ap, ◌∙◌, arith, Some, Result, Ok, Err, bytes_eq, nat_eq}
use Rattle.std.specs.List.{list_all}
use Rattle.std.proofs.lemmas.List.Elements.{All-head, All-tail, All-cons, All-nil}
use Rattle.list_laws.proofs.Tests.{both}
use Rattle.text_lines.specs.Fields.{is_digit}
use Rattle.text_lines.specs.Forms.{take_number, one_field}
use Rattle.text_lines.specs.Lines.{is_skipped, line_text}
use Rattle.text_lines.specs.Printed.{IsLine, is_field}
use Rattle.text_lines.proofs.Joined.{fields_again, lines_again}
use Rattle.text_lines.proofs.Printed.{decimal_digits, number_decimal, hex_hex, decimal_high, hex_high, name_high}
use Rattle.world_text.specs.Line.{Line, header, tiles, size, off, seed, attempts, try, atom, order_seed, order}
use Rattle.world_text.specs.Forms.{line_of, form_of, form, plane_form, short_form, state_of, name_state, numbers_of, order_form}
use Rattle.world_text.specs.Drafts.{DraftValue, step, nothing_said}
use Rattle.world_text.specs.Printed.{line_fields}
use Rattle.world_text.specs.Reading.{read_text, read_lines, line_step, go_on}
use Rattle.world_text.specs.Saying.{IsPrinted, draft_after_lines, SaysItsLines}

all_decimal : (ts : List ℕ) → All (λ n. n < 2 ^ 64) ts → list_all is_field (map decimal ts) ≡ true
all_decimal [] p = refl
all_decimal (t ∷ ts) p = rw (decimal_high t (All-head (λ n. n < 2 ^ 64) t ts p), all_decimal ts (All-tail (λ n. n < 2 ^ 64) t ts p)) refl

fields_high : (l : Line) → IsPrinted l → list_all is_field (line_fields l) ≡ true
fields_high (header true) p = refl
fields_high (header false) p = refl
fields_high (tiles a b) p = rw (decimal_high a p.0, decimal_high b p.1) refl
fields_high (size a b) p = rw (decimal_high a p.0, decimal_high b p.1) refl
fields_high (off t) p = rw (decimal_high t p) refl
fields_high (seed n) p = rw (decimal_high n p) refl
fields_high (attempts k) p = rw (decimal_high k p) refl
fields_high (try t x y s) p = rw (decimal_high t p.0, decimal_high x p.1, decimal_high y p.2, hex_high 16 s) refl
fields_high (atom x y name s) p = rw (decimal_high x p.0, decimal_high y p.1, name_high name p.2, hex_high 18 s) refl
fields_high (order_seed n) p = rw (decimal_high n p) refl
fields_high (order ts) p = all_decimal ts p.1

some_fields : (l : Line) → 1 ≤ length (line_fields l)
some_fields (header second) = omega arith
some_fields (tiles a b) = omega arith
some_fields (size a b) = omega arith
some_fields (off t) = omega arith
some_fields (seed n) = omega arith
some_fields (attempts k) = omega arith
some_fields (try t x y s) = omega arith
some_fields (atom x y name s) = omega arith
some_fields (order_seed n) = omega arith
some_fields (order ts) = omega arith

pub line_is : (l : Line) → IsPrinted l → IsLine (line_fields l)
line_is l p = record { some = some_fields l; high = fields_high l p }

all_numbers : (ts : List ℕ) → All (λ n. n < 2 ^ 64) ts → numbers_of (map decimal ts) ≡ Some ts
unfolding numbers_of
all_numbers [] p = refl
all_numbers (t ∷ ts) p = rw (number_decimal t (All-head (λ n. n < 2 ^ 64) t ts p), all_numbers ts (All-tail (λ n. n < 2 ^ 64) t ts p)) refl

-- a number is not the word `seed`
not_seed : (f : List ℕ) → list_all is_digit f ≡ true → bytes_eq f (codes "seed") ≡ false
not_seed [] all = refl
not_seed (b ∷ bs) all =
    let h = both (is_digit b) (list_all is_digit bs) all in
    rw (other b h.0) refl
  where
    other : (b : ℕ) → is_digit b ≡ true → nat_eq b 115 ≡ false
    other b h = grind arith

order_seed_again : (n : ℕ) → n < 2 ^ 64 → order_form (codes "seed" ∷ decimal n ∷ []) ≡ Some (order_seed n)
unfolding order_form one_field
order_seed_again n p = rw (number_decimal n p) refl

order_again : (ts : List ℕ) → 1 ≤ length ts → All (λ n. n < 2 ^ 64) ts → order_form (map decimal ts) ≡ Some (order ts)
unfolding order_form
order_again [] some p = absurd (omega (arith, some))
order_again (t ∷ ts) some p =
    let digits = (decimal_digits t (All-head (λ n. n < 2 ^ 64) t ts p)).0 in
    rw (not_seed (decimal t) digits, all_numbers (t ∷ ts) p) refl

-- the fields of a printed line say this line
pub form_again : (l : Line) → IsPrinted l → form_of (line_fields l) ≡ Some l
unfolding form_of form short_form plane_form take_number one_field name_state state_of
form_again (header true) p = refl
form_again (header false) p = refl
form_again (tiles a b) p = rw (number_decimal a p.0, number_decimal b p.1) refl
form_again (size a b) p = rw (number_decimal a p.0, number_decimal b p.1) refl
form_again (off t) p = rw (number_decimal t p) refl
form_again (seed n) p = rw (number_decimal n p) refl
form_again (attempts k) p = rw (number_decimal k p) refl
form_again (try t x y s) p = rw (number_decimal t p.0, number_decimal x p.1, number_decimal y p.2, hex_hex 16 s p.3) refl
form_again (atom x y name s) p = rw (number_decimal x p.0, number_decimal y p.1, p.2, hex_hex 18 s p.3) refl
form_again (order_seed n) p = order_seed_again n p
form_again (order ts) p = order_again ts p.0 p.1

-- a line that was printed is read as itself
line_again : (l : Line) → IsPrinted l → line_of (line_text (line_fields l)) ≡ Some l
line_again l p = ap form_of (fields_again (line_fields l) (line_is l p)) ∙ form_again l p

pub not_skipped : (l : Line) → is_skipped (line_text (line_fields l)) ≡ false
not_skipped (header second) = refl
not_skipped (tiles a b) = refl
not_skipped (size a b) = refl
not_skipped (off t) = refl
not_skipped (seed n) = refl
not_skipped (attempts k) = refl
not_skipped (try t x y s) = refl
not_skipped (atom x y name s) = refl
not_skipped (order_seed n) = refl
not_skipped (order ts) = refl

step_again : (n : ℕ) (d : DraftValue) (l : Line) → IsPrinted l → line_step n d (line_text (line_fields l)) ≡ step n d (Some l)
unfolding line_step
step_again n d l p = rw (not_skipped l, line_again l p) refl

lines_said : (n : ℕ) (d : DraftValue) (ls : List Line) → All IsPrinted ls → read_lines n d (map line_text (map line_fields ls)) ≡ draft_after_lines n d ls
unfolding read_lines draft_after_lines
lines_said n d [] p = refl
lines_said n d (l ∷ ls) p =
    rw (step_again n d l (All-head IsPrinted l ls p)) (on (λ e. lines_said (n + 1) e ls (All-tail IsPrinted l ls p)) (step n d (Some l)))
  where
    on : ((e : DraftValue) → read_lines (n + 1) e (map line_text (map line_fields ls)) ≡ draft_after_lines (n + 1) e ls) → (r : Result DraftValue ℕ) →
        go_on n r (λ e. read_lines (n + 1) e (map line_text (map line_fields ls))) ≡ go_on n r (λ e. draft_after_lines (n + 1) e ls)
    on again (Ok e) = again e
    on again (Err code) = refl

lines_are : (ls : List Line) → All IsPrinted ls → All IsLine (map line_fields ls)
lines_are [] p = All-nil _
lines_are (l ∷ ls) p = All-cons IsLine (line_fields l) (map line_fields ls) (line_is l (All-head IsPrinted l ls p)) (lines_are ls (All-tail IsPrinted l ls p))

-- a printed text says what its lines say
pub text_again : SaysItsLines
unfolding read_text
text_again = λ ls p. ap (λ ts. read_lines 1 nothing_said ts) (lines_again (map line_fields ls) (lines_are ls p)) ∙ lines_said 1 nothing_said ls p
