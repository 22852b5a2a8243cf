-- The text of a chain's lines says the lines.
use Rattle.std.proofs.Common.{ℕ, ◌≡◌, ◌+◌, ◌^◌, ◌<◌, ◌≤◌, ◌==◌, Bool, true, false, List, [], ◌∷◌, ◌++◌, All, length, map, codes, decimal, refl, ap, ◌∙◌, arith, Option, Some, option_map, Result, Ok, Err, if◌then◌else◌}
use Rattle.std.specs.List.{list_all}
use Rattle.std.proofs.lemmas.List.Elements.{All-cons, All-head, All-nil, All-tail}
use Rattle.list_laws.proofs.Tests.{both, together}
use Rattle.feast_base.specs.Digits.{hex}
use Rattle.feast_base.specs.TypeNames.{is_type_name}
use Rattle.text_lines.specs.Fields.{is_digit}
use Rattle.text_lines.specs.Forms.{take_number, one_field, with}
use Rattle.text_lines.specs.Lines.{is_skipped, line_text}
use Rattle.text_lines.proofs.Printed.{number_decimal, hex_hex, decimal_high, hex_high, name_high}
use Rattle.world_text.specs.Forms.{form_of as world_form_of, name_state, state_of}
use Rattle.world_text.specs.Line.{header as world_header, tiles, size, off, seed, attempts as world_attempts, try, atom, order_seed, order}
use Rattle.world_text.specs.Saying.{IsPrinted as IsWorldPrinted}
use Rattle.world_text.proofs.Again.{form_again as world_form_again, line_is as world_line_is, not_skipped as world_not_skipped}
use Rattle.chain_text.specs.Drafts.{ChainDraft, missing, nothing_said, step}
use Rattle.chain_text.specs.Forms.{act_by_word, act_form, alone, chain_form, chance_form, every_line, form_of, legs_form, line_of, one_area, plain_line, take_area, take_chance}
use Rattle.chain_text.specs.Line.{Area, ActLine, ChainLine, IsFormedJournal, IsRepeated, header, plain, legs, first, journal, print, every, act, clear, put, erase, flip, attempts}
use Rattle.chain_text.specs.Printed.{act_fields, area_fields, chance_text, line_fields, lines_text, places}
use Rattle.chain_text.specs.Reading.{go_on, line_step, over, read_lines, read_text}
use Rattle.chain_text.specs.declared.chain.Journal.TheVariants.{Whole, Short, Counts}
use Rattle.chain_text.proofs.Joined.{IsClear, high_word, high_words, is_clear, is_word, texts_again, words_again}
use Rattle.chain_text.proofs.Places.{chance_again, places_digits}

-- an area, an act and a line whose text says them again: their numbers are those of their fields
abbrev pub IsPrintedArea : Area → Type 0
IsPrintedArea a = (a.x < 2 ^ 64) × (a.y < 2 ^ 64) × (a.w < 2 ^ 64) × (a.h < 2 ^ 64)

abbrev pub IsPrintedAct : ActLine → Type 0
IsPrintedAct (clear a) = IsPrintedArea a
IsPrintedAct (put a name s) = IsPrintedArea a × (is_type_name name ≡ true) × (s < 2 ^ 72)
IsPrintedAct (erase p a) = IsPrintedArea a × (p ≤ 1000000000)
IsPrintedAct (flip p a) = IsPrintedArea a × (p ≤ 1000000000)
IsPrintedAct (attempts k) = k < 2 ^ 64

abbrev pub IsPrinted : ChainLine → Type 0
IsPrinted header = Unit {0}
IsPrinted (plain l) = IsWorldPrinted l × (plain_line l ≡ Some (plain l))
IsPrinted (legs n) = n < 2 ^ 64
IsPrinted (first f) = f < 2 ^ 64
IsPrinted (journal j) = IsFormedJournal j
IsPrinted (print p) = p < 2 ^ 64
IsPrinted (every k a) = (k < 2 ^ 64) × IsPrintedAct a × IsRepeated a
IsPrinted (act k a) = (k < 2 ^ 64) × IsPrintedAct a

-- what lines say after a draft, if the first has number n
unfoldable pub draft_after_lines : ℕ → ChainDraft → List ChainLine → Result ChainDraft (ℕ × ℕ)
draft_after_lines n d [] = over n d (missing d.stage d.world.last)
draft_after_lines n d (l ∷ ls) = go_on n (step n d (Some l)) (λ e. draft_after_lines (n + 1) e ls)

number_word : (n : ℕ) → n < 2 ^ 64 → is_word (decimal n) ≡ true
number_word n p = high_word (decimal n) (decimal_high n p)

digits_word : (ds : List ℕ) → list_all is_digit ds ≡ true → is_word ds ≡ true
digits_word [] h = refl
digits_word (d ∷ ds) h = let p = both (is_digit d) (list_all is_digit ds) h in together (is_clear d) (is_word ds) (one d p.0) (digits_word ds p.1)
  where
    one : (d : ℕ) → is_digit d ≡ true → is_clear d ≡ true
    one d h = grind arith

chance_word : (p : ℕ) → is_word (chance_text p) ≡ true
chance_word p = on (p == 0) (p == 1000000000)
  where
    on : (a b : Bool) → is_word (if a then codes "0" else (if b then codes "1" else codes "0." ++ places 9 p)) ≡ true
    on true b = refl
    on false true = refl
    on false false = digits_word (places 9 p) (places_digits 9 p)

area_words : (a : Area) (rest : List (List ℕ)) → IsPrintedArea a → list_all is_word rest ≡ true → list_all is_word (area_fields a ++ rest) ≡ true
area_words a rest p h = rw (number_word a.x p.0, number_word a.y p.1, number_word a.w p.2, number_word a.h p.3, h) refl

act_words : (a : ActLine) → IsPrintedAct a → list_all is_word (act_fields a) ≡ true
act_words (clear a) p = area_words a [] p refl
act_words (put a name s) p = area_words a (name ∷ hex 18 s ∷ []) p.0 (rw (high_word name (name_high name p.1), high_word (hex 18 s) (hex_high 18 s)) refl)
act_words (erase q a) p = together (is_word (chance_text q)) (list_all is_word (area_fields a)) (chance_word q) (area_words a [] p.0 refl)
act_words (flip q a) p = together (is_word (chance_text q)) (list_all is_word (area_fields a)) (chance_word q) (area_words a [] p.0 refl)
act_words (attempts k) p = rw (number_word k p) refl

line_words : (l : ChainLine) → IsPrinted l → list_all is_word (line_fields l) ≡ true
line_words header p = refl
line_words (plain l) p = high_words (line_fields (plain l)) (world_line_is l p.0).high
line_words (legs n) p = rw (number_word n p) refl
line_words (first f) p = rw (number_word f p) refl
line_words (journal Whole) p = refl
line_words (journal Short) p = refl
line_words (journal (Counts q)) p = refl
line_words (print q) p = rw (number_word q p) refl
line_words (every k a) p = together (is_word (decimal k)) (list_all is_word (act_fields a)) (number_word k p.0) (act_words a p.1)
line_words (act k a) p = together (is_word (decimal k)) (list_all is_word (act_fields a)) (number_word k p.0) (act_words a p.1)

some_fields : (l : ChainLine) → IsPrinted l → 1 ≤ length (line_fields l)
some_fields header p = omega arith
some_fields (plain l) p = (world_line_is l p.0).some
some_fields (legs n) p = omega arith
some_fields (first f) p = omega arith
some_fields (journal j) p = omega arith
some_fields (print q) p = omega arith
some_fields (every k a) p = omega arith
some_fields (act k a) p = omega arith

line_is : (l : ChainLine) → IsPrinted l → IsClear (line_fields l)
line_is l p = record { some = some_fields l p; words = line_words l p }

-- an area before other fields
area_again : (a : Area) (rest : List (List ℕ)) → IsPrintedArea a → take_area (area_fields a ++ rest) ≡ Some (a, rest)
unfolding take_number
area_again a rest p = rw (number_decimal a.x p.0, number_decimal a.y p.1, number_decimal a.w p.2, number_decimal a.h p.3) refl

one_again : (a : Area) → IsPrintedArea a → one_area (area_fields a) ≡ Some a
one_again a p = ap (λ o. with o (λ x. alone x.0 x.1)) (area_again a [] p)

-- a number that was taken from the front of some fields
abbrev before : List (List ℕ) → Option ℕ → Option (ℕ × List (List ℕ))
before fs o = option_map (λ n. (n, fs)) o

chance_area_again : (q : ℕ) (a : Area) → IsPrintedArea a → q ≤ 1000000000 → chance_form (chance_text q ∷ area_fields a) ≡ Some (q, a)
unfolding take_chance
chance_area_again q a p le =
    ap (λ o. with (before (area_fields a) o) (λ x. option_map (λ r. (x.0, r)) (one_area x.1))) (chance_again q le)
    ∙ ap (λ o. option_map (λ r. (q, r)) o) (one_again a p)

state_again : (name : List ℕ) (s : ℕ) → is_type_name name ≡ true → s < 2 ^ 72 → name_state (name ∷ hex 18 s ∷ []) ≡ Some (name, s)
unfolding name_state state_of one_field
state_again name s named small = rw (named, hex_hex 18 s small) refl

act_again : (a : ActLine) → IsPrintedAct a → act_form (act_fields a) ≡ Some a
unfolding act_form act_by_word one_field
act_again (clear a) p = ap (λ o. option_map clear o) (one_again a p)
act_again (put a name s) p =
    ap (λ o. with o (λ x. option_map (λ n. put x.0 n.0 n.1) (name_state x.1))) (area_again a (name ∷ hex 18 s ∷ []) p.0)
    ∙ ap (λ o. option_map (λ n. put a n.0 n.1) o) (state_again name s p.1 p.2)
act_again (erase q a) p = ap (λ o. option_map (λ c. erase c.0 c.1) o) (chance_area_again q a p.0 p.1)
act_again (flip q a) p = ap (λ o. option_map (λ c. flip c.0 c.1) o) (chance_area_again q a p.0 p.1)
act_again (attempts k) p = ap (λ o. option_map attempts o) (number_decimal k p)

repeated_again : (k : ℕ) (a : ActLine) → IsRepeated a → every_line k a ≡ Some (every k a)
repeated_again k (clear a) r = refl
repeated_again k (put a name s) r = refl
repeated_again k (erase q a) r = refl
repeated_again k (flip q a) r = refl
repeated_again k (attempts n) r = absurd r

form_again : (l : ChainLine) → IsPrinted l → form_of (line_fields l) ≡ Some l
unfolding form_of chain_form legs_form world_form_of take_number one_field
form_again header p = refl
form_again (plain (world_header v)) p = let none = p.1 in cc
form_again (plain (tiles a b)) p = ap (λ o. with o plain_line) (world_form_again (tiles a b) p.0)
form_again (plain (size a b)) p = ap (λ o. with o plain_line) (world_form_again (size a b) p.0)
form_again (plain (off t)) p = ap (λ o. with o plain_line) (world_form_again (off t) p.0)
form_again (plain (seed n)) p = ap (λ o. with o plain_line) (world_form_again (seed n) p.0)
form_again (plain (world_attempts k)) p = ap (λ o. with o plain_line) (world_form_again (world_attempts k) p.0)
form_again (plain (try t x y s)) p = let none = p.1 in cc
form_again (plain (atom x y name s)) p = ap (λ o. with o plain_line) (world_form_again (atom x y name s) p.0)
form_again (plain (order_seed n)) p = let none = p.1 in cc
form_again (plain (order ts)) p = let none = p.1 in cc
form_again (legs n) p = ap (λ o. option_map legs o) (number_decimal n p)
form_again (first f) p = ap (λ o. option_map first o) (number_decimal f p)
form_again (journal Whole) p = refl
form_again (journal Short) p = refl
form_again (journal (Counts q)) p = rw p refl
form_again (print q) p = ap (λ o. option_map print o) (number_decimal q p)
form_again (every k a) p =
    ap (λ o. with (before (act_fields a) o) (λ x. with (act_form x.1) (every_line x.0))) (number_decimal k p.0)
    ∙ ap (λ o. with o (every_line k)) (act_again a p.1) ∙ repeated_again k a p.2
form_again (act k a) p =
    ap (λ o. with (before (act_fields a) o) (λ x. option_map (act x.0) (act_form x.1))) (number_decimal k p.0)
    ∙ ap (λ o. option_map (act k) o) (act_again a p.1)

-- a line that was printed is read as itself
line_again : (l : ChainLine) → IsPrinted l → line_of (line_text (line_fields l)) ≡ Some l
line_again l p = ap form_of (words_again (line_fields l) (line_is l p)) ∙ form_again l p

not_skipped : (l : ChainLine) → is_skipped (line_text (line_fields l)) ≡ false
not_skipped header = refl
not_skipped (plain l) = world_not_skipped l
not_skipped (legs n) = refl
not_skipped (first f) = refl
not_skipped (journal j) = refl
not_skipped (print q) = refl
not_skipped (every k a) = refl
not_skipped (act k a) = refl

step_again : (n : ℕ) (d : ChainDraft) (l : ChainLine) → IsPrinted l → line_step n d (line_text (line_fields l)) ≡ step n d (Some l)
unfolding line_step
step_again n d l p = rw (not_skipped l, line_again l p) refl

lines_said : (n : ℕ) (d : ChainDraft) (ls : List ChainLine) → All IsPrinted ls → read_lines n d (map line_text (map line_fields ls)) ≡ draft_after_lines n d ls
unfolding read_lines draft_after_lines
lines_said n d [] p = refl
lines_said n d (l ∷ ls) p =
    rw (step_again n d l (All-head IsPrinted l ls p)) (on (λ e. lines_said (n + 1) e ls (All-tail IsPrinted l ls p)) (step n d (Some l)))
  where
    on : ((e : ChainDraft) → read_lines (n + 1) e (map line_text (map line_fields ls)) ≡ draft_after_lines (n + 1) e ls) → (r : Result ChainDraft ℕ) →
        go_on n r (λ e. read_lines (n + 1) e (map line_text (map line_fields ls))) ≡ go_on n r (λ e. draft_after_lines (n + 1) e ls)
    on again (Ok e) = again e
    on again (Err code) = refl

pub lines_are : (ls : List ChainLine) → All IsPrinted ls → All IsClear (map line_fields ls)
lines_are [] p = All-nil _
lines_are (l ∷ ls) p = All-cons IsClear (line_fields l) (map line_fields ls) (line_is l (All-head IsPrinted l ls p)) (lines_are ls (All-tail IsPrinted l ls p))

-- a printed text says what its lines say
pub text_again : (ls : List ChainLine) → All IsPrinted ls → read_text (lines_text ls) ≡ draft_after_lines 1 nothing_said ls
unfolding read_text
text_again ls p = ap (λ ts. read_lines 1 nothing_said ts) (texts_again (map line_fields ls) (lines_are ls p)) ∙ lines_said 1 nothing_said ls p
