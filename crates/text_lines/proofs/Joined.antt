-- The lines and fields of a printed text are those that were printed.
use Rattle.std.proofs.Common.{ℕ, ◌≡◌, ◌≢◌, ◌-◌, ◌==◌, Bool, true, false, List, [], ◌∷◌, ◌++◌, All, length, get_or, map, nat_le, refl, ap, sym, ◌∙◌, append_assoc, arith, Some}
use Rattle.std.specs.List.{list_all}
use Rattle.std.proofs.lemmas.List.{append-nil}
use Rattle.std.proofs.lemmas.List.Folds.{list_all-append}
use Rattle.std.proofs.lemmas.List.Elements.{All-head, All-tail, All-cons}
use Rattle.list_laws.proofs.Tests.{both}
use Rattle.text_lines.specs.Fields.{Lacks, fields}
use Rattle.text_lines.specs.Lines.{lines, without_cr, ended_lines, line_text, more_text, text_of}
use Rattle.text_lines.specs.Printed.{is_high, is_field, IsLine}
use Rattle.text_lines.proofs.Cuts.{fields_ended, fields_whole, lines_ended, lines_none, ended_at, ended_none}
use Rattle.text_lines.proofs.Digits.{passes}
use Rattle.text_lines.proofs.Printed.{high_lacks}

-- a first field and others
pub fields_joined : (word : List ℕ) (fs : List (List ℕ)) → is_field word ≡ true → list_all is_field fs ≡ true → fields (word ++ more_text fs) ≡ word ∷ fs
fields_joined word [] a b = rw (append-nil word) (fields_whole word (high_lacks word 32 a (omega arith)))
fields_joined word (f ∷ fs) a b =
    let h = both (is_field f) (list_all is_field fs) b in
    fields_ended word (f ++ more_text fs) (word ++ more_text (f ∷ fs)) (high_lacks word 32 a (omega arith)) refl
    ∙ ap (λ z. word ∷ z) (fields_joined f fs h.0 h.1)

-- the fields of a printed line are those that were printed
pub fields_again : (fs : List (List ℕ)) → IsLine fs → fields (line_text fs) ≡ fs
fields_again [] line = absurd (let s = line.some in omega arith)
fields_again (f ∷ fs) line = let h = both (is_field f) (list_all is_field fs) line.high in fields_joined f fs h.0 h.1

-- no byte below a space
abbrev is_clean : ℕ → Bool
is_clean b = nat_le 32 b

clean_of : (xs : List ℕ) → is_field xs ≡ true → list_all is_clean xs ≡ true
clean_of [] all = refl
clean_of (b ∷ bs) all =
    let h = both (is_high b) (list_all is_high bs) all in
    rw (one b h.0, clean_of bs h.1) refl
  where
    one : (b : ℕ) → is_high b ≡ true → is_clean b ≡ true
    one b h = grind arith

clean_more : (fs : List (List ℕ)) → list_all is_field fs ≡ true → list_all is_clean (more_text fs) ≡ true
clean_more [] all = refl
clean_more (f ∷ fs) all =
    let h = both (is_field f) (list_all is_field fs) all in
    list_all-append is_clean f (more_text fs) ∙ rw (clean_of f h.0, clean_more fs h.1) refl

line_clean : (fs : List (List ℕ)) → list_all is_field fs ≡ true → list_all is_clean (line_text fs) ≡ true
line_clean [] all = refl
line_clean (f ∷ fs) all =
    let h = both (is_field f) (list_all is_field fs) all in
    list_all-append is_clean f (more_text fs) ∙ rw (clean_of f h.0, clean_more fs h.1) refl

clean_lacks : (xs : List ℕ) → list_all is_clean xs ≡ true → Lacks xs 10
clean_lacks [] all = λ i d lt. absurd (omega arith)
clean_lacks (b ∷ bs) all =
    let h = both (is_clean b) (list_all is_clean bs) all in
    All-cons (λ v. v ≢ 10) b bs (λ e. clean_not b h.0 e) (clean_lacks bs h.1)
  where
    clean_not : (b : ℕ) → is_clean b ≡ true → b ≡ 10 → ⊥
    clean_not b h e = grind arith

clean_kept : (xs : List ℕ) → list_all is_clean xs ≡ true → without_cr xs ≡ xs
unfolding without_cr
clean_kept [] all = refl
clean_kept (b ∷ bs) all =
    let last = passes is_clean (b ∷ bs) (length (b ∷ bs) - 1) 0 all (omega arith) in
    let other : (get_or (b ∷ bs) (length (b ∷ bs) - 1) 0 == 13) ≡ false = clean_other (get_or (b ∷ bs) (length (b ∷ bs) - 1) 0) last in
    rw other refl
  where
    clean_other : (b : ℕ) → is_clean b ≡ true → (b == 13) ≡ false
    clean_other b h = grind arith

one_more : (l : List (List ℕ)) (ls : List (List (List ℕ))) → text_of (l ∷ ls) ≡ line_text l ++ 10 ∷ text_of ls
one_more l ls = append_assoc (line_text l) (10 ∷ []) (text_of ls)

-- the lines of a printed text are those that were printed
pub lines_again : (ls : List (List (List ℕ))) → All IsLine ls → lines (text_of ls) ≡ map line_text ls
lines_again [] p = lines_none
lines_again (l ∷ ls) p =
    let clean = line_clean l (All-head IsLine l ls p).high in
    lines_ended (line_text l) (text_of ls) (text_of (l ∷ ls)) (clean_lacks (line_text l) clean) (one_more l ls)
    ∙ ap (λ z. z ∷ lines (text_of ls)) (clean_kept (line_text l) clean) ∙ ap (λ z. line_text l ∷ z) (lines_again ls (All-tail IsLine l ls p))

-- and each has its LF
pub ended_again : (ls : List (List (List ℕ))) → All IsLine ls → ended_lines (text_of ls) ≡ map (λ l. Some (line_text l)) ls
ended_again [] p = ended_none
ended_again (l ∷ ls) p =
    ended_at (line_text l) (text_of ls) (text_of (l ∷ ls)) (clean_lacks (line_text l) (line_clean l (All-head IsLine l ls p).high)) (one_more l ls)
    ∙ ap (λ z. Some (line_text l) ∷ z) (ended_again ls (All-tail IsLine l ls p))

texts_one : (ls ms : List (List (List ℕ))) → All IsLine ls → All IsLine ms → map line_text ls ≡ map line_text ms → ls ≡ ms
texts_one [] [] p q e = refl
texts_one [] (m ∷ ms) p q e = cc
texts_one (l ∷ ls) [] p q e = cc
texts_one (l ∷ ls) (m ∷ ms) p q e =
    let head : line_text l ≡ line_text m = cc in
    let tail : map line_text ls ≡ map line_text ms = cc in
    let same = sym (fields_again l (All-head IsLine l ls p)) ∙ ap fields head ∙ fields_again m (All-head IsLine m ms q) in
    let more = texts_one ls ms (All-tail IsLine l ls p) (All-tail IsLine m ms q) tail in
    cc

-- printed texts that are equal have equal lines
pub text_one : (ls ms : List (List (List ℕ))) → All IsLine ls → All IsLine ms → text_of ls ≡ text_of ms → ls ≡ ms
text_one ls ms p q e = texts_one ls ms p q (sym (lines_again ls p) ∙ ap lines e ∙ lines_again ms q)
