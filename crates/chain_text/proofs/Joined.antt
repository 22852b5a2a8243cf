-- The lines and fields of a printed chain are those that were printed. Unlike the fields of a world they may have points.
use Rattle.std.proofs.Common.{ℕ, ◌≡◌, ◌≢◌, ◌-◌, ◌<◌, ◌≤◌, ◌==◌, Bool, true, false, List, [], ◌∷◌, ◌++◌, All, length, get_or, map, nat_le, refl, ap, ◌∙◌, append_assoc, arith}
use Rattle.std.specs.List.{list_all}
use Rattle.std.proofs.lemmas.List.{append-nil}
use Rattle.std.proofs.lemmas.List.Elements.{All-append, All-cons, All-head, All-tail}
use Rattle.list_laws.proofs.Tests.{both}
use Rattle.text_lines.specs.Fields.{Lacks, fields}
use Rattle.text_lines.specs.Lines.{lines, without_cr, line_text, more_text, text_of}
use Rattle.text_lines.specs.Printed.{is_field, is_high}
use Rattle.text_lines.proofs.Cuts.{fields_ended, fields_whole, lines_ended, lines_none}

-- a point, or a byte that is not below the digits
abbrev pub is_clear : ℕ → Bool
is_clear b = nat_le 46 b

abbrev pub is_word : List ℕ → Bool
is_word f = list_all is_clear f

-- a line has a field, and each field is clear
pub record IsClear (fields : List (List ℕ)) : Type 0 where
  pub some : 1 ≤ length fields
  pub words : list_all is_word fields ≡ true

pub high_word : (f : List ℕ) → is_field f ≡ true → is_word f ≡ true
high_word [] h = refl
high_word (b ∷ bs) h =
    let p = both (is_high b) (list_all is_high bs) h in
    rw (one b p.0, high_word bs p.1) refl
  where
    one : (b : ℕ) → is_high b ≡ true → is_clear b ≡ true
    one b h = grind arith

pub high_words : (fs : List (List ℕ)) → list_all is_field fs ≡ true → list_all is_word fs ≡ true
high_words [] h = refl
high_words (f ∷ fs) h = let p = both (is_field f) (list_all is_field fs) h in rw (high_word f p.0, high_words fs p.1) refl

-- clear bytes are none that is low
word_lacks : (xs : List ℕ) (end : ℕ) → is_word xs ≡ true → end < 46 → Lacks xs end
word_lacks [] end all low = λ i d lt. absurd (omega arith)
word_lacks (b ∷ bs) end all low =
    let h = both (is_clear b) (is_word bs) all in
    All-cons (λ v. v ≢ end) b bs (λ e. clear_not b end h.0 e low) (word_lacks bs end h.1 low)
  where
    clear_not : (b end : ℕ) → is_clear b ≡ true → b ≡ end → end < 46 → ⊥
    clear_not b end h e low = grind arith

-- a first field and others
words_joined : (word : List ℕ) (fs : List (List ℕ)) → is_word word ≡ true → list_all is_word fs ≡ true → fields (word ++ more_text fs) ≡ word ∷ fs
words_joined word [] a b = rw (append-nil word) (fields_whole word (word_lacks word 32 a (omega arith)))
words_joined word (f ∷ fs) a b =
    let h = both (is_word f) (list_all is_word fs) b in
    fields_ended word (f ++ more_text fs) (word ++ more_text (f ∷ fs)) (word_lacks word 32 a (omega arith)) refl
    ∙ ap (λ z. word ∷ z) (words_joined f fs h.0 h.1)

-- the fields of a printed line are those that were printed
pub words_again : (fs : List (List ℕ)) → IsClear fs → fields (line_text fs) ≡ fs
words_again [] line = absurd (let s = line.some in omega arith)
words_again (f ∷ fs) line = let h = both (is_word f) (list_all is_word fs) line.words in words_joined f fs h.0 h.1

-- no byte of a line is one of those below the space
more_lacks : (fs : List (List ℕ)) (end : ℕ) → list_all is_word fs ≡ true → end < 32 → Lacks (more_text fs) end
more_lacks [] end all low = λ i d lt. absurd (omega arith)
more_lacks (f ∷ fs) end all low =
    let h = both (is_word f) (list_all is_word fs) all in
    All-cons (λ v. v ≢ end) 32 (f ++ more_text fs) (λ e. omega (arith, e, low))
    (All-append (λ v. v ≢ end) f (more_text fs) (word_lacks f end h.0 (omega (arith, low))) (more_lacks fs end h.1 low))

line_lacks : (fs : List (List ℕ)) (end : ℕ) → list_all is_word fs ≡ true → end < 32 → Lacks (line_text fs) end
line_lacks [] end all low = λ i d lt. absurd (omega arith)
line_lacks (f ∷ fs) end all low =
    let h = both (is_word f) (list_all is_word fs) all in
    All-append (λ v. v ≢ end) f (more_text fs) (word_lacks f end h.0 (omega (arith, low))) (more_lacks fs end h.1 low)

-- no CR is dropped
kept_whole : (xs : List ℕ) → Lacks xs 13 → without_cr xs ≡ xs
unfolding without_cr
kept_whole [] lacks = refl
kept_whole (b ∷ bs) lacks =
    let other : (get_or (b ∷ bs) (length (b ∷ bs) - 1) 0 == 13) ≡ false = not_same (get_or (b ∷ bs) (length (b ∷ bs) - 1) 0) (lacks (length (b ∷ bs) - 1) 0 (omega arith)) in
    rw other refl
  where
    not_same : (b : ℕ) → b ≢ 13 → (b == 13) ≡ false
    not_same b h = grind (arith, h)

-- the lines of a printed text are those that were printed
pub texts_again : (ls : List (List (List ℕ))) → All IsClear ls → lines (text_of ls) ≡ map line_text ls
texts_again [] p = lines_none
texts_again (l ∷ ls) p =
    let words = (All-head IsClear l ls p).words in
    lines_ended (line_text l) (text_of ls) (text_of (l ∷ ls)) (line_lacks l 10 words (omega arith)) (append_assoc (line_text l) (10 ∷ []) (text_of ls))
    ∙ ap (λ z. z ∷ lines (text_of ls)) (kept_whole (line_text l) (line_lacks l 13 words (omega arith))) ∙ ap (λ z. line_text l ∷ z) (texts_again ls (All-tail IsClear l ls p))
