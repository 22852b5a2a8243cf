-- Parts of a text that are put one after another.
use Rattle.std.proofs.Common.{ℕ, ◌≡◌, ◌+◌, ◌<◌, List, [], ◌++◌, drop, get_or, length, set, sym, ap, arith, ◌∙◌}
use Rattle.std.proofs.lemmas.List.{at_drop_more, drop-set-lt}
use lib.Seq.{drop-drop}
use Rattle.event_journal.specs.Merged.{concat}

-- lists that are equal from one place on are so from the next on
drop_next : (k : ℕ) (xs ys : List (List ℕ)) → drop k xs ≡ drop k ys → drop (k + 1) xs ≡ drop (k + 1) ys
drop_next k xs ys same = sym (drop-drop 1 k xs) ∙ ap (drop 1) same ∙ drop-drop 1 k ys

-- the text of the parts from one on, by that part
pub next_part : (k : ℕ) (now old : List (List ℕ)) (part : List ℕ) → k < length now → drop k now ≡ drop k old → get_or now k [] ≡ part
    → concat (drop k old) ≡ part ++ concat (drop (k + 1) old)
next_part k now old part lt same is =
    ap concat (sym same) ∙ at_drop_more concat now k [] lt ∙ ap (λ z. z ++ concat (drop (k + 1) now)) is
    ∙ ap (λ z. part ++ concat z) (drop_next k now old same)

-- that part has changed
pub still_same : (k : ℕ) (now old : List (List ℕ)) (part : List ℕ) → drop k now ≡ drop k old → drop (k + 1) (set now k part) ≡ drop (k + 1) old
still_same k now old part same = drop-set-lt (k + 1) now k part (omega arith) ∙ drop_next k now old same
