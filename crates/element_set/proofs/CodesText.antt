-- Codes under their names, as far as there are both.
use Rattle.std.proofs.Common.{ℕ, zero, suc, ◌≡◌, ◌+◌, ◌<◌, List, [], ◌∷◌, ◌++◌, length, drop, get_or, min, refl, sym, ap, ◌∙◌, arith}
use Rattle.std.proofs.lemmas.List.{drop_more}
use Rattle.stack_code.specs.Machine.{CodeValue}
use Rattle.stack_code.specs.Text as stack
use Rattle.element_set.specs.CodeText.{codes_text}

nothing_past : (k : ℕ) (cs : List CodeValue) → codes_text (drop k []) cs ≡ []
nothing_past zero cs = refl
nothing_past (suc k) cs = refl

-- nothing is left where names or codes are at their end
pub nothing_left : (ns : List (List ℕ)) (cs : List CodeValue) (k : ℕ) → k ≡ min (length ns) (length cs) → codes_text (drop k ns) (drop k cs) ≡ []
nothing_left [] cs k h = nothing_past k (drop k cs)
nothing_left (n ∷ ns) [] zero h = refl
nothing_left (n ∷ ns) [] (suc k) h = absurd (omega (arith, h))
nothing_left (n ∷ ns) (c ∷ cs) zero h = absurd (omega (arith, h))
nothing_left (n ∷ ns) (c ∷ cs) (suc k) h = nothing_left ns cs k (omega (arith, h))

-- what is left is the next code under its name, and those after it
pub next_left : (ns : List (List ℕ)) (cs : List CodeValue) (k : ℕ) (n : List ℕ) (c : CodeValue) → k < length ns → k < length cs →
    n ≡ get_or ns k n → c ≡ get_or cs k c →
    codes_text (drop k ns) (drop k cs) ≡ stack.code_text n c ++ codes_text (drop (k + 1) ns) (drop (k + 1) cs)
next_left ns cs k n c more_names more_codes name_is code_is =
    let names : drop k ns ≡ n ∷ drop (k + 1) ns =
    drop_more ns k n more_names ∙ ap (λ x. x ∷ drop (k + 1) ns) (sym name_is) in
    let codes : drop k cs ≡ c ∷ drop (k + 1) cs =
    drop_more cs k c more_codes ∙ ap (λ x. x ∷ drop (k + 1) cs) (sym code_is) in
    ap (λ xs. codes_text xs (drop k cs)) names ∙ ap (λ ys. codes_text (n ∷ drop (k + 1) ns) ys) codes
