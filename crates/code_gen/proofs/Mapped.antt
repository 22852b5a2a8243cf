-- A list that grows by what a loop makes of the items of another.
use Rattle.std.proofs.Common.{◌≡◌, ℕ, ◌+◌, ◌<◌, length, List, [], ◌∷◌, ◌++◌, drop, get_or, ap, sym, ◌∙◌}
use Rattle.std.proofs.Common.{append_assoc}
use Rattle.std.proofs.lemmas.List.{drop_more}

-- one item more
pub one_mapped : {X Y : Type 0} (F : List X → List Y) (f : X → Y) (xs : List X) (i : ℕ) (x : X)
    (found new whole : List Y) → ((y : X) (ys : List X) → F (y ∷ ys) ≡ f y ∷ F ys) →
    i < length xs → x ≡ get_or xs i x → new ≡ found ++ (f x ∷ []) →
    found ++ F (drop i xs) ≡ whole → new ++ F (drop (i + 1) xs) ≡ whole
one_mapped F f xs i x found new whole s h e n w =
    let rest = drop (i + 1) xs in
    ap (λ l. l ++ F rest) n
    ∙ append_assoc found (f x ∷ []) (F rest)
    ∙ ap (λ l. found ++ l) (sym (s x rest))
    ∙ ap (λ y. found ++ F (y ∷ rest)) e
    ∙ sym (ap (λ l. found ++ F l) (drop_more xs i x h))
    ∙ w
