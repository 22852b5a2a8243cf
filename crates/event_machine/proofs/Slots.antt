-- The slots of a function that begins.
use Rattle.std.proofs.Common.{◌≡◌, ℕ, ◌+◌, ◌<◌, ◌≤◌, ◌∙◌, List, [], ◌∷◌, ◌++◌, length, get_or, take, drop, refl, sym, ap, arith}
use Rattle.std.specs.Prelude.{map, reverse}
use Rattle.std.proofs.lemmas.List.{append_assoc, drop_more, length-reverse, length-take}
use Rattle.datum.specs.declared.Datum.{Datum}
use Rattle.stack_code.specs.declared.instr.Operand.{Operand}
use Rattle.stack_code.specs.Machine.{fill, fresh}

fresh_is : (args : List Datum) (ks : List Operand) (n : ℕ) → n ≡ length args → n ≤ length ks → args ++ map fill (drop n ks) ≡ fresh args ks
fresh_is [] ks n e h = rw e refl
fresh_is (x ∷ args) [] n e h = absurd (omega arith)
fresh_is (x ∷ args) (k ∷ ks) n e h = rw e (ap (λ l. x ∷ l) (fresh_is args ks (length args) refl (omega arith)))

-- arguments from the topmost operands, and the other slots
pub fresh_filled : (st : List Datum) (ks : List Operand) (n : ℕ) → n ≤ length st → n ≤ length ks → reverse (take n st) ++ map fill (drop n ks) ≡ fresh (reverse (take n st)) ks
fresh_filled st ks n h g = fresh_is (reverse (take n st)) ks n (omega (arith, length-reverse (take n st), length-take n st)) g

-- one more slot is filled
pub fill_more : (i : ℕ) (ks : List Operand) (out new whole : List Datum) (x : Datum) (d : Operand)
    → i < length ks → x ≡ fill (get_or ks i d) → new ≡ out ++ x ∷ [] → out ++ map fill (drop i ks) ≡ whole
    → new ++ map fill (drop (i + 1) ks) ≡ whole
fill_more i ks out new whole x d lt is e so_far =
    let rest = map fill (drop (i + 1) ks) in
    let next : map fill (drop i ks) ≡ x ∷ rest = ap (map fill) (drop_more ks i d lt)
    ∙ ap (λ y. y ∷ rest) (sym is) in
    ap (λ l. l ++ rest) e ∙ append_assoc out (x ∷ []) rest ∙ ap (λ l. out ++ l) (sym next) ∙ so_far
