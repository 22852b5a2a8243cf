-- The bytes of a number, one after another.
use Rattle.std.proofs.Common.{ℕ, zero, suc, ◌≡◌, ◌-◌, ◌*◌, ◌/◌, ◌%◌, ◌^◌, ◌<◌, List, [], ◌∷◌, ◌++◌, refl, ap, sym, ◌∙◌, arith}
use Rattle.std.proofs.lemmas.List.{append-nil}
use Rattle.code_file.specs.Numbers.{be}

be_none : (n : ℕ) → be 0 n ≡ []
unfolding be
be_none n = refl

-- the greatest byte, and those below it
pub be_step : (w n : ℕ) → 0 < w → be w n ≡ n / 2 ^ (8 * (w - 1)) % 256 ∷ be (w - 1) n
unfolding be
be_step zero n h = absurd (omega arith)
be_step (suc j) n h = let e : suc j - 1 ≡ j = omega arith in rw e refl

-- where no byte is left, the number is whole
pub be_done : (out whole : List ℕ) (w n : ℕ) → w ≡ 0 → out ++ be w n ≡ whole → out ≡ whole
be_done out whole w n z h = sym (append-nil out) ∙ ap (λ y. out ++ y) (sym (be_none n)) ∙ ap (λ j. out ++ be j n) (sym z) ∙ h
