-- Parameters behind the last.
use Rattle.std.proofs.Common.{◌≡◌, ◌⊎◌, inl, inr, ℕ, zero, suc, ◌<◌, ◌≤◌, refl, sym, ◌∙◌, List, [], ◌∷◌, length, map, drop, false, nat_eq, arith}
use Rattle.std.proofs.lemmas.Bool.{cases_lt, eq-eqb, ne_eqb}
use Rattle.std.proofs.lemmas.List.{at_drop_all}
use Rattle.ulam_tree.specs.RawViews.{param_of}
use Rattle.ulam_tree.specs.declared.raw.Param.{Param}
use Rattle.ulam_heirs.specs.Faults.{same_params}

some_left : (qs : List Param) (n : ℕ) → n < length qs → same_params [] (map param_of (drop n qs)) ≡ false
some_left [] n lt = absurd (omega (arith, lt))
some_left (q ∷ qs) zero lt = refl
some_left (q ∷ qs) (suc n) lt = some_left qs n (omega (arith, lt))

pub params_end : (qs : List Param) (n : ℕ) → n ≤ length qs → same_params [] (map param_of (drop n qs)) ≡ nat_eq n (length qs)
params_end qs n le = go (cases_lt n (length qs))
  where
    go : (n < length qs) ⊎ (length qs ≤ n) → same_params [] (map param_of (drop n qs)) ≡ nat_eq n (length qs)
    go (inl lt) = some_left qs n lt ∙ sym (ne_eqb n (length qs) (λ e. omega (arith, lt, e)))
    go (inr ge) = at_drop_all (λ (zs : List Param). same_params [] (map param_of zs)) qs n ge ∙ sym (eq-eqb n (length qs) (omega (arith, le, ge)))
