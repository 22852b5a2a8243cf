-- Wrong lists of functions, which the law of first calls refuses. The first function calls two others, one after the other.
use Rattle.std.proofs.Common.{◌≡◌, ℕ, zero, suc, ◌<◌, List, [], ◌∷◌, Some, refl, sym, ap, subst, arith, ◌⊎◌, inl, inr}
use Rattle.std.specs.Prelude.{slice_get, Contains}
use Rattle.code_gen.specs.Pieces.{Key}
use Rattle.code_gen.specs.Drafts.{Drafts, key_piece}
use Rattle.code_gen.specs.FirstCalls.{calls, all_calls, AreByFirstCall}
use Rattle.list_laws.proofs.Members.{contains_in}

abbrev key : (function : ℕ) → Key
key function = record { class = 0; function = function; base = 0 }

apart : (m n : ℕ) → Some (key m) ≡ Some (key n) → m ≡ n
apart m n e = let same : key m ≡ key n = cc in ap (λ (k : Key). k.function) same

module _ (g : Drafts) (two : calls (key_piece g (key 0)) ≡ key 1 ∷ key 2 ∷ []) (one : calls (key_piece g (key 1)) ≡ []) (no : calls (key_piece g (key 2)) ≡ []) where
  abbrev Refuses : List Key → Type 0
  Refuses fs = AreByFirstCall g (key 0) fs → ⊥

  -- the later call first
  turned : Refuses (key 0 ∷ key 2 ∷ key 1 ∷ [])
  turned x =
      let r = x.order 0 1 1 0 (key 2) (key 1) (omega arith) refl refl
      (rw (two, one, no) (record { here = refl; not_before = none_before }))
      (rw (two, one, no) (record { here = refl; not_before = λ j lt e. absurd (omega (arith, lt)) })) in
      absurd (omega (arith, r))
    where
      none_before : (j : ℕ) → j < 1 → slice_get (key 1 ∷ key 2 ∷ []) j ≡ Some (key 2) → ⊥
      none_before zero lt e = let d = apart 1 2 e in absurd (omega (arith, d))
      none_before (suc j) lt e = absurd (omega (arith, lt))

  -- one function twice
  twice : Refuses (key 0 ∷ key 1 ∷ key 2 ∷ key 1 ∷ [])
  twice x = let d = x.once 1 3 (key 1) refl refl in absurd (omega (arith, d))

  -- the first one not in front
  behind : Refuses (key 1 ∷ key 0 ∷ key 2 ∷ [])
  behind x = let d = apart 1 0 x.first in absurd (omega (arith, d))

  -- a called one left out
  left_out : Refuses (key 0 ∷ key 1 ∷ [])
  left_out x =
      let c : Contains (key 1 ∷ key 2 ∷ []) (key 2) = (1, omega arith, refl) in
      let called : all_calls g (key 0 ∷ key 1 ∷ []) ≡ key 1 ∷ key 2 ∷ [] = rw (two, one) refl in
      none_there (contains_in (key 0 ∷ key 1 ∷ []) (key 2) (x.whole (key 2) (subst (λ l. Contains l (key 2)) (sym called) c)))
    where
      none_there : ((key 2 ≡ key 0) ⊎ ((key 2 ≡ key 1) ⊎ ⊥)) → ⊥
      none_there (inl e) = let d = apart 2 0 (ap Some e) in absurd (omega (arith, d))
      none_there (inr (inl e)) = let d = apart 2 1 (ap Some e) in absurd (omega (arith, d))
      none_there (inr (inr e)) = e

  -- one that nobody calls
  stray : Refuses (key 0 ∷ key 1 ∷ key 2 ∷ key 3 ∷ [])
  stray x =
      let called : all_calls g (key 0 ∷ key 1 ∷ key 2 ∷ []) ≡ key 1 ∷ key 2 ∷ [] = rw (two, one, no) refl in
      none_there (contains_in (key 1 ∷ key 2 ∷ []) (key 3) (subst (λ l. Contains l (key 3)) called (x.called 2 (key 3) refl)))
    where
      none_there : ((key 3 ≡ key 1) ⊎ ((key 3 ≡ key 2) ⊎ ⊥)) → ⊥
      none_there (inl e) = let d = apart 3 1 (ap Some e) in absurd (omega (arith, d))
      none_there (inr (inl e)) = let d = apart 3 2 (ap Some e) in absurd (omega (arith, d))
      none_there (inr (inr e)) = e
