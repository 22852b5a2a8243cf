-- A class whose rank is below one that is enough is not its own base.
use Rattle.std.proofs.Common.{◌≡◌, ℕ, zero, suc, ◌<◌, ◌≤◌, ◌⊎◌, inl, inr, refl, ap, List, Bool, true, false, ◌||◌, Option, Some, None, nat_eq, arith}
use Rattle.std.specs.List.{list_any}
use Rattle.std.specs.Option.{option_to_list}
use Rattle.std.proofs.lemmas.Bool.{false≢true, false_from_ne_true, eqb-true}
use Rattle.ulam_tree.specs.Ways.{leads}
use Rattle.ulam_heirs.specs.Views.{base_in}
use Rattle.ulam_heirs.specs.Ranks.{rank, AreRanked}
use Rattle.ulam_heirs.proofs.Walks.{above}

module _ (bs : List (Option ℕ)) (ranks : List ℕ) (top : ℕ) (ranked : AreRanked bs ranks top) where
  below : (k j : ℕ) → base_in bs k ≡ Some j → rank ranks j < top → rank ranks k < rank ranks j
  below k j e lt = by (ranked k j e)
    where
      by : (rank ranks k < rank ranks j) ⊎ (top ≤ rank ranks j) → rank ranks k < rank ranks j
      by (inl h) = h
      by (inr h) = absurd (omega (arith, h, lt))

  up : (m k goal : ℕ) → leads (above bs) m k goal ≡ true → rank ranks goal < top → rank ranks k < rank ranks goal
  unfolding leads
  up zero k goal e lt = absurd (false≢true e)
  up (suc m) k goal e lt = by (base_in bs k) refl e (λ j h. up m j goal h lt)
    where
      far : (j : ℕ) → base_in bs k ≡ Some j → (c : Bool) → leads (above bs) m j goal ≡ c → (c || false) ≡ true → (leads (above bs) m j goal ≡ true → rank ranks j < rank ranks goal) → rank ranks k < rank ranks goal
      far j is true e h more = let next : rank ranks j < rank ranks goal = more e in let less : rank ranks k < rank ranks j = below k j is (omega (arith, next, lt)) in omega (arith, next, less)
      far j is false e h more = absurd (false≢true h)

      on : (j : ℕ) → base_in bs k ≡ Some j → (b : Bool) → nat_eq j goal ≡ b → ((b || leads (above bs) m j goal) || false) ≡ true → (leads (above bs) m j goal ≡ true → rank ranks j < rank ranks goal) → rank ranks k < rank ranks goal
      on j is true same h more =
          let at : j ≡ goal = eqb-true j goal same in
          let near : rank ranks j ≡ rank ranks goal = ap (rank ranks) at in
          let less : rank ranks k < rank ranks j = below k j is (omega (arith, near, lt)) in
          omega (arith, near, less)
      on j is false other h more = far j is (leads (above bs) m j goal) refl h more

      by : (o : Option ℕ) → base_in bs k ≡ o → list_any (λ i. nat_eq i goal || leads (above bs) m i goal) (option_to_list o) ≡ true → ((j : ℕ) → leads (above bs) m j goal ≡ true → rank ranks j < rank ranks goal) → rank ranks k < rank ranks goal
      by None is h more = absurd (false≢true h)
      by (Some j) is h more = on j is (nat_eq j goal) refl h (more j)

  pub not_own : (m k : ℕ) → rank ranks k < top → leads (above bs) m k k ≡ false
  not_own m k lt = false_from_ne_true _ (λ e. let less : rank ranks k < rank ranks k = up m k k e lt in absurd (omega (arith, less)))
