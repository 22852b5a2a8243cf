-- What the workers of a list did, from what its only worker or its two halves did.
use Rattle.std.proofs.Common.{◌≡◌, ◌+◌, ◌<◌, ℕ, zero, suc, List, [], ◌∷◌, ◌++◌, length, arith}
use Rattle.std.specs.Prelude.{slice_set, slice_index_or}
use Rattle.tile_threads.specs.Runs.{EachDid}

module _ {W : Type 0} (did : W → W → Type 0) where
  pub only_did : (ws : List W) (d new : W) → length ws ≡ 1 → did (slice_index_or ws 0 d) new → EachDid did ws (slice_set ws 0 new)
  only_did [] d new one work k none lt = absurd (omega (arith, lt))
  only_did (x ∷ []) d new one work zero none lt = work
  only_did (x ∷ []) d new one work (suc k) none lt = absurd (omega (arith, lt))
  only_did (x ∷ y ∷ ws) d new one work k none lt = absurd (omega (arith, one))

  pub halves_did : (f b g d : List W) → length g ≡ length f → EachDid did f g → EachDid did b d → EachDid did (f ++ b) (g ++ d)
  halves_did [] b [] d same front back k none lt = back k none lt
  halves_did [] b (y ∷ g) d same front back k none lt = absurd (omega (arith, same))
  halves_did (x ∷ f) b [] d same front back k none lt = absurd (omega (arith, same))
  halves_did (x ∷ f) b (y ∷ g) d same front back zero none lt = front zero none (omega arith)
  halves_did (x ∷ f) b (y ∷ g) d same front back (suc k) none lt = halves_did f b g d (omega (arith, same)) (λ j other less. front (suc j) other (omega (arith, less))) back k none (omega (arith, lt))
