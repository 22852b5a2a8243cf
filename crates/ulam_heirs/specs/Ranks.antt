-- Ranks of classes.
use Rattle.std.specs.Prelude.{ℕ, ◌≡◌, ◌<◌, ◌≤◌, ◌⊎◌, List, Option, Some, slice_index}
use Rattle.ulam_heirs.specs.Views.{base_in}

-- the rank of a class
abbrev pub rank : List ℕ → ℕ → ℕ
rank ranks k = slice_index ranks k

-- each base has a higher rank than its heirs, or at least the rank `top`
abbrev pub AreRanked : List (Option ℕ) → List ℕ → ℕ → Type 0
AreRanked bases ranks top = (k j : ℕ) → base_in bases k ≡ Some j → (rank ranks k < rank ranks j) ⊎ (top ≤ rank ranks j)

-- the same of one class, given its base
abbrev pub IsRanked : List ℕ → ℕ → ℕ → Option ℕ → Type 0
IsRanked ranks top k base = (j : ℕ) → base ≡ Some j → (rank ranks k < rank ranks j) ⊎ (top ≤ rank ranks j)
