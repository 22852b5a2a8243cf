use Rattle.std.proofs.Common.{◌≡◌, ◌<◌, ◌≤◌, ◌⊎◌, ℕ, Some}
use Rattle.ulam_heirs.specs.Views.{base_in}
use Rattle.ulam_heirs.specs.Ranks.{rank}
use Rattle.ulam_heirs.proofs.ranks.are_ranked.Given as goal

abbrev pub invariant-loop-base : goal.invariant-loop-base
invariant-loop-base l = record {
  ranked : (k j : ℕ) → k < l.class → base_in l.bases k ≡ Some j → (rank l.ranks k < rank l.ranks j) ⊎ (l.top ≤ rank l.ranks j);
  class : l.class ≡ l.base-index;
}
