-- Numbers in a binary tree whose root has the least of them.
use Rattle.std.specs.Prelude.{ℕ, ◌≡◌, ◌≤◌, ◌<◌, ◌+◌, ◌*◌, List, length, min, slice_index_or}

-- the number that a node has
abbrev pub number_at : List ℕ → ℕ → ℕ
number_at nodes i = slice_index_or nodes i 0

-- a node has the lesser number of the two below it
abbrev pub HasLesser : List ℕ → ℕ → Type 0
HasLesser nodes i = number_at nodes i ≡ min (number_at nodes (2 * i)) (number_at nodes (2 * i + 1))

-- a tree of n leaves, which are the nodes from number n on
pub record IsTournament (n : ℕ) (nodes : List ℕ) : Type 0 where
  pub size : length nodes ≡ n + n
  pub inner : (i : ℕ) → 1 ≤ i → i < n → HasLesser nodes i

-- one of some numbers is the least of them
pub record IsLeast (least : ℕ) (numbers : List ℕ) : Type 0 where
  pub one : (k : ℕ) × (k < length numbers) × (slice_index_or numbers k 0 ≡ least)
  pub none_less : (k : ℕ) → k < length numbers → least ≤ slice_index_or numbers k 0
