-- A tile has at most 8 edges: by one computation over all planes.
use Rattle.std.proofs.Common.{ℕ, ◌≡◌, ◌*◌, Bool, true, List, length, refl}
use Rattle.std.specs.Prelude.{nat_le, filter}
use Rattle.std.specs.List.{list_all, range_with_len}
use Rattle.tile_map.specs.Edges.{is_in_pair}
use Rattle.tile_map.specs.Neighbours.{near_pairs}

abbrev pub degree : ℕ → List (ℕ × ℕ) → ℕ
degree t ps = length (filter (is_in_pair t) ps)

abbrev pub are_few : List (ℕ × ℕ) → ℕ → Bool
are_few ps n = list_all (λ t. nat_le (degree t ps) 8) (range_with_len 0 n)

pub all_few : list_all (λ tx. list_all (λ ty. are_few (near_pairs (λ _. true) tx (tx * ty)) (tx * ty)) (range_with_len 1 8)) (range_with_len 1 8) ≡ true
all_few = refl

-- there are at most 210 edges
pub all_bounded : list_all (λ tx. list_all (λ ty. nat_le (length (near_pairs (λ _. true) tx (tx * ty))) 210) (range_with_len 1 8)) (range_with_len 1 8) ≡ true
all_bounded = refl
