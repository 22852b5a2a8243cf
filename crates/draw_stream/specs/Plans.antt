-- A plan gives each tile its list of attempts.
use Rattle.std.specs.Prelude.{ℕ, ◌≡◌, ◌≤◌, Bool, true, not, if◌then◌else◌, List, [], ◌∷◌, Option, Some, None, map, filter, length, sum_by, slice_index_or}
use Rattle.std.specs.List.{range_with_len}
use Rattle.draw_stream.specs.declared.attempt.Attempt.{Attempt}
use Rattle.draw_stream.specs.Attempts.{seeded_attempts}
use Rattle.feast_base.specs.declared.limits.TheConstants.{MOST_ATTEMPTS, MOST_TILES}

-- the attempts of each tile; for a seeded plan also its seed and how many attempts each tile that
-- is on draws
pub record PlanValue : Type 0 where
  pub lists : List (List Attempt)
  pub origin : Option (ℕ × ℕ)

-- the attempts of a tile
abbrev pub attempts : PlanValue → ℕ → List Attempt
attempts plan tile = slice_index_or plan.lists tile []

-- how many of some tiles are on, given a mark for each that says whether it is off
abbrev pub tiles_on : List Bool → ℕ
tiles_on off = length (filter not off)

-- how many attempts a tile draws: none if it is off
abbrev pub count_of : ℕ → List Bool → ℕ → ℕ
count_of count off tile = if slice_index_or off tile true then 0 else count

-- the attempts of each of these tiles
unfoldable pub seeded_lists : ℕ → ℕ → List Bool → ℕ → List (List Attempt)
seeded_lists seed count off sites = map (λ tile. seeded_attempts seed (count_of count off tile) sites tile) (range_with_len 0 (length off))

abbrev pub seeded : ℕ → ℕ → List Bool → ℕ → PlanValue
seeded seed count off sites = record { lists = seeded_lists seed count off sites; origin = Some (seed, count) }

-- attempts that are written out
abbrev pub scripted : List (List Attempt) → PlanValue
scripted lists = record { lists = lists; origin = None }

-- 1 to 64 tiles, and at most 1,000,000 attempts in total
pub record IsPlan (plan : PlanValue) : Type 0 where
  pub some : 1 ≤ length plan.lists
  pub most : length plan.lists ≤ MOST_TILES
  pub few : sum_by length plan.lists ≤ MOST_ATTEMPTS

-- what is taken from a list of attempts: the first, if there is one
abbrev pub TakesNext : List Attempt → Option Attempt → List Attempt → Type 0
TakesNext [] taken rest = (taken ≡ None) × (rest ≡ [])
TakesNext (first ∷ others) taken rest = (taken ≡ Some first) × (rest ≡ others)
