-- The grids that the events of reports leave, leg by leg.
use Rattle.std.specs.Prelude.{ℕ, zero, suc, ◌+◌, ◌-◌, List, [], ◌∷◌, length, nat_le, sum_by, take, if◌then◌else◌}
use Rattle.cell_grid.specs.Grid.{GridValue}
use Rattle.cell_grid.specs.Records.{replay}
use Rattle.chain_run.specs.Judging.{grid_said}
use Rattle.chain_run.specs.Legs.{Making}
use Rattle.chain_run.specs.Reading.{LegSaid}

-- the grid that legs with the numbers from k on leave by their reports, if this one was there before the first
unfoldable pub grid_behind : Making → ℕ → GridValue → List LegSaid → GridValue
grid_behind c k g [] = g
grid_behind c k g (l ∷ ls) = grid_behind c (k + 1) (grid_said c k g l) ls

-- how many events all reports have
abbrev pub events_in : List LegSaid → ℕ
events_in ls = sum_by (λ (l : LegSaid). length l.entries.records) ls

-- the grid after the first n events of all legs with the numbers from k on: legs before the one that has event n are made whole, and
-- of that leg its acts and its events up to this one; what comes behind is not made
unfoldable pub grid_amid : Making → ℕ → GridValue → List LegSaid → ℕ → GridValue
grid_amid c k g [] n = g
grid_amid c k g (l ∷ ls) n =
    if nat_le n (length l.entries.records) then replay c.meaning (c.acts k g) (take n l.entries.records)
    else grid_amid c (k + 1) (grid_said c k g l) ls (n - length l.entries.records)

-- the same, but before the first event not even the acts before the first leg are done
abbrev pub grid_at : Making → ℕ → GridValue → List LegSaid → ℕ → GridValue
grid_at c k g ls zero = g
grid_at c k g ls (suc n) = grid_amid c k g ls (suc n)
