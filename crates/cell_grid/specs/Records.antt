-- The events that took place: their order, and their replay.
use Rattle.std.specs.Prelude.{ℕ, ◌≡◌, ◌<◌, ◌⊎◌, List, [], ◌∷◌}
use Rattle.window_sites.specs.Window.{WindowValue}
use Rattle.cell_grid.specs.Grid.{GridValue, event}
use Rattle.cell_grid.specs.declared.record.Record.{Record}

-- a record that stands before another: its stamp is smaller, or at equal stamps its tile
abbrev pub Precedes : Record → Record → Type 0
Precedes r s = (r.stamp < s.stamp) ⊎ ((r.stamp ≡ s.stamp) × (r.tile < s.tile))

-- the events of the records, one after another
abbrev pub replay : (WindowValue → ℕ → WindowValue) → GridValue → List Record → GridValue
replay after g [] = g
replay after g (r ∷ rs) = replay after (event after g r.x r.y r.seed) rs
