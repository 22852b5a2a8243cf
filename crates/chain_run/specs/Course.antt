-- All that happens in a chain, one thing at a time, on one uncut grid.
use Rattle.std.specs.Prelude.{ℕ, ◌+◌, List, [], ◌∷◌, ◌++◌, fold, map}
use Rattle.cell_grid.specs.Grid.{GridValue, event}
use Rattle.cell_grid.specs.declared.record.Record.{Record}
use Rattle.chain_run.specs.Legs.{Leg, Making}

-- one thing that happens: the acts before a leg, or an event
pub data Item : Type 0 where
  acts_before : ℕ → Item
  event_of : Record → Item

-- what happens in legs with the numbers from k on: for each its acts, and then its events, in the order of its journal
unfoldable pub items_from : ℕ → List Leg → List Item
items_from k [] = []
items_from k (l ∷ ls) = acts_before k ∷ map event_of l.records ++ items_from (k + 1) ls

-- the grid after one thing has happened
abbrev pub after_item : Making → GridValue → Item → GridValue
after_item c g (acts_before k) = c.acts k g
after_item c g (event_of r) = event c.meaning g r.x r.y r.seed

-- the grid after some things have happened, one after another
abbrev pub played : Making → GridValue → List Item → GridValue
played c g items = fold (after_item c) g items
