-- What a walk has left to give.
use Rattle.std.specs.Prelude.{◌≡◌, List, [], ◌∷◌, MatchOption, Option}
use Rattle.cell_grid.specs.declared.record.Record.{Record}
use Rattle.event_journal.specs.declared.walk.Walk.{Walk}
use Rattle.event_journal.specs.Logs.{is_before}
use Rattle.event_journal.specs.Merged.{merged}

-- the records that a walk has left, in the order of the journal
abbrev pub rest_of : Walk → List Record
rest_of w = merged is_before w.merge

-- the answer is the first of what was left, and the others are left now; it is None where nothing was left
abbrev pub TakesFirst : List Record → Option Record → List Record → Type 0
TakesFirst old result new = MatchOption result ((old ≡ []) × (new ≡ [])) (λ r. old ≡ r ∷ new)
