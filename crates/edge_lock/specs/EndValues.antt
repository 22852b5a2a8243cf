-- What contracts see of one tile's end of its edges, and what calls of a board do to it.
use Rattle.std.specs.Prelude.{◌≡◌, ℕ}
use Rattle.edge_lock.specs.declared.board.Take.{Take}
use Rattle.edge_lock.specs.EndLists.{EndLists, after_try, replace_at}

-- The tile whose end it is. By an edge's number: how many registers it has, or 0 if it is not an
-- edge of the tile; which end of it the tile is, 0 or 1, if it is one of the tile's; and what this end did on it.
pub record EndValue : Type 0 where
  pub tile : ℕ
  pub registers : ℕ → ℕ
  pub end_of : ℕ → ℕ
  pub lists : ℕ → EndLists

abbrev pub end_value : ℕ → (ℕ → ℕ) → (ℕ → ℕ) → (ℕ → EndLists) → EndValue
end_value tile registers end_of lists = record { tile = tile; registers = registers; end_of = end_of; lists = lists }

-- the tile and its edges stay
abbrev pub SameEnd : EndValue → EndValue → Type 0
SameEnd old new = (new.tile ≡ old.tile) × (new.registers ≡ old.registers) × (new.end_of ≡ old.end_of)

-- the lists of this one edge changed like this, and everything else stays
pub record ChangesAt (edge : ℕ) (change : EndLists → EndLists) (old new : EndValue) : Type 0 where
  pub lists : new.lists ≡ replace_at old.lists edge (change (old.lists edge))
  pub same : SameEnd old new

-- the end tried to take the edge, by this attempt, and got this answer
abbrev pub HasTried : ℕ → ℕ → Take → EndValue → EndValue → Type 0
HasTried edge attempt answer old new = ChangesAt edge (after_try (old.end_of edge) attempt answer) old new
