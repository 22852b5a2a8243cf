-- An end before its first call.
use Rattle.std.specs.Prelude.{ℕ, ◌≡◌, ◌<◌, []}
use Rattle.edge_lock.specs.EndLists.{end_lists}
use Rattle.edge_lock.specs.EndValues.{EndValue}

-- the edge is one of the end's tile, and the end has done nothing on it
abbrev pub IsUntouchedAt : ℕ → EndValue → Type 0
IsUntouchedAt edge end = (0 < end.registers edge) × (end.lists edge ≡ end_lists [] [])
