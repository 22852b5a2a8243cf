-- What the registers of an edge have after its holds so far.
use Rattle.std.specs.Prelude.{◌≡◌, ℕ, ◌<◌, List, length, slice_index}
use Rattle.edge_lock.specs.declared.history.Hold.{Hold}
use Rattle.edge_lock.specs.History.{register_value}

-- these are the values of this many registers after these holds
pub record AreNow (count : ℕ) (holds : List Hold) (now : List ℕ) : Type 0 where
  pub long : length now ≡ count
  pub values : (register : ℕ) → register < count → slice_index now register ≡ register_value holds register
