-- What the reads and writes of one hold reveal, in order.
use Rattle.std.specs.Prelude.{ℕ, ◌≡◌, ◌==◌, Bool, true, false, if◌then◌else◌, List, [], ◌∷◌, ◌++◌, Option, Some}
use Rattle.edge_lock.specs.declared.history.Access.{Access}
use Rattle.edge_lock.specs.declared.history.Access.TheVariants.{Read, Write}
use Rattle.edge_lock.specs.declared.history.Hold.{Hold}
use Rattle.edge_lock.specs.EndValues.{EndValue}
use Rattle.edge_lock.specs.EndLists.{EndLists, end_lists, hold_of, change_last, known_value, Shows, replace_at}

-- the value of the last write to the register, if `start` was written before
abbrev pub last_write : List Access → ℕ → Option ℕ → Option ℕ
last_write [] register start = start
last_write (Read at value ∷ accesses) register start = last_write accesses register start
last_write (Write at value ∷ accesses) register start = last_write accesses register (if register == at then Some value else start)

-- whether there is a read of the register
abbrev pub is_read : List Access → ℕ → Bool
is_read [] register = false
is_read (Read at value ∷ accesses) register = if register == at then true else is_read accesses register
is_read (Write at value ∷ accesses) register = is_read accesses register

-- there are only writes
abbrev pub reads_nothing : List Access → Bool
reads_nothing [] = true
reads_nothing (Read at value ∷ accesses) = false
reads_nothing (Write at value ∷ accesses) = reads_nothing accesses

-- the register, with a value that is known now
abbrev pub with_known : (ℕ → Option ℕ) → ℕ → ℕ → ℕ → Option ℕ
with_known known at value register = if register == at then Some value else known register

-- each read gives what is known of its register
abbrev pub IsHonest : (ℕ → Option ℕ) → List Access → Type 0
IsHonest known [] = Unit {0}
IsHonest known (Read at value ∷ accesses) = Shows (known at) value × IsHonest (with_known known at value) accesses
IsHonest known (Write at value ∷ accesses) = IsHonest (with_known known at value) accesses

-- the hold with more accesses
abbrev pub with_all : List Access → Hold → Hold
with_all more hold = hold_of hold.end hold.attempt (hold.accesses ++ more) hold.is_open

-- the lists with more accesses in the last hold
abbrev pub after_all : List Access → EndLists → EndLists
after_all more lists = end_lists (change_last (with_all more) lists.holds) lists.refusals

-- the open hold of an edge has these accesses more, and nothing else changed
pub record Adds (old new : ℕ → EndLists) (edge : ℕ) (more : List Access) : Type 0 where
  pub lists : new ≡ replace_at old edge (after_all more (old edge))
  pub honest : IsHonest (known_value (old edge)) more

-- the open hold of an edge has some accesses more, of this kind, and no other list of the end changed
abbrev pub AddsSome : ℕ → (List Access → Type 0) → EndValue → EndValue → Type 0
AddsSome edge P old new = (more : List Access) × Adds old.lists new.lists edge more × P more
