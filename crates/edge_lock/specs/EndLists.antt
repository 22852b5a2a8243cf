-- What one end of an edge did, as two lists, and what a board's calls do to them.
use Rattle.std.specs.Prelude.{◌≡◌, ℕ, ◌<◌, ◌==◌, Bool, true, false, List, [], ◌∷◌, ◌++◌, All, Option, Some, None, if◌then◌else◌}
use Rattle.edge_lock.specs.declared.board.Take.{Take}
use Rattle.edge_lock.specs.declared.board.Take.TheVariants.{Got, Busy}
use Rattle.edge_lock.specs.declared.history.Access.{Access}
use Rattle.edge_lock.specs.declared.history.Access.TheVariants.{Read, Write}
use Rattle.edge_lock.specs.declared.history.Hold.{Hold}
use Rattle.edge_lock.specs.declared.history.Refusal.{Refusal}

-- a hold with these reads and writes
abbrev pub hold_of : ℕ → ℕ → List Access → Bool → Hold
hold_of end attempt accesses is_open = record { end = end; attempt = attempt; accesses = accesses; is_open = is_open }

-- a hold that has just begun
abbrev pub new_hold : ℕ → ℕ → Hold
new_hold end attempt = hold_of end attempt [] true

abbrev pub refusal_of : ℕ → ℕ → Refusal
refusal_of attempt holder = record { attempt = attempt; holder = holder }

-- the hold with one more access
abbrev pub with_access : Access → Hold → Hold
with_access access hold = hold_of hold.end hold.attempt (hold.accesses ++ access ∷ []) hold.is_open

-- the hold after the edge was given back
abbrev pub closed_hold : Hold → Hold
closed_hold hold = hold_of hold.end hold.attempt hold.accesses false

-- the list with its last hold changed
abbrev pub change_last : (Hold → Hold) → List Hold → List Hold
change_last change [] = []
change_last change (hold ∷ []) = change hold ∷ []
change_last change (hold ∷ next ∷ holds) = hold ∷ change_last change (next ∷ holds)

-- whether the last hold is open
abbrev pub is_last_open : List Hold → Bool
is_last_open [] = false
is_last_open (hold ∷ []) = hold.is_open
is_last_open (hold ∷ next ∷ holds) = is_last_open (next ∷ holds)

-- the accesses of the last hold
abbrev pub last_accesses : List Hold → List Access
last_accesses [] = []
last_accesses (hold ∷ []) = hold.accesses
last_accesses (hold ∷ next ∷ holds) = last_accesses (next ∷ holds)

-- what the last read or write of the register showed, if `start` was known before
abbrev pub last_shown : List Access → ℕ → Option ℕ → Option ℕ
last_shown [] register start = start
last_shown (Read at value ∷ accesses) register start = last_shown accesses register (if register == at then Some value else start)
last_shown (Write at value ∷ accesses) register start = last_shown accesses register (if register == at then Some value else start)

-- if a value is known, it is this one
abbrev pub Shows : Option ℕ → ℕ → Type 0
Shows None value = Unit {0}
Shows (Some known) value = value ≡ known

abbrev pub writes_nothing : List Access → Bool
writes_nothing [] = true
writes_nothing (Read at value ∷ accesses) = writes_nothing accesses
writes_nothing (Write at value ∷ accesses) = false

-- one end's own holds and refusals on one edge, each in order
pub record EndLists : Type 0 where
  pub holds : List Hold
  pub refusals : List Refusal

abbrev pub end_lists : List Hold → List Refusal → EndLists
end_lists holds refusals = record { holds = holds; refusals = refusals }

-- the lists with one more hold
abbrev pub with_hold : EndLists → Hold → EndLists
with_hold lists hold = end_lists (lists.holds ++ hold ∷ []) lists.refusals

-- the end has the edge
abbrev pub IsHeld : EndLists → Type 0
IsHeld lists = is_last_open lists.holds ≡ true

-- the end does not have the edge
abbrev pub IsFree : EndLists → Type 0
IsFree lists = is_last_open lists.holds ≡ false

abbrev pub IsHoldBelow : ℕ → Hold → Type 0
IsHoldBelow attempt hold = hold.attempt < attempt

abbrev pub IsRefusalBelow : ℕ → Refusal → Type 0
IsRefusalBelow attempt refusal = refusal.attempt < attempt

-- the attempt is greater than each that this end tried before
pub record IsNew (attempt : ℕ) (lists : EndLists) : Type 0 where
  pub holds : All (IsHoldBelow attempt) lists.holds
  pub refusals : All (IsRefusalBelow attempt) lists.refusals

-- the lists after an end's attempt got this answer
abbrev pub after_try : ℕ → ℕ → Take → EndLists → EndLists
after_try end attempt Got lists = with_hold lists (new_hold end attempt)
after_try end attempt (Busy holder) lists = end_lists lists.holds (lists.refusals ++ refusal_of attempt holder ∷ [])

-- the lists after a read or write in the open hold
abbrev pub after_access : Access → EndLists → EndLists
after_access access lists = end_lists (change_last (with_access access) lists.holds) lists.refusals

-- the lists after the edge was given back
abbrev pub after_give : EndLists → EndLists
after_give lists = end_lists (change_last closed_hold lists.holds) lists.refusals

-- what the last read or write of the register in the last hold showed
abbrev pub known_value : EndLists → ℕ → Option ℕ
known_value lists register = last_shown (last_accesses lists.holds) register None

-- nothing was written in the last hold
abbrev pub HasNoWrite : EndLists → Type 0
HasNoWrite lists = writes_nothing (last_accesses lists.holds) ≡ true

-- the lists of all edges, with those of one edge replaced
abbrev pub replace_at : (ℕ → EndLists) → ℕ → EndLists → ℕ → EndLists
replace_at lists edge other i = if i == edge then other else lists i
