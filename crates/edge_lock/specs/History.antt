-- The history of one edge: who had it, what was read and written meanwhile, and who was refused.
-- An edge has two ends, 0 and 1. Its registers are words that only the end with the open hold reads and writes.
use Rattle.std.specs.Prelude.{◌≡◌, ℕ, ◌+◌, ◌-◌, ◌*◌, ◌/◌, ◌%◌, ◌<◌, ◌==◌, false, List, [], ◌∷◌, ◌++◌, map, filter, take, All, Option, Some, None, if◌then◌else◌}
use Rattle.bit_field.specs.Atom.{LeavesGap}
use Rattle.edge_lock.specs.declared.history.Access.{Access}
use Rattle.edge_lock.specs.declared.history.Access.TheVariants.{Read, Write}
use Rattle.edge_lock.specs.declared.history.Hold.{Hold}
use Rattle.edge_lock.specs.declared.history.Refusal.{Refusal}

-- the holds of one end, in order
abbrev pub own : ℕ → List Hold → List Hold
own end holds = filter (λ hold. hold.end == end) holds

-- all reads and writes of these holds, in order
abbrev pub trace : List Hold → List Access
trace [] = []
trace (hold ∷ holds) = hold.accesses ++ trace holds

-- what a register has after these accesses, if it had `start` before
abbrev pub last_value : List Access → ℕ → ℕ → ℕ
last_value [] register start = start
last_value (Read at value ∷ accesses) register start = last_value accesses register start
last_value (Write at value ∷ accesses) register start = last_value accesses register (if register == at then value else start)

-- a register after these holds; each is 0 at first
abbrev pub register_value : List Hold → ℕ → ℕ
register_value holds register = last_value (trace holds) register 0

-- a register after the first n holds
abbrev pub value_after : List Hold → ℕ → ℕ → ℕ
value_after holds count register = register_value (take count holds) register

-- each read gives the last value written to its register before it, or else 0
abbrev pub ReadsTrue : List Access → Type 0
ReadsTrue accesses = (before : List Access) (register value : ℕ) (rest : List Access) → accesses ≡ before ++ Read register value ∷ rest → value ≡ last_value before register 0

-- what a hold finds in a register: the value of its first read of it, made before any write to it
abbrev pub found_value : List Access → ℕ → Option ℕ
found_value [] register = None
found_value (Read at value ∷ accesses) register = if register == at then Some value else found_value accesses register
found_value (Write at value ∷ accesses) register = if register == at then None else found_value accesses register

-- how many shared sites an edge with this many registers has. One register is the clock; of the
-- others, every 64 sites take 130, and the sites that are left take two each and two more.
unfoldable pub site_count : ℕ → ℕ
site_count registers = let pairs = (registers - 1) / 2 in 64 * (pairs / 65) + (pairs % 65 - 1)

-- the second register of each shared site takes only words whose bits 7 to 15 are 0
abbrev pub IsAllowed : ℕ → ℕ → ℕ → Type 0
IsAllowed sites register value = (site : ℕ) → site < sites → register ≡ 2 + 2 * site → LeavesGap value

abbrev pub IsAllowedAccess : ℕ → Access → Type 0
IsAllowedAccess sites (Read register value) = Unit {0}
IsAllowedAccess sites (Write register value) = IsAllowed sites register value

-- only the last hold may be open
abbrev pub OnlyLastOpen : List Hold → Type 0
OnlyLastOpen [] = Unit {0}
OnlyLastOpen (hold ∷ []) = Unit {0}
OnlyLastOpen (hold ∷ next ∷ holds) = (hold.is_open ≡ false) × OnlyLastOpen (next ∷ holds)

-- the last hold, if it is open
abbrev pub open_hold : List Hold → Option Hold
open_hold [] = None
open_hold (hold ∷ []) = if hold.is_open then Some hold else None
open_hold (hold ∷ next ∷ holds) = open_hold (next ∷ holds)

-- whose hold it is: an end and its attempt
abbrev pub key : Hold → ℕ × ℕ
key hold = (hold.end, hold.attempt)

abbrev pub keys : List Hold → List (ℕ × ℕ)
keys holds = map key holds

-- the attempts by which one end got the edge
abbrev pub attempts_of : ℕ → List (ℕ × ℕ) → List ℕ
attempts_of end [] = []
attempts_of end (key ∷ keys) = if key.0 == end then key.1 ∷ attempts_of end keys else attempts_of end keys

-- each number is smaller than all that follow it
abbrev pub IsRising : List ℕ → Type 0
IsRising [] = Unit {0}
IsRising (number ∷ numbers) = All (λ later. number < later) numbers × IsRising numbers

abbrev pub refused_attempt : Refusal → ℕ
refused_attempt refusal = refusal.attempt

-- if the hold is the end's own, it comes before that end's attempt
abbrev pub IsBefore : ℕ → ℕ → ℕ × ℕ → Type 0
IsBefore end attempt key = key.0 ≡ end → key.1 < attempt

-- if the hold is the end's own, it comes after that end's attempt
abbrev pub IsAfter : ℕ → ℕ → ℕ × ℕ → Type 0
IsAfter end attempt key = key.0 ≡ end → attempt < key.1

-- A refusal names a hold of the other end. That hold lies after every hold of the refused end with a smaller attempt
-- and before every one with a greater attempt, and no hold of the refused end has the refused attempt.
pub record NamesHold (keys : List (ℕ × ℕ)) (end : ℕ) (refusal : Refusal) : Type 0 where
  pub before : List (ℕ × ℕ)
  pub after : List (ℕ × ℕ)
  pub splits : keys ≡ before ++ (1 - end, refusal.holder) ∷ after
  pub earlier : All (IsBefore end refusal.attempt) before
  pub later : All (IsAfter end refusal.attempt) after

-- one end's side of the history: the attempts of its holds rise, those of its refusals rise, and each refusal is placed
pub record IsSide (keys : List (ℕ × ℕ)) (end : ℕ) (refusals : List Refusal) : Type 0 where
  pub rise : IsRising (attempts_of end keys)
  pub refusals_rise : IsRising (map refused_attempt refusals)
  pub fits : All (NamesHold keys end) refusals

abbrev pub IsEnd : ℕ × ℕ → Type 0
IsEnd key = key.0 < 2

-- the holds of an edge with this many shared sites
pub record IsHistory (sites : ℕ) (holds : List Hold) : Type 0 where
  pub ends : All IsEnd (keys holds)
  pub only_last : OnlyLastOpen holds
  pub reads : ReadsTrue (trace holds)
  pub writes : All (IsAllowedAccess sites) (trace holds)

-- the whole history of an edge: the holds of both ends in one list, and the refusals of each end
pub record IsEdgeHistory (sites : ℕ) (all : List Hold) (low high : List Refusal) : Type 0 where
  pub holds : IsHistory sites all
  pub lower : IsSide (keys all) 0 low
  pub higher : IsSide (keys all) 1 high
