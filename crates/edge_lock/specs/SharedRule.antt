-- The rule over the table of an edge that two threads share, and what each step reveals to its
-- caller. Word 0 is the base's own, word 1 is the lock, word 2 counts the ends that are claimed, and
-- word 18 of the 35 is only loaded; all others are idle. The one slot has the registers. It is at home
-- while nobody has the edge, and otherwise out with the seat of the end that has it.
use Rattle.std.specs.Prelude.{◌≡◌, ◌≢◌, ℕ, ◌+◌, ◌-◌, ◌*◌, ◌/◌, ◌<◌, ◌==◌, true, List, [], ◌∷◌, ◌++◌, length, replicate, slice_index, slice_set, Option, Some, None, if◌then◌else◌}
use mathlib.Core.Option.{some}
use lib.ListN.{get_elem?}
use Rattle.atomic_table.specs.Table.{State, Me, Step}
use Rattle.edge_lock.specs.declared.history.Access.{Access}
use Rattle.edge_lock.specs.declared.history.Access.TheVariants.{Read, Write}
use Rattle.edge_lock.specs.declared.history.Hold.{Hold}
use Rattle.edge_lock.specs.declared.edge_steps.View.{View}
use Rattle.edge_lock.specs.declared.edge_steps.View.TheVariants.{First, Alone, Second, Paired, Joined, Settled, Spent}
use Rattle.edge_lock.specs.History.{own, open_hold, keys, site_count, IsAllowed, IsHistory, IsSide, IsEdgeHistory}
use Rattle.edge_lock.specs.RegistersNow.{AreNow}
use Rattle.edge_lock.specs.EndLists.{EndLists, end_lists, new_hold, refusal_of, with_access, closed_hold, change_last, is_last_open, known_value, IsHeld, Shows}

-- the lock word: 0 if nobody has the edge, otherwise the attempt and the end that have it
abbrev pub lock_word : Option Hold → ℕ
lock_word None = 0
lock_word (Some hold) = 1 + 2 * hold.attempt + hold.end

-- the attempt in a lock word
abbrev pub attempt_in : ℕ → ℕ
attempt_in word = (word - 1) / 2

-- how many ends a seat with this view has claimed
abbrev pub claims_of : View → ℕ
claims_of (First registers) = 0
claims_of (Alone registers) = 1
claims_of (Second registers) = 0
claims_of (Paired registers end holds refusals now) = 1
claims_of (Joined registers low low_refusals high high_refusals) = 2
claims_of (Settled all low_refusals high_refusals now) = 2
claims_of Spent = 0

abbrev pub claims : List View → ℕ
claims [] = 0
claims (view ∷ views) = claims_of view + claims views

-- the slot is at home, with the values of this many registers after these holds
pub record IsAtHome (count : ℕ) (holds : List Hold) (homes : List (mathlib.Core.Option.Option (List ℕ))) : Type 0 where
  pub now : List ℕ
  pub there : get_elem? homes 0 ≡ some (some now)
  pub are : AreNow count holds now

-- how far the seats of an edge are: not joined yet, joined, or joined with the slot out for good
pub data Stage : Type 0 where
  apart : Stage
  together : Stage
  done : Stage

-- What the rule says about the view of the seat `id`, one of this many seats. There is one history
-- of both ends, `holds`. A view before the split is the only one. After it seat 0 has end 0 and
-- seat 1 has end 1, and a view has its end's part, and the registers while the end has the edge.
-- After the join the view of seat 0 has both parts, and then the whole.
abbrev pub IsPart : Stage → List Hold → ℕ → ℕ → View → Type 0
IsPart stage holds count id (First registers) = (stage ≡ apart) × (count ≡ 1) × (holds ≡ [])
IsPart stage holds count id (Alone registers) = (stage ≡ apart) × (count ≡ 1) × (holds ≡ [])
IsPart stage holds count id (Second registers) = (stage ≡ apart) × (count ≡ 2) × (id ≡ 1) × (own 1 holds ≡ []) × IsSide (keys holds) 1 []
IsPart stage holds count id (Paired registers end mine refusals now) = (stage ≡ apart) × (count ≡ 2) × (id ≡ end) × (own end holds ≡ mine) × IsSide (keys holds) end refusals × (is_last_open mine ≡ true → AreNow registers holds now)
IsPart stage holds count id (Joined registers low low_refusals high high_refusals) = (stage ≡ together) × (id ≡ 0) × (own 0 holds ≡ low) × IsSide (keys holds) 0 low_refusals × (own 1 holds ≡ high) × IsSide (keys holds) 1 high_refusals
IsPart stage holds count id (Settled all low_refusals high_refusals now) = (stage ≡ done) × (all ≡ holds) × IsSide (keys holds) 0 low_refusals × IsSide (keys holds) 1 high_refusals
IsPart stage holds count id Spent = stage ≢ apart

-- the rule of an edge with this many registers: the words and the slot are those of one history,
-- and each view is a part of it
pub record IsShared (registers_count : ℕ) (s : State (List ℕ) View) : Type 0 where
  pub hs : List Hold
  pub stage : Stage
  pub history : IsHistory (site_count registers_count) hs
  pub long : length s.words ≡ 35
  pub lock : slice_index s.words 1 ≡ lock_word (open_hold hs)
  pub claimed : slice_index s.words 2 ≡ claims s.views
  pub room : length s.homes ≡ 1
  pub home : stage ≢ done → open_hold hs ≡ None → IsAtHome registers_count hs s.homes
  pub views : (id : ℕ) (view : View) → get_elem? s.views id ≡ some view → IsPart stage hs (length s.views) id view

abbrev Seated : Type 0
Seated = Me (List ℕ) View

abbrev Taken : Type 0
Taken = Step (List ℕ)

-- the lists of the end that has this view
abbrev pub lists_in : View → EndLists
lists_in (Paired registers end holds refusals now) = end_lists holds refusals
lists_in view = end_lists [] []

-- The number of registers, as far as the view keeps it. The views of the two ends carry it, since
-- the statement of a step can't read the table's key.
abbrev pub registers_in : View → ℕ
registers_in (First registers) = registers
registers_in (Alone registers) = registers
registers_in (Second registers) = registers
registers_in (Paired registers end holds refusals now) = registers
registers_in view = 0

-- what the registers have, as far as the view knows it
abbrev pub now_in : View → List ℕ
now_in (Paired registers end holds refusals now) = now
now_in (Settled all low_refusals high_refusals now) = now
now_in view = []

-- the slots that are out with a seat that has this view
abbrev pub slots_of : View → List (ℕ × List ℕ)
slots_of (Paired registers end holds refusals now) = if is_last_open holds then (0, now) ∷ [] else []
slots_of (Settled all low_refusals high_refusals now) = (0, now) ∷ []
slots_of view = []

-- the views of both seats after the split
abbrev pub low_view : View → View
low_view view = Paired (registers_in view) 0 [] [] (replicate (registers_in view) 0)

abbrev pub high_view : View → View
high_view view = Second (registers_in view)

abbrev pub claimed_by : View → View
claimed_by (First registers) = Alone registers
claimed_by (Second registers) = Paired registers 1 [] [] (replicate registers 0)
claimed_by view = view

-- an end is claimed
abbrev pub Claims : Taken → Seated → ℕ → Seated → Type 0
Claims step me word next = next ≡ (claimed_by me.0, me.1)

abbrev pub view_after_try : ℕ → ℕ → List ℕ → View → View
view_after_try attempt word found (Paired registers end holds refusals now) =
    if word == 0 then Paired registers end (holds ++ new_hold end attempt ∷ []) refusals found else Paired registers end holds (refusals ++ refusal_of attempt (attempt_in word) ∷ []) now
view_after_try attempt word found view = view

-- one exchange of the lock word: it found 0 and got the edge with its registers, or found the word
-- of the other end's hold
pub record Tries (step : Taken) (me : Seated) (word : ℕ) (next : Seated) : Type 0 where
  pub found : List ℕ
  pub long : length found ≡ registers_in me.0
  pub view : next.0 ≡ view_after_try (attempt_in step.second) word found me.0
  pub slots : next.1 ≡ slots_of next.0

abbrev pub view_after_change : (Hold → Hold) → List ℕ → View → View
view_after_change change found (Paired registers end holds refusals now) = Paired registers end (change_last change holds) refusals found
view_after_change change found view = view

-- the registers after a read or write
abbrev pub now_after : Access → List ℕ → List ℕ
now_after (Read register value) now = now
now_after (Write register value) now = slice_set now register value

-- the end that has this view has the edge
abbrev pub HasEdge : ℕ → View → Type 0
HasEdge registers view = (end : ℕ) × (view ≡ Paired registers end (lists_in view).holds (lists_in view).refusals (now_in view)) × IsHeld (lists_in view)

-- one of this many registers gave the value that it has, or takes a value that it may have
abbrev pub CanNote : ℕ → List ℕ → Access → Type 0
CanNote registers now (Read register value) = (register < registers) × (value ≡ slice_index now register)
CanNote registers now (Write register value) = (register < registers) × IsAllowed (site_count registers) register value

-- what a read reveals to the end that has these lists
abbrev pub IsShown : ℕ → EndLists → Access → Type 0
IsShown registers lists (Read register value) = Shows (known_value lists register) value × IsAllowed (site_count registers) register value
IsShown registers lists (Write register value) = Unit {0}

-- the end that has the edge read or wrote a register
pub record IsNoted (access : Access) (me next : Seated) : Type 0 where
  pub view : next.0 ≡ view_after_change (with_access access) (now_after access (now_in me.0)) me.0
  pub slots : next.1 ≡ me.1
  pub shown : IsShown (registers_in me.0) (lists_in me.0) access

-- the store of 0 to the lock word by the end that has the edge
abbrev pub GivesBack : Taken → Seated → ℕ → Seated → Type 0
GivesBack step me word next = next ≡ (view_after_change closed_hold (now_in me.0) me.0, [])

-- the view of the seat that keeps both ends' lists
abbrev pub both_of : View → View → View
both_of (Paired registers end low low_refusals now) (Paired same other high high_refusals found) = Joined registers low low_refusals high high_refusals
both_of view other = view

-- one list of holds that has those of each end in order, and is a history with both ends' refusals
pub record IsBoth (sites : ℕ) (low high : EndLists) (all : List Hold) : Type 0 where
  pub history : IsEdgeHistory sites all low.refusals high.refusals
  pub lower : own 0 all ≡ low.holds
  pub higher : own 1 all ≡ high.holds

-- the view of the one history of both ends, and what the registers have after it
pub record IsWhole (registers : ℕ) (low high : EndLists) (view : View) : Type 0 where
  pub all : List Hold
  pub now : List ℕ
  pub is : view ≡ Settled all low.refusals high.refusals now
  pub both : IsBoth (site_count registers) low high all
  pub are : AreNow registers all now

abbrev pub BecomesWhole : View → View → Type 0
BecomesWhole (Joined registers low low_refusals high high_refusals) view = IsWhole registers (end_lists low low_refusals) (end_lists high high_refusals) view
BecomesWhole other view = Unit {0}

-- the first load after the join: the view gets the one history of both ends, and the seat takes the registers
abbrev pub Settles : Taken → Seated → ℕ → Seated → Type 0
Settles step me word next = BecomesWhole me.0 next.0 × (next.1 ≡ slots_of next.0)
