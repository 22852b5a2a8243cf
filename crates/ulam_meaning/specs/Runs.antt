-- The state of a run, and how it ends.
use Rattle.std.specs.Prelude.{ℕ, zero, suc, nat_lt, nat_le, nat_eq, ℤ, pos, negsuc, List, [], ◌∷◌, Option, Some, None, slice_set, if◌then◌else◌}
use Rattle.bit_field.specs.Atom.{AtomValue}
use Rattle.window_sites.specs.Window.{WindowValue, atom_at, put_at, swap_at}
use Rattle.sat_math.specs.declared.NumType.{NumType}
use Rattle.sat_math.specs.Numbers.{cast}
use Rattle.datum.specs.declared.Datum.{Datum}
use Rattle.datum.specs.declared.Datum.TheVariants.{Number, Atom}
use Rattle.ulam_meaning.specs.Paths.{Key}

-- an event: the type number of the acting element, and the seed of the random words
pub record Event : Type 0 where
  pub acting : ℕ
  pub seed : ℕ

-- the state of a run: the locals by their slots, the window, how many random words are taken, and
-- how many turns are left
pub record Store : Type 0 where
  pub locals : List Datum
  pub window : WindowValue
  pub taken : ℕ
  pub turns : ℕ

-- The end of a run: it gives something, and leaves a store; the event fails; or, only in a program
-- without types, there is no meaning.
pub data Outcome (X : Type 0) : Type 0 where
  gives : (x : X) → (s : Store) → Outcome X
  fails : (n : ℕ) → Outcome X
  wrong : Outcome X

-- how a statement that does not fail ends; `return` has a value or none
pub data Way : Type 0 where
  goes_on : Way
  breaks : Way
  continues : Way
  returns : (v : Option Datum) → Way

-- what calls of functions do, with the values of their arguments: they give a value or none
abbrev pub Calls : Type 0
Calls = Key → List Datum → Store → Outcome (Option Datum)

-- Failures

-- no turn is left
abbrev pub turns_spent : ℕ
turns_spent = 1

-- calls nest too deep
abbrev pub too_deep : ℕ
too_deep = 2

-- a division by 0, or its remainder
abbrev pub divided_by_zero : ℕ
divided_by_zero = 3

-- a site number below 0 or above 40
abbrev pub no_such_site : ℕ
no_such_site = 4

-- a random number with a bound below 1, which does not exist
abbrev pub no_bound : ℕ
no_bound = 5

-- site 0 no longer has the acting type
abbrev pub lost_self : ℕ
lost_self = 6

-- an index below 0 or past the end of an array
abbrev pub no_such_index : ℕ
no_such_index = 7

-- Runs one after another

-- a run, and then another with what it gives
abbrev pub and_then : {X Y : Type 0} → Outcome X → (X → Store → Outcome Y) → Outcome Y
and_then (gives x s) next = next x s
and_then (fails n) next = fails n
and_then wrong next = wrong

-- what comes next, by how a statement ended
abbrev pub by_way : Way → Store → (Store → Outcome Way) → Outcome Way
by_way goes_on s next = next s
by_way breaks s next = gives breaks s
by_way continues s next = gives continues s
by_way (returns v) s next = gives (returns v) s

-- a statement, and the next one if it goes on
abbrev pub go_on : Outcome Way → (Store → Outcome Way) → Outcome Way
go_on r next = and_then r (λ way s. by_way way s next)

-- what comes next, by how the body of a loop ended
abbrev pub by_round : Way → Store → (Store → Outcome Way) → Outcome Way
by_round goes_on s next = next s
by_round continues s next = next s
by_round breaks s next = gives goes_on s
by_round (returns v) s next = gives (returns v) s

-- the body of a loop, and what follows a round: `continue` goes there too, and after `break` the loop is over
abbrev pub after_round : Outcome Way → (Store → Outcome Way) → Outcome Way
after_round r next = and_then r (λ way s. by_round way s next)

-- What a value must be

-- a number
abbrev pub on_number : {Y : Type 0} → Datum → (ℤ → Outcome Y) → Outcome Y
on_number (Number v) go = go v
on_number (Atom a) go = wrong

-- an atom
abbrev pub on_atom : {Y : Type 0} → Datum → (AtomValue → Outcome Y) → Outcome Y
on_atom (Number v) go = wrong
on_atom (Atom a) go = go a

-- a list of one value
abbrev pub on_one : {Y : Type 0} → List Datum → (Datum → Outcome Y) → Outcome Y
on_one (x ∷ []) go = go x
on_one xs go = wrong

-- a list of two values
abbrev pub on_two : {Y : Type 0} → List Datum → (Datum → Datum → Outcome Y) → Outcome Y
on_two (x ∷ y ∷ []) go = go x y
on_two xs go = wrong

-- what a local holds
abbrev pub on_slot : {Y : Type 0} → Option Datum → (Datum → Outcome Y) → Outcome Y
on_slot None go = wrong
on_slot (Some x) go = go x

-- a value cast to a type of numbers, or any value as it is if there is no such type
abbrev pub cast_to : Option NumType → Datum → Store → Outcome Datum
cast_to None x s = gives x s
cast_to (Some num) x s = on_number x (λ v. gives (Number (cast num v)) s)

-- What may fail

-- the atom at site 0, if it has the acting type
abbrev pub on_self : {Y : Type 0} → Event → WindowValue → (AtomValue → Outcome Y) → Outcome Y
on_self e w go = if nat_eq (atom_at w 0).kind e.acting then go (atom_at w 0) else fails lost_self

-- a site by its number, which is 0 to 40
abbrev pub on_site : {Y : Type 0} → ℤ → (ℕ → Outcome Y) → Outcome Y
on_site (negsuc n) go = fails no_such_site
on_site (pos n) go = if nat_le n 40 then go n else fails no_such_site

-- an index, which is from 0 on below the array's length
abbrev pub on_index : {Y : Type 0} → ℤ → ℕ → (ℕ → Outcome Y) → Outcome Y
on_index (negsuc i) n go = fails no_such_index
on_index (pos i) n go = if nat_lt i n then go i else fails no_such_index

-- a bound of a random number, which is above 0
abbrev pub on_bound : {Y : Type 0} → ℤ → (ℕ → Outcome Y) → Outcome Y
on_bound (negsuc n) go = fails no_bound
on_bound (pos zero) go = fails no_bound
on_bound (pos (suc n)) go = go (suc n)

-- a turn, and how many are left after it
abbrev pub on_turn : {Y : Type 0} → ℕ → (ℕ → Outcome Y) → Outcome Y
on_turn zero go = fails turns_spent
on_turn (suc t) go = go t

-- what an operator gives
abbrev pub on_result : {Y : Type 0} → Option ℤ → (ℤ → Outcome Y) → Outcome Y
on_result None go = fails divided_by_zero
on_result (Some v) go = go v

-- Changes of a store

-- another value in a local
abbrev pub with_local : Store → ℕ → Datum → Store
with_local s i x = record s { locals = slice_set s.locals i x }

-- another atom at a site, if that is live
abbrev pub with_site : Store → ℕ → AtomValue → Store
with_site s n a = record s { window = put_at s.window n a }

-- two sites exchanged, if both are live
abbrev pub with_swapped : Store → ℕ → ℕ → Store
with_swapped s m n = record s { window = swap_at s.window m n }
