-- What the laws of meaning speak of.
use Rattle.std.specs.Prelude.{◌≡◌, ◌⊎◌, ℕ, suc, ◌≤◌, ◌<◌, ◌^◌, Bool, List, Option, Some, None, IsTrue, length, map, sum}
use Rattle.datum.specs.Failures.{IsFailure}
use Rattle.datum.specs.declared.Datum.{Datum}
use Rattle.bit_field.specs.Atom.{AtomValue, empty_atom}
use Rattle.window_sites.specs.Window.{WindowValue, IsWindow, atom_at, live_at, without_centre}
use Rattle.ulam_tree.specs.Resolved as r
use Rattle.ulam_tree.specs.Typed as t
use Rattle.ulam_tree.specs.Ways.{NoneContainsItself}
use Rattle.atom_layout.specs.Layouts.{class_at, first_wide, layout_of, member_bits}
use Rattle.ulam_meaning.specs.Programs.{Program, Field, fields, members_of, count_elements, element_of}
use Rattle.ulam_meaning.specs.Paths.{Key, Scene}
use Rattle.ulam_meaning.specs.Runs.{Event, Store, Outcome, gives, fails, wrong, Way}
use Rattle.ulam_meaning.specs.Statements.{loop, if_any, exec, exec_part}
use Rattle.ulam_meaning.specs.Events.{calls_at, behaves, failure, event_of, after}
use Rattle.bit_field.specs.declared.TheConstants.{STATE_BITS}

-- an atom that is Empty or of one of the elements
abbrev pub IsKnown : Program → AtomValue → Type 0
IsKnown g a = (a ≡ empty_atom) ⊎ ((1 ≤ a.kind) × (a.kind ≤ count_elements g.classes))

-- P holds of each atom of a window
abbrev pub EachAtom : (AtomValue → Type 0) → WindowValue → Type 0
EachAtom P w = (n : ℕ) → P (atom_at w n)

-- an atom has a state below 2^71
abbrev pub HasState : AtomValue → Type 0
HasState a = a.state < 2 ^ STATE_BITS

-- a window and a later one: the live marks stay, and sites that are not live keep their atoms
pub record KeepsMarks (w after : WindowValue) : Type 0 where
  pub sites : length after.atoms ≡ length w.atoms
  pub live : after.live ≡ w.live
  pub others : (n : ℕ) → live_at w n ≡ Bool.false → atom_at after n ≡ atom_at w n

-- A run from a store: no more turns are left at its end than at its beginning, and if it fails,
-- then by one of the seven failures.
abbrev pub TakesTurns : {X : Type 0} → Store → Outcome X → Type 0
TakesTurns s (gives x s1) = s1.turns ≤ s.turns
TakesTurns s (fails n) = IsFailure n
TakesTurns s wrong = Unit {0}

-- the bits that a layout has for a class
abbrev pub bits_of : Program → ℕ → ℕ
bits_of g c = sum (class_at g.layout c)

-- A layout of a program: it gives for each class the bits of its data members, where a member of a
-- quark type takes the bits that the layout gives for the quark; and no class takes more than 71.
pub record IsLaidOut (g : Program) : Type 0 where
  pub widths : (c : ℕ) → class_at g.layout c ≡ map (λ (f : Field). member_bits (bits_of g) f.ty f.length) (fields (members_of g c))
  pub most : (c : ℕ) → bits_of g c ≤ STATE_BITS

-- Classes before and after their types are known have the same data members.
abbrev pub SameFields : List r.Class → List t.Class → Type 0
SameFields cs us = map (λ (c : r.Class). fields c.members) cs ≡ map (λ (u : t.Class). fields u.members) us

-- Runs

module _ (e : Event) (z : Scene) where
  -- No statement gives a turn back, however deep calls may nest.
  abbrev pub StatementsTakeTurns : Type 0
  StatementsTakeTurns = (depth : ℕ) (x : t.Statement) (s : Store) → TakesTurns s (exec e z (calls_at e z.program depth) x s)

  -- a loop of a condition, which may be missing, a body and a step, with as many rounds as it is allowed
  abbrev pub rounds : ℕ → ℕ → Option t.Expr → t.Statement → t.Part → Store → Outcome Way
  rounds depth n c x step s = loop n (if_any e z (calls_at e z.program depth) c) (exec e z (calls_at e z.program depth) x) (exec_part e z (calls_at e z.program depth) step) s

  -- A loop that may go round more often than there are turns left does the same however often it may: the turns end it.
  abbrev pub TurnsEndLoops : Type 0
  TurnsEndLoops = (depth : ℕ) (c : Option t.Expr) (x : t.Statement) (step : t.Part) (s : Store) (n : ℕ) → s.turns < n → rounds depth n c x step s ≡ rounds depth (suc s.turns) c x step s

-- Events of a program

module _ (g : Program) where
  -- No call gives a turn back, however deep calls may nest.
  abbrev pub CallsTakeTurns : Type 0
  CallsTakeTurns = (e : Event) (depth : ℕ) (f : Key) (xs : List Datum) (s : Store) → TakesTurns s (calls_at e g depth f xs s)

  -- A window is left as a window.
  abbrev pub LeavesWindows : Type 0
  LeavesWindows = (w : WindowValue) (seed : ℕ) → IsWindow w → IsWindow (after g w seed)

  -- If the centre is live, live marks stay, and sites that are not live keep their atoms.
  abbrev pub KeepsLiveMarks : Type 0
  KeepsLiveMarks = (w : WindowValue) (seed : ℕ) → IsTrue (live_at w 0) → KeepsMarks w (after g w seed)

  -- If P holds of each atom of a window, it holds of each atom afterwards.
  abbrev pub KeepsEach : (AtomValue → Type 0) → Type 0
  KeepsEach P = (w : WindowValue) (seed : ℕ) → EachAtom P w → EachAtom P (after g w seed)

  -- A failure is one of the seven.
  abbrev pub FailsAsListed : Type 0
  FailsAsListed = (e : Event) (c : ℕ) (w : WindowValue) (n : ℕ) → failure (behaves e g c w) ≡ Some n → IsFailure n

  -- An event that fails leaves the old window with Empty at site 0.
  abbrev pub FailureEmptiesCentre : Type 0
  FailureEmptiesCentre = (w : WindowValue) (seed c n : ℕ) → element_of g (atom_at w 0).kind ≡ Some c → failure (behaves (event_of w seed) g c w) ≡ Some n → after g w seed ≡ without_centre w

  -- A window with an empty centre stays as it is.
  abbrev pub EmptyCentreStays : Type 0
  EmptyCentreStays = (w : WindowValue) (seed : ℕ) → atom_at w 0 ≡ empty_atom → after g w seed ≡ w

  -- A window whose centre is of a type without an element stays as it is.
  abbrev pub StrangerStays : Type 0
  StrangerStays = (w : WindowValue) (seed : ℕ) → element_of g (atom_at w 0).kind ≡ None → after g w seed ≡ w

-- If no class of these contains itself and none is too wide, their layout is also a layout of the same classes once their types are known.
abbrev pub HasLayout : List r.Class → Type 0
HasLayout cs = (us : List t.Class) → NoneContainsItself cs → first_wide cs ≡ None → SameFields cs us → IsLaidOut (record { classes = us; layout = layout_of cs })
