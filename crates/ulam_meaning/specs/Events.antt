-- What a function does, and what an event of an element leaves.
use Rattle.std.specs.Prelude.{ℕ, zero, suc, pos, List, [], ◌∷◌, map, Option, Some, None, ◌≡◌}
use Rattle.bit_field.specs.Atom.{empty_atom}
use Rattle.window_sites.specs.Window.{WindowValue, atom_at, without_centre}
use Rattle.datum.specs.declared.Datum.{Datum}
use Rattle.datum.specs.declared.Datum.TheVariants.{Number, Atom}
use Rattle.ulam_tree.specs.declared.resolved.Ty.{Ty}
use Rattle.ulam_tree.specs.declared.resolved.Ty.TheVariants as y
use Rattle.ulam_meaning.specs.Programs.{Program, slot_types, behave_of, element_of}
use Rattle.ulam_meaning.specs.Paths.{Key, function_of, scene_of}
use Rattle.ulam_meaning.specs.Values.{default_of}
use Rattle.ulam_meaning.specs.Runs.{Event, Store, Outcome, gives, fails, wrong, Way, goes_on, breaks, continues, returns, Calls, too_deep, and_then, on_turn}
use Rattle.ulam_meaning.specs.Statements.{exec_all}
use Rattle.feast_base.specs.declared.limits.TheConstants.{MOST_CALLS, MOST_TURNS}

-- Functions

-- what a local holds before it is declared
abbrev pub fill : Ty → Datum
fill (y.Num num) = Number (pos 0)
fill ty = Atom empty_atom

-- fresh locals: the arguments first
abbrev pub fresh : List Datum → List Ty → List Datum
fresh [] tys = map fill tys
fresh (x ∷ xs) [] = []
fresh (x ∷ xs) (ty ∷ tys) = x ∷ fresh xs tys

module _ (g : Program) where
  -- what a function gives: nothing if it is `Void`, otherwise what it returns; no typed function with
  -- a result comes to its end without a value
  abbrev pub answer : Ty → Option Datum → Option Datum
  answer y.Nothing v = None
  answer ty None = Some (default_of g ty)
  answer ty (Some x) = Some x

  -- the same, by how its body ended
  abbrev pub answer_by : Ty → Way → Option Datum
  answer_by ty goes_on = answer ty None
  answer_by ty breaks = answer ty None
  answer_by ty continues = answer ty None
  answer_by ty (returns v) = answer ty v

  -- a body that has ended: what the function gives, and the caller's locals again
  abbrev pub after_body : Ty → List Datum → Outcome Way → Outcome (Option Datum)
  after_body ty locals r = and_then r (λ way s. gives (answer_by ty way) (record s { locals = locals }))

module _ (e : Event) (g : Program) where
  -- the body of a function with these arguments, with this many turns left
  abbrev pub run_body : Calls → Key → List Datum → ℕ → Store → Outcome Way
  run_body h f xs n s = exec_all e (scene_of g f) h (function_of g f).body (record s { locals = fresh xs (slot_types (function_of g f)); turns = n })

  -- Calls that may nest this deep: a call takes a turn, then tests the depth, and then runs the body
  -- with fresh locals.
  unfoldable pub calls_at : ℕ → Calls
  calls_at zero f xs s = on_turn s.turns (λ n. fails too_deep)
  calls_at (suc d) f xs s = on_turn s.turns (λ n. after_body g (function_of g f).result s.locals (run_body (calls_at d) f xs n s))

-- Events

-- the `behave` of a class, on the bits from 0 on
abbrev pub behave_key : Program → ℕ → Key
behave_key g c = record { class = c; function = behave_of g c; base = 0 }

-- an event of the element that is class c: `behave` has 1,000 turns, no word taken, and calls nest at most 16 deep in it
unfoldable pub behaves : Event → Program → ℕ → WindowValue → Outcome Way
behaves e g c w = run_body e g (calls_at e g MOST_CALLS) (behave_key g c) [] MOST_TURNS (record { locals = []; window = w; taken = 0; turns = MOST_TURNS })

-- the window that an event leaves: on a failure the old one with Empty at site 0
abbrev pub left_by : WindowValue → Outcome Way → WindowValue
left_by w (gives way s) = s.window
left_by w (fails n) = without_centre w
left_by w wrong = w

-- the number of an event's failure, or None if it succeeds
abbrev pub failure : Outcome Way → Option ℕ
failure (gives way s) = None
failure (fails n) = Some n
failure wrong = None

-- the event of the atom at site 0
abbrev pub event_of : WindowValue → ℕ → Event
event_of w seed = record { acting = (atom_at w 0).kind; seed = seed }

-- the window after the event of an element, if there is one
abbrev pub after_by : Program → WindowValue → ℕ → Option ℕ → WindowValue
after_by g w seed None = w
after_by g w seed (Some c) = left_by w (behaves (event_of w seed) g c w)

-- the window after an event: the window itself if site 0 is Empty or its type has no element,
-- otherwise what the element leaves
unfoldable pub after : Program → WindowValue → ℕ → WindowValue
after g w seed = after_by g w seed (element_of g (atom_at w 0).kind)

-- an empty centre leaves the window as it is
pub idle-after : (g : Program) (w : WindowValue) (seed : ℕ) → atom_at w 0 ≡ empty_atom → after g w seed ≡ w
unfolding after element_of
idle-after g w seed h = λ i. after_by g w seed (element_of g (h i).kind)
