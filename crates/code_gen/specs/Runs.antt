-- What a piece does, by big steps: between the meaning of a tree and the machine.
use Rattle.std.specs.Prelude.{ℕ, zero, suc, nat_le, Bool, true, false, List, [], ◌∷◌, ◌++◌, length, Option, Some, None, reverse, take, drop, if◌then◌else◌}
use Rattle.sat_math.specs.Operations.{is_zero}
use Rattle.window_sites.specs.Window.{WindowValue, without_centre}
use Rattle.draw_stream.specs.Words.{event_state}
use Rattle.datum.specs.declared.Datum.{Datum}
use Rattle.datum.specs.declared.Datum.TheVariants.{Number as ANumber, Atom as AnAtom}
use Rattle.stack_code.specs.Sorts.{sort}
use Rattle.stack_code.specs.Machine.{Held, Led, Goes, Fails, Ends, Lacks, fresh, work}
use Rattle.stack_code.specs.Valid.{is_nothing}
use Rattle.stack_code.specs.declared.instr.Answer.{Answer}
use Rattle.code_gen.specs.Pieces.{Key, Piece, none, seq, plain, asks, pick, only, loop, ever, out, next, gives, leaves}
use Rattle.code_gen.specs.Drafts.{Draft, Drafts, slots_of, end_piece}
use Rattle.feast_base.specs.declared.limits.TheConstants.{MOST_CALLS, MOST_TURNS}

-- what a piece works on: operands, slots, window and random words, and the turns that are left
pub record Now : Type 0 where
  pub held : Held
  pub turns : ℕ

-- how a piece ends: it goes on, leaves its loop, goes on with its loop's step, ends its function with these operands, fails with a number, ends the event, or lacks something
pub data Out : Type 0 where
  goes : (s : Now) → Out
  leaps : (s : Now) → Out
  nexts : (s : Now) → Out
  hands : (vs : List Datum) → (s : Now) → Out
  fails : (n : ℕ) → Out
  stops : (w : WindowValue) → Out
  lacks : Out

-- what comes next, if it goes on
abbrev pub out_then : Out → (Now → Out) → Out
out_then (goes s) go = go s
out_then (leaps s) go = leaps s
out_then (nexts s) go = nexts s
out_then (hands vs s) go = hands vs s
out_then (fails n) go = fails n
out_then (stops w) go = stops w
out_then lacks go = lacks

-- what follows the body of a loop: its step, unless the body left the loop
abbrev pub out_again : Out → (Now → Out) → Out
out_again (goes s) go = go s
out_again (nexts s) go = go s
out_again (leaps s) go = goes s
out_again (hands vs s) go = hands vs s
out_again (fails n) go = fails n
out_again (stops w) go = stops w
out_again lacks go = lacks

-- what a plain instruction leads to
abbrev pub after_work : ℕ → Led Held → Out
after_work t (Goes h) = goes (record { held = h; turns = t })
after_work t (Fails n) = fails n
after_work t (Ends w) = stops w
after_work t Lacks = lacks

abbrev pub with_stack : Now → List Datum → Now
with_stack s st = record { held = record s.held { stack = st }; turns = s.turns }

abbrev pub with_turns : Now → ℕ → Now
with_turns s t = record { held = s.held; turns = t }

-- with whether the number on top is 0
abbrev pub on_zero : Now → List Datum → (Bool → Now → Out) → Out
on_zero s [] go = lacks
on_zero s (ANumber v ∷ st) go = go (is_zero v) (with_stack s st)
on_zero s (AnAtom a ∷ st) go = lacks

-- with a turn taken
abbrev pub turn_out : ℕ → (ℕ → Out) → Out
turn_out zero go = fails 1
turn_out (suc t) go = go t

abbrev pub by_bool : {A : Type 0} → Bool → A → A → A
by_bool z x y = if z then x else y

-- a loop, at most m rounds of it: its test, its body, its step, a turn, and then the test again
abbrev pub rounds : ℕ → (Now → Out) → (Now → Out) → (Now → Out) → Now → Out
rounds zero t a b s = lacks
rounds (suc m) t a b s = out_then (t s) (λ s1. on_zero s1 s1.held.stack (λ z s2. by_bool z (goes s2) (out_again (a s2) (λ s3. out_then (b s3) (λ s4. turn_out s4.turns (λ n. rounds m t a b (with_turns s4 n)))))))

-- the same without a test
abbrev pub ever_rounds : ℕ → (Now → Out) → (Now → Out) → Now → Out
ever_rounds zero a b s = lacks
ever_rounds (suc m) a b s = out_again (a s) (λ s3. out_then (b s3) (λ s4. turn_out s4.turns (λ n. ever_rounds m a b (with_turns s4 n))))

-- the end of a function with the operand on top
abbrev pub hand_top : Now → List Datum → Out
hand_top s [] = lacks
hand_top s (x ∷ st) = hands (x ∷ []) s

-- what calls do
abbrev pub Asks : Type 0
Asks = Key → Now → Out

-- a function's body, and its end: `out` and `next` outside of loops lead there
abbrev pub finish : Out → (Now → Out) → Out
finish (goes s) go = go s
finish (leaps s) go = go s
finish (nexts s) go = go s
finish (hands vs s) go = hands vs s
finish (fails n) go = fails n
finish (stops w) go = stops w
finish lacks go = lacks

-- Pieces in an event of this acting type, with what their calls do

module _ (kind : ℕ) (calls : Asks) where
  -- Each round of a loop takes a turn, so that a loop has at most one round more than there are turns.
  abbrev pub run : Piece → Now → Out
  run none s = goes s
  run (seq a b) s = out_then (run a s) (run b)
  run (plain i) s = after_work s.turns (work kind (sort i) s.held)
  run (asks f) s = calls f s
  run (pick a b) s = on_zero s s.held.stack (λ z s1. by_bool z (run b s1) (run a s1))
  run (only a) s = on_zero s s.held.stack (λ z s1. by_bool z (goes s1) (run a s1))
  run (loop t a b) s = rounds (suc s.turns) (run t) (run a) (run b) s
  run (ever a b) s = ever_rounds (suc s.turns) (run a) (run b) s
  run out s = leaps s
  run next s = nexts s
  run gives s = hand_top s s.held.stack
  run leaves s = hands [] s

  -- a function that was entered, to its end
  abbrev pub run_function : Draft → Now → Out
  run_function d s = finish (run d.body s) (run (end_piece d))

-- as many operands as needed: none, or one
abbrev pub as_many : Bool → List Datum → Bool
as_many true [] = true
as_many true (x ∷ xs) = false
as_many false [] = false
as_many false (x ∷ []) = true
as_many false (x ∷ y ∷ xs) = false

abbrev pub answers : Answer → List Datum → Bool
answers r vs = as_many (is_nothing r) vs

-- the caller goes on with its own operands and slots, and with what the function gave
abbrev pub after_return : Bool → List Datum → List Datum → List Datum → Now → Out
after_return true st sl vs s = goes (record { held = record s.held { stack = vs ++ st; slots = sl }; turns = s.turns })
after_return false st sl vs s = lacks

-- what a function's end means to its caller
abbrev pub after_call : Answer → List Datum → List Datum → Out → Out
after_call r st sl (goes s) = lacks
after_call r st sl (leaps s) = lacks
after_call r st sl (nexts s) = lacks
after_call r st sl (hands vs s) = after_return (answers r vs) st sl vs s
after_call r st sl (fails n) = fails n
after_call r st sl (stops w) = stops w
after_call r st sl lacks = lacks

-- a function's own operands and slots, with its arguments from the topmost operands
abbrev pub function_start : Draft → Now → ℕ → Now
function_start d s t = record { held = record s.held { stack = []; slots = fresh (reverse (take (length d.takes) s.held.stack)) (slots_of d) }; turns = t }

-- a call takes a turn, if its arguments are there
abbrev pub ask_turn : Draft → Now → (ℕ → Out) → Out
ask_turn d s go = if nat_le (length d.takes) (length s.held.stack) then turn_out s.turns go else lacks

-- the calls of functions, with this many levels of depth left
unfoldable pub asks_at : Drafts → ℕ → ℕ → Asks
asks_at g kind zero f s = ask_turn (g f) s (λ t. fails 2)
asks_at g kind (suc d) f s = ask_turn (g f) s (λ t. after_call (g f).answer (drop (length (g f).takes) s.held.stack) s.held.slots (run_function kind (asks_at g kind d) (g f) (function_start (g f) s t)))

-- what an event begins with
abbrev pub at_start : Draft → WindowValue → ℕ → Now
at_start d w seed = record { held = record { stack = []; slots = fresh [] (slots_of d); window = w; words = event_state seed 0 }; turns = MOST_TURNS }

-- an event by its first function
abbrev pub event : Drafts → ℕ → Key → WindowValue → ℕ → Out
event g kind main w seed = run_function kind (asks_at g kind MOST_CALLS) (g main) (at_start (g main) w seed)

-- the window and the ending of an event that began with this window. Its first function comes to an end, so that it doesn't go on
abbrev pub event_over : WindowValue → Out → Option (WindowValue × Option ℕ)
event_over w (hands vs s) = Some (s.held.window, None)
event_over w (fails n) = Some (without_centre w, Some n)
event_over w (stops w1) = Some (w1, None)
event_over w o = None
