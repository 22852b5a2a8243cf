-- Code as pieces: instructions, calls, choices and loops, before places and numbers are given out.
use Rattle.std.specs.Prelude.{ℕ, suc, ◌+◌, nat_eq, Bool, true, false, ◌&&◌, List, [], ◌∷◌, ◌++◌, if◌then◌else◌}
pub use Rattle.ulam_meaning.specs.Paths.{Key}
use Rattle.stack_code.specs.declared.instr.Instr.{Instr}
use Rattle.stack_code.specs.declared.instr.Instr.TheVariants.{Jump, JumpFalse, Turn, Call, Return, ReturnVoid}

-- In the comments on jumps, END is the place after a piece.
pub data Piece : Type 0 where
  none : Piece
  seq : (a b : Piece) → Piece
  plain : (i : Instr) → Piece
  -- a call
  asks : (f : Key) → Piece
  -- JumpFalse OTHER, a, Jump END, OTHER: b, END:
  pick : (a b : Piece) → Piece
  -- JumpFalse END, a, END:
  only : (a : Piece) → Piece
  -- AGAIN: t, JumpFalse END, a, STEP: b, Turn, Jump AGAIN, END:
  loop : (t a b : Piece) → Piece
  -- AGAIN: a, STEP: b, Turn, Jump AGAIN, END:
  ever : (a b : Piece) → Piece
  -- out of the loop around it, and to that loop's step
  out : Piece
  next : Piece
  -- the end of the function, with the operand on top and without one
  gives : Piece
  leaves : Piece

-- how many instructions a piece has
abbrev pub size : Piece → ℕ
size none = 0
size (seq a b) = size a + size b
size (plain i) = 1
size (asks f) = 1
size (pick a b) = suc (size a + suc (size b))
size (only a) = suc (size a)
size (loop t a b) = size t + suc (size a + (size b + 2))
size (ever a b) = size a + (size b + 2)
size out = 1
size next = 1
size gives = 1
size leaves = 1

abbrev pub same_key : Key → Key → Bool
same_key a b = nat_eq a.class b.class && (nat_eq a.function b.function && nat_eq a.base b.base)

-- the number of a function among these: its position
abbrev pub key_number : List Key → Key → ℕ
key_number [] f = 0
key_number (k ∷ ks) f = if same_key k f then 0 else suc (key_number ks f)

abbrev pub has_key : List Key → Key → Bool
has_key [] f = false
has_key (k ∷ ks) f = if same_key k f then true else has_key ks f

-- the functions of an element, in the order of their numbers
module _ (keys : List Key) where
  -- The instructions of a piece from a place on. `out` leads to the place `past`, and `next` to the
  -- place `step`; in the body of a loop they lead to the place after the loop and to its own step.
  abbrev pub lay : (place past step : ℕ) → Piece → List Instr
  lay place past step none = []
  lay place past step (seq a b) = lay place past step a ++ lay (place + size a) past step b
  lay place past step (plain i) = i ∷ []
  lay place past step (asks f) = Call (key_number keys f) ∷ []
  lay place past step (pick a b) =
      let other = place + 1 + size a + 1 in
      JumpFalse other ∷ (lay (place + 1) past step a ++ (Jump (other + size b) ∷ lay other past step b))
  lay place past step (only a) = JumpFalse (place + 1 + size a) ∷ lay (place + 1) past step a
  lay place past step (loop t a b) =
      let body = place + size t + 1 in
      let own_step = body + size a in
      let end = own_step + size b + 2 in
      lay place past step t ++ (JumpFalse end ∷ (lay body end own_step a ++ (lay own_step past step b ++ (Turn ∷ (Jump place ∷ [])))))
  lay place past step (ever a b) =
      let own_step = place + size a in
      let end = own_step + size b + 2 in
      lay place end own_step a ++ (lay own_step past step b ++ (Turn ∷ (Jump place ∷ [])))
  lay place past step out = Jump past ∷ []
  lay place past step next = Jump step ∷ []
  lay place past step gives = Return ∷ []
  lay place past step leaves = ReturnVoid ∷ []

-- the list with a function appended, unless it is there
abbrev pub add_key : List Key → Key → List Key
add_key ks f = if has_key ks f then ks else ks ++ (f ∷ [])

-- the list with the functions that a piece calls appended, in the order of the calls, if they are
-- new
abbrev pub add_calls : Piece → List Key → List Key
add_calls none ks = ks
add_calls (seq a b) ks = add_calls b (add_calls a ks)
add_calls (plain i) ks = ks
add_calls (asks f) ks = add_key ks f
add_calls (pick a b) ks = add_calls b (add_calls a ks)
add_calls (only a) ks = add_calls a ks
add_calls (loop t a b) ks = add_calls b (add_calls a (add_calls t ks))
add_calls (ever a b) ks = add_calls b (add_calls a ks)
add_calls out ks = ks
add_calls next ks = ks
add_calls gives ks = ks
add_calls leaves ks = ks
