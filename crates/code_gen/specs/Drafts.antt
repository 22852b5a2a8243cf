-- The code of an element from the drafts of its functions: which there are, their order, and their
-- places.
use Rattle.std.specs.Prelude.{ℕ, zero, suc, ◌+◌, nat_le, Bool, pos, Option, Some, None, List, [], ◌∷◌, ◌++◌, length, slice_get}
use Rattle.stack_code.specs.Machine.{FunctionValue, CodeValue}
use Rattle.stack_code.specs.Valid.{Kinds}
use Rattle.stack_code.specs.declared.instr.Answer.{Answer}
use Rattle.stack_code.specs.declared.instr.Answer.TheVariants.{Nothing, Number as NumberBack, Atom as AtomBack}
use Rattle.stack_code.specs.declared.instr.Instr.{Instr}
use Rattle.stack_code.specs.declared.instr.Instr.TheVariants.{PushNum, PushAtom}
use Rattle.code_gen.specs.Pieces.{Key, Piece, seq, plain, gives, leaves, size, lay, add_calls}
use Rattle.bit_field.specs.declared.TheConstants.{STATE_BITS}
use Rattle.stack_code.specs.declared.limits.TheConstants.{MOST_INSTRS}

-- a function before it has a place and a number: its name, the kinds of its parameters and of its other slots, what it gives back, the type of the atom that its end gives, how many state bits its class has, and its body
pub record Draft : Type 0 where
  pub name : List ℕ
  pub takes : Kinds
  pub locals : Kinds
  pub answer : Answer
  pub blank : ℕ
  pub bits : ℕ
  pub body : Piece

-- the functions of a program
abbrev pub Drafts : Type 0
Drafts = Key → Draft

-- the parameters are in the first slots
abbrev pub slots_of : Draft → Kinds
slots_of d = d.takes ++ d.locals

-- the end of a function: 0, or an atom with state 0, if its body comes to its end without a
-- `return`
abbrev pub end_by : Answer → ℕ → Piece
end_by Nothing k = leaves
end_by NumberBack k = seq (plain (PushNum (pos 0))) gives
end_by AtomBack k = seq (plain (PushAtom k)) gives

abbrev pub end_piece : Draft → Piece
end_piece d = end_by d.answer d.blank

-- the whole function
abbrev pub key_piece : Drafts → Key → Piece
key_piece g f = seq (g f).body (end_piece (g f))

abbrev pub on_key : Option Key → List Key → (Key → List Key) → List Key
on_key None ks go = ks
on_key (Some f) ks go = go f

-- the functions that are called, if the calls of the first k are among them, with n more of them
-- looked at
unfoldable pub reach : Drafts → ℕ → ℕ → List Key → List Key
reach g zero k ks = ks
reach g (suc n) k ks = on_key (slice_get ks k) ks (λ f. reach g n (suc k) (add_calls (key_piece g f) ks))

-- the functions of an element from its first one on, in the order of their first calls. Each has an
-- instruction, so that no more are needed than code may have
unfoldable pub keys : Drafts → Key → List Key
keys g main = reach g (MOST_INSTRS + 1) 0 (main ∷ [])

-- the instructions of a function at a place: outside of loops, `out` and `next` lead to its end
abbrev pub function_code : Drafts → List Key → ℕ → Key → List Instr
function_code g ks p f = let end = p + size (g f).body in lay ks p end end (key_piece g f)

-- the instructions of functions, one after another from a place on
abbrev pub codes : Drafts → List Key → ℕ → List Key → List Instr
codes g ks p [] = []
codes g ks p (f ∷ fs) = function_code g ks p f ++ codes g ks (p + size (key_piece g f)) fs

-- a function whose first instruction is at a place
abbrev pub value_at : Drafts → ℕ → Key → FunctionValue
value_at g p f = record { name = (g f).name; base = f.base; first = p; params = length (g f).takes; slots = slots_of (g f); answer = (g f).answer }

abbrev pub values : Drafts → ℕ → List Key → List FunctionValue
values g p [] = []
values g p (f ∷ fs) = value_at g p f ∷ values g (p + size (key_piece g f)) fs

-- the code of an element of this type number, which begins with this function
unfoldable pub code_of : Drafts → ℕ → Key → CodeValue
code_of g kind main = record { kind = kind; functions = values g 0 (keys g main); instrs = codes g (keys g main) 0 (keys g main) }

-- how many instructions these functions have
abbrev pub total : Drafts → List Key → ℕ
total g [] = 0
total g (f ∷ fs) = size (key_piece g f) + total g fs

-- whether the bits that a function works on lie in an atom's state
abbrev pub has_room : Drafts → Key → Bool
has_room g f = nat_le (f.base + (g f).bits) STATE_BITS
