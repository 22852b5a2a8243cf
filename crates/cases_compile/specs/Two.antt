-- Two functions, of which the first calls the second with an argument in a loop.
use Rattle.std.specs.Prelude.{ℕ, zero, suc, [], ◌∷◌, pos, codes}
use Rattle.stack_code.specs.declared.instr.Operand.TheVariants.{Number}
use Rattle.stack_code.specs.declared.instr.Answer.TheVariants.{Nothing, Number as NumberBack}
use Rattle.stack_code.specs.declared.instr.Instr.TheVariants.{PushNum, LoadLocal, StoreLocal, SubI}
use Rattle.code_gen.specs.Pieces.{Key, Piece, seq, plain, asks, loop, none, gives}
use Rattle.code_gen.specs.Drafts.{Draft, Drafts}

-- the functions of one class
abbrev pub key : ℕ → Key
key k = record { class = 0; function = k; base = 0 }

-- takes 1 from a slot by a call of the other function, until it is 0
abbrev pub behave_body : Piece
behave_body = seq (seq (plain (PushNum (pos 3))) (plain (StoreLocal 0))) (loop (plain (LoadLocal 0)) (seq (seq (plain (LoadLocal 0)) (asks (key 1))) (plain (StoreLocal 0))) none)

-- gives its argument less 1
abbrev pub less_body : Piece
less_body = seq (seq (seq (plain (LoadLocal 0)) (plain (PushNum (pos 1)))) (plain SubI)) gives

abbrev pub behave : Draft
behave = record { name = codes "behave"; takes = []; locals = Number ∷ []; answer = Nothing; blank = 0; bits = 8; body = behave_body }

abbrev pub less : Draft
less = record { name = codes "less"; takes = Number ∷ []; locals = []; answer = NumberBack; blank = 0; bits = 8; body = less_body }

abbrev pub draft_at : ℕ → Draft
draft_at zero = behave
draft_at (suc k) = less

-- `behave`, and `less` for all other numbers
abbrev pub two : Drafts
two f = draft_at f.function
