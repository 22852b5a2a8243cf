-- The code's instructions with those of one more piece.
use Rattle.std.specs.Prelude.{◌≡◌, ℕ, ◌+◌, List, ◌∷◌, ◌++◌, map, length}
use Rattle.stack_code.specs.declared.instr.Instr.{Instr}
use Rattle.stack_code.specs.declared.instr.Instr.TheVariants.{JumpFalse}
use Rattle.code_gen.specs.Pieces.{Key, Piece, seq, size, lay}
use Rattle.code_gen.specs.Drafts.{end_by}
use Rattle.code_gen.specs.Views.{key_of}
use Rattle.code_gen.specs.declared.piece.Key.{Key as CodeKey}
use Rattle.code_gen.specs.declared.source.Head.{Head}

-- the instructions, and behind them those of a piece, in which `out` and `next` lead to these places
abbrev pub code_and_piece : List Instr → List CodeKey → (out next : ℕ) → Piece → List Instr
code_and_piece code keys out next piece = code ++ lay (map key_of keys) (length code) out next piece

-- the instructions, a jump to the place `past`, and those of a piece
abbrev pub laid_if : List Instr → List CodeKey → (out next past : ℕ) → Piece → List Instr
laid_if code keys out next past piece = code ++ JumpFalse past ∷ lay (map key_of keys) (length code + 1) out next piece

-- the end of a function, by its head
abbrev pub head_end : Head → Piece
head_end head = end_by head.answer head.blank

-- the instructions, and behind them those of a function: its body, in which `out` and `next` outside
-- of loops lead to its end, and its end
abbrev pub with_function : List Instr → List CodeKey → Head → Piece → List Instr
with_function code keys head body = code_and_piece code keys (length code + size body) (length code + size body) (seq body (head_end head))

-- a piece was laid down, as it is for any functions and at any place
abbrev pub LaysAnywhere : List Instr → List Instr → Piece → Type 0
LaysAnywhere old new piece = (keys : List Key) (place out next : ℕ) → new ≡ old ++ lay keys place out next piece
