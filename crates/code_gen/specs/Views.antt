-- The code's functions and pieces as plain data.
use Rattle.std.specs.Prelude.{◌≡◌, ◌≤◌, ℕ, List, [], ◌∷◌, Option, Some, None, length}
use Rattle.code_gen.specs.Drafts.{Draft}
use Rattle.code_gen.specs.declared.source.Head.{Head}
use Rattle.code_gen.specs.Pieces.{Key, Piece, none, seq, plain, asks, pick, only, loop, ever, out, next, gives, leaves}
use Rattle.code_gen.specs.declared.piece.Key.{Key as CodeKey}
use Rattle.code_gen.specs.declared.piece.Piece.{Piece as CodePiece, Block', Row_of-Piece, end_of-Piece, more_of-Piece}
use Rattle.code_gen.specs.declared.piece.Piece.TheVariants.{Nothing, Seq', Plain, Asks, Pick', Only', Loop', Ever', Out, Next, Gives, Leaves}

abbrev pub key_of : CodeKey → Key
key_of k = record { class = k.class; function = k.function; base = k.base }

abbrev mutual
  pub piece_of : CodePiece → Piece
  piece_of Nothing = none
  piece_of (Seq' p a q b) = seq (piece_of a) (piece_of b)
  piece_of (Block' shape ps) = row_piece ps
  piece_of (Plain i) = plain i
  piece_of (Asks k) = asks (key_of k)
  piece_of (Pick' p a q b) = pick (piece_of a) (piece_of b)
  piece_of (Only' p a) = only (piece_of a)
  piece_of (Loop' o t p a q b) = loop (piece_of t) (piece_of a) (piece_of b)
  piece_of (Ever' p a q b) = ever (piece_of a) (piece_of b)
  piece_of Out = out
  piece_of Next = next
  piece_of Gives = gives
  piece_of Leaves = leaves

  -- pieces one after another
  pub row_piece : {m : _} → Row_of-Piece m → Piece
  row_piece end_of-Piece = none
  row_piece (more_of-Piece p rest) = seq (piece_of p) (row_piece rest)

-- the same for a vector by itself
abbrev pub pieces_of : List CodePiece → Piece
pieces_of [] = none
pieces_of (p ∷ ps) = seq (piece_of p) (pieces_of ps)

-- what is known of a function without its body is that of its draft
pub record IsHead (h : Head) (d : Draft) : Type 0 where
  pub params : h.params ≡ length d.takes
  pub answer : h.answer ≡ d.answer
  pub blank : h.blank ≡ d.blank

-- a number that is there is no more than this
abbrev pub IsBelow : ℕ → Option ℕ → Type 0
IsBelow most None = Unit {0}
IsBelow most (Some d) = d ≤ most
