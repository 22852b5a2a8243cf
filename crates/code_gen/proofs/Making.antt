-- What the code makes, as another form of the same piece.
use Rattle.std.proofs.Common.{◌≡◌, Result, subst}
use Rattle.std.specs.Prelude.{IfOk}
use Rattle.feast_base.specs.declared.memory.NoMemory.{NoMemory}
use Rattle.code_gen.specs.Pieces.{Piece}
use Rattle.code_gen.specs.Views.{piece_of}
use Rattle.code_gen.specs.declared.piece.Piece.{Piece as CodePiece}

pub made_is : (r : Result CodePiece NoMemory) (p q : Piece) → p ≡ q → IfOk r (λ m. piece_of m ≡ p) → IfOk r (λ m. piece_of m ≡ q)
made_is r p q e h = subst (λ z. IfOk r (λ m. piece_of m ≡ z)) e h
