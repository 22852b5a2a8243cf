-- Pieces one after another: by the vector that holds them, and as statements give them.
use Rattle.std.proofs.Common.{◌≡◌, ℕ, ◌+◌, ◌≤◌, ◌<◌, length, List, [], ◌∷◌, ◌++◌, drop, get_or, refl, ap, sym, ◌∙◌, Vec, Global}
use Rattle.std.proofs.lemmas.List.{drop_more, drop_all}
use Rattle.ulam_tree.specs.TypedViews.{typed_statement, typed_body}
use Rattle.ulam_tree.specs.declared.typed.Statement.{Statement}
use Rattle.ulam_meaning.specs.Paths.{Scene}
use Rattle.code_gen.specs.Pieces.{Piece, none, seq}
use Rattle.code_gen.specs.Clipped.{clip}
use Rattle.code_gen.specs.Scheme.{statement_piece, body_piece}
use Rattle.code_gen.specs.Views.{piece_of, row_piece, pieces_of}
use Rattle.code_gen.specs.declared.piece.Piece.{Piece as CodePiece, Block', Row_of-Piece, end_of-Piece, more_of-Piece, items-the_row-Piece, items_hidden-the_row-Piece-0}
use Rattle.code_gen.specs.declared.piece.Piece.TheVariants.{Block}

row_is : (n : _) (row : Row_of-Piece n) → row_piece row ≡ pieces_of (items-the_row-Piece n row)
row_is n end_of-Piece = refl
row_is n (more_of-Piece p rest) = ap (seq (piece_of p)) (row_is _ rest)

-- the row of pieces in a block
abbrev row_in : CodePiece → (n : _) × Row_of-Piece n
row_in (Block' shape ps) = (_, ps)
row_in _ = (_, end_of-Piece)

pub block_is : (ps : Vec CodePiece Global) → piece_of (Block ps) ≡ pieces_of ps.items
block_is ps =
    let row = row_in (Block ps) in
    row_is row.0 row.1 ∙ ap pieces_of (items_hidden-the_row-Piece-0 ps)

pub block_at : (q : CodePiece) (ps : Vec CodePiece Global) → q ≡ Block ps → piece_of q ≡ pieces_of ps.items
block_at q ps e = ap piece_of e ∙ block_is ps

-- pieces one after another, and then what follows them
abbrev pub pieces_then : List CodePiece → Piece → Piece
pieces_then [] r = r
pieces_then (p ∷ ps) r = seq (piece_of p) (pieces_then ps r)

pub then_none : (ps : List CodePiece) → pieces_then ps none ≡ pieces_of ps
then_none [] = refl
then_none (p ∷ ps) = ap (seq (piece_of p)) (then_none ps)

pub then_one : (ps : List CodePiece) (p : CodePiece) (r : Piece) → pieces_then (ps ++ (p ∷ [])) r ≡ pieces_then ps (seq (piece_of p) r)
then_one [] p r = refl
then_one (q ∷ ps) p r = ap (seq (piece_of q)) (then_one ps p r)

-- the pieces of statements

module _ (z : Scene) (xs : List Statement) (i : ℕ) where
  pub body_step : (x : Statement) (p : CodePiece) (ps qs : List CodePiece) (whole : Piece) → i < length xs → x ≡ get_or xs i x → qs ≡ ps ++ (p ∷ []) → piece_of p ≡ clip (statement_piece z (typed_statement x)) →
      pieces_then ps (clip (body_piece z (typed_body (drop i xs)))) ≡ whole → pieces_then qs (clip (body_piece z (typed_body (drop (i + 1) xs)))) ≡ whole
  body_step x p ps qs whole h e f g w =
      let rest = clip (body_piece z (typed_body (drop (i + 1) xs))) in
      ap (λ l. pieces_then l rest) f
      ∙ then_one ps p rest
      ∙ ap (λ q. pieces_then ps (seq q rest)) g
      ∙ ap (λ y. pieces_then ps (seq (clip (statement_piece z (typed_statement y))) rest)) e
      ∙ sym (ap (λ l. pieces_then ps (clip (body_piece z (typed_body l)))) (drop_more xs i x h))
      ∙ w

  pub body_done : (ps : List CodePiece) (whole : Piece) → length xs ≤ i → pieces_then ps (clip (body_piece z (typed_body (drop i xs)))) ≡ whole → pieces_of ps ≡ whole
  body_done ps whole h w = sym (then_none ps) ∙ sym (ap (λ l. pieces_then ps (clip (body_piece z (typed_body l)))) (drop_all i xs h)) ∙ w
