-- What the compiler makes of the code's trees: pieces of the scheme, in which numbers are cut off if
-- an instruction or a key has no room for them.
use Rattle.std.specs.Prelude.{◌≡◌, List, Option, option_map, Result, IfOk}
use Rattle.feast_base.specs.declared.memory.NoMemory.{NoMemory}
use Rattle.ulam_tree.specs.Typed as t
use Rattle.ulam_tree.specs.TypedViews.{typed_expr, typed_args, typed_left}
use Rattle.ulam_tree.specs.declared.op.PairOp.{PairOp}
use Rattle.ulam_tree.specs.declared.resolved.Path.{Path}
use Rattle.ulam_tree.specs.declared.typed.Expr.{Expr}
use Rattle.ulam_tree.specs.declared.typed.Left.{Left}
use Rattle.ulam_meaning.specs.Paths.{Spot}
use Rattle.code_gen.specs.Pieces.{Piece}
use Rattle.code_gen.specs.Clipped.{clip, clip_spot}
use Rattle.code_gen.specs.Scheme as scheme
use Rattle.code_gen.specs.Scheme.{Target, whole, item, expr_piece, args_piece, optional_piece, left_target, call_piece, loop_piece}
use Rattle.code_gen.specs.Seen.{scene_of, spot_of, callee_of, path_spot, path_callee}
use Rattle.code_gen.specs.Views.{piece_of}
use Rattle.code_gen.specs.declared.classes.Callee.{Callee}
use Rattle.code_gen.specs.declared.classes.Scene.{Scene}
use Rattle.code_gen.specs.declared.classes.Spot.{Spot as CodeSpot}
use Rattle.code_gen.specs.declared.piece.Piece.{Piece as CodePiece}

-- the code has this spot of the scheme
abbrev pub IsSpot : CodeSpot → Spot → Type 0
IsSpot found spot = clip_spot (spot_of found) ≡ clip_spot spot

-- the code has this piece of the scheme
abbrev pub IsPiece : CodePiece → Piece → Type 0
IsPiece made piece = piece_of made ≡ clip piece

-- the result is this piece of the scheme, unless memory ran out
abbrev pub Makes : Result CodePiece NoMemory → Piece → Type 0
Makes result piece = IfOk result (λ made. piece_of made ≡ clip piece)

-- whatever piece of the scheme `inner` is, the result is `around` of it
abbrev pub MakesWith : Result CodePiece NoMemory → CodePiece → (Piece → Piece) → Type 0
MakesWith result inner around = (a : Piece) → IsPiece inner a → Makes result (around a)

-- the same around two others
abbrev pub MakesWithBoth : Result CodePiece NoMemory → CodePiece → CodePiece → (Piece → Piece → Piece) → Type 0
MakesWithBoth result inner other around = (a b : Piece) → IsPiece inner a → IsPiece other b → Makes result (around a b)

-- what an assignment stores in: the whole of what a path names, its item at an index, or a left side
abbrev pub whole_at : Scene → Path → Target
whole_at scene path = whole (path_spot scene path)

abbrev pub item_at : Scene → Path → Expr → Target
item_at scene path index = item (path_spot scene path) (expr_piece (scene_of scene) (typed_expr index))

abbrev pub target_of : Scene → Left → Target
target_of scene left = left_target (scene_of scene) (typed_left left)

-- the tree of an assignment
abbrev pub assignment : Left → Option PairOp → Expr → t.Statement
assignment left op value = t.assigns (typed_left left) op (typed_expr value)

-- a loop with a body and a step, by its condition, if it has one
abbrev pub loop_of : Scene → Option Expr → Piece → Piece → Piece
loop_of scene cond = loop_piece (optional_piece (scene_of scene) (option_map typed_expr cond))

-- a call of what was found; the numbers in its arguments are cut off already
abbrev pub call_of : Scene → Callee → List Expr → Piece
call_of scene found list = call_piece (scene_of scene).program (callee_of found) (λ casts. clip (args_piece (scene_of scene) (typed_args list) casts))

-- a call of what a path calls, whose value is used, and one whose value is dropped
abbrev pub value_call : Scene → Path → List Expr → Piece
value_call scene path list = scheme.value_call (scene_of scene) (path_callee scene path) (args_piece (scene_of scene) (typed_args list))

abbrev pub bare_call : Scene → Path → List Expr → Piece
bare_call scene path list = scheme.bare_call (scene_of scene) (path_callee scene path) (args_piece (scene_of scene) (typed_args list))
