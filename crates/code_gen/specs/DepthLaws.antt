-- The depth of a piece and the kinds of its operands.
use Rattle.std.specs.Prelude.{◌≡◌, ℕ, Option, Some, length}
use Rattle.stack_code.specs.Valid.{Kinds}
use Rattle.code_gen.specs.Pieces.{Piece}
use Rattle.code_gen.specs.Kinds.{Setting, ends, shapes, Shallow}
use Rattle.code_gen.specs.Depths.{depth}

-- a piece in a setting, on operands of these kinds
module _ (setting : Setting) (piece : Piece) (kinds : Kinds) where
  -- how many operands there are after it, if no place has too many
  abbrev pub depth_on : Option ℕ
  depth_on = depth setting.drafts piece (length kinds)

  -- if it has a depth, there are as many kinds after it
  abbrev pub DepthIsCount : Type 0
  DepthIsCount = (d : ℕ) → depth_on ≡ Some d → length (ends setting piece kinds) ≡ d

  -- if it has a depth, no place has too many kinds
  abbrev pub DepthIsLow : Type 0
  DepthIsLow = (d : ℕ) → depth_on ≡ Some d → Shallow (shapes setting piece kinds)

  -- it has a depth, namely the number of kinds after it
  abbrev pub HasDepth : Type 0
  HasDepth = depth_on ≡ Some (length (ends setting piece kinds))
