-- The limits of code: 65,536 instructions, and 512 operands at each place.
use Rattle.std.specs.Prelude.{◌≡◌, ◌≤◌, Bool, true, ◌&&◌, is_some, List, [], ◌∷◌}
use Rattle.code_gen.specs.Pieces.{Key}
use Rattle.code_gen.specs.Drafts.{Drafts, key_piece, keys, total}
use Rattle.code_gen.specs.Depths.{depth}
use Rattle.stack_code.specs.declared.limits.TheConstants.{MOST_INSTRS}

-- whether no place of these functions has more than 512 operands
abbrev pub all_low : Drafts → List Key → Bool
all_low g [] = true
all_low g (f ∷ fs) = is_some (depth g (key_piece g f) 0) && all_low g fs

-- the limits let the code of an element through
pub record IsShort (g : Drafts) (main : Key) : Type 0 where
  pub few : total g (keys g main) ≤ MOST_INSTRS
  pub low : all_low g (keys g main) ≡ true
