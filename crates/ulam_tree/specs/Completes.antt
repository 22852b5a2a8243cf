-- Whether the end of a body can be reached: the same before and after types are known.
use Rattle.std.specs.Prelude.{Bool, true, false, ◌&&◌, ◌||◌}
use Rattle.ulam_tree.specs.Statements.{Statement, Part, Body, block, if_so, returns, breaks, continues, no_part, part, no_more, then_so}

-- A statement completes if it may go on to the next one. `return`, `break` and `continue` do not; a block does unless one of its statements does not; an `if` with `else` does unless both branches do not; all others do.
abbrev mutual
  pub completes : {E A : Type 0} → Statement E A → Bool
  completes (block b) = all_complete b
  completes (if_so c x y) = completes x || part_completes y
  completes (returns p e) = false
  completes (breaks p) = false
  completes (continues p) = false
  completes x = true

  -- an `if` without `else` is as if that completed
  pub part_completes : {E A : Type 0} → Part E A → Bool
  part_completes no_part = true
  part_completes (part x) = completes x

  pub all_complete : {E A : Type 0} → Body E A → Bool
  all_complete no_more = true
  all_complete (then_so x b) = completes x && all_complete b
