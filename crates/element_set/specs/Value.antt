-- What a set of elements is seen as.
use Rattle.std.specs.Prelude.{ℕ, List}
use Rattle.ulam_tree.specs.Typed as t
use Rattle.ulam_meaning.specs.Programs.{Program}

-- a set of elements: all classes of all files in order, and the bits of the data members of each
pub record SetValue : Type 0 where
  pub classes : List t.Class
  pub layout : List (List ℕ)

-- the same as the program that its elements' events mean
abbrev pub program_of : SetValue → Program
program_of s = record { classes = s.classes; layout = s.layout }
