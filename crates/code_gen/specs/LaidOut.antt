-- Typed classes with the layout of the classes whose names were looked up.
use Rattle.std.specs.Prelude.{◌≡◌, List, map, None}
use Rattle.ulam_tree.specs.Resolved as r
use Rattle.ulam_tree.specs.Typed as t
use Rattle.ulam_tree.specs.Ways.{NoneContainsItself}
use Rattle.atom_layout.specs.Layouts.{layout_of, first_wide}
use Rattle.type_rules.specs.Programs.{class_sig}
use Rattle.ulam_meaning.specs.Programs.{Program}

-- the program of typed classes with the layout of others
abbrev pub laid_program : List r.Class → List t.Class → Program
laid_program classes typed = record { classes = typed; layout = layout_of classes }

-- none of the classes contains itself, none is too wide, and the typed ones have the same heads
pub record ShareLayout (classes : List r.Class) (typed : List t.Class) : Type 0 where
  pub apart : NoneContainsItself classes
  pub narrow : first_wide classes ≡ None
  pub same_heads : map class_sig typed ≡ map class_sig classes
