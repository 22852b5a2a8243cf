-- Programs whose names have been looked up and whose types are known.
use Rattle.std.specs.Prelude.{◌≡◌, List, None}
use Rattle.ulam_tree.specs.Raw.{Item}
use Rattle.ulam_tree.specs.Resolved as r
use Rattle.ulam_tree.specs.Typed as t
use Rattle.ulam_names.specs.ClassRelation.{IsResolved}
use Rattle.atom_layout.specs.Layouts.{first_wide}
use Rattle.type_rules.specs.ProgramTyping.{IsTypedProgram}
use Rattle.ulam_meaning.specs.Programs.{Program}
use Rattle.code_gen.specs.LaidOut.{laid_program}

-- the items of all files; the classes to which they are resolved, none of which is too wide; and the
-- typed tree of these classes
pub record Source : Type 0 where
  pub items : List Item
  pub classes : List r.Class
  pub tree : List t.Class
  pub resolved : IsResolved items classes
  pub narrow : first_wide classes ≡ None
  pub typed : IsTypedProgram classes tree

-- the typed tree with the layout of the classes
abbrev pub source_program : Source → Program
source_program source = laid_program source.classes source.tree
