-- Files that no stage refuses, by their trees.
use Rattle.std.specs.Prelude.{ℕ, ◌≡◌, List, length, map, None, Ok}
use Rattle.feast_base.specs.Outside.{File}
use Rattle.ulam_tree.specs.Raw.{Item}
use Rattle.ulam_tree.specs.Resolved as r
use Rattle.ulam_tree.specs.Typed as t
use Rattle.ulam_heirs.specs.Heads.{Heads}
use Rattle.ulam_heirs.specs.Lines.{Heir}
use Rattle.ulam_heirs.specs.Faults.{files_fault}
use Rattle.ulam_heirs.specs.Files.{all_heirs}
use Rattle.ulam_names.specs.ClassRelation.{IsResolved}
use Rattle.atom_layout.specs.Layouts.{layout_of}
use Rattle.type_rules.specs.ProgramTyping.{IsTypedProgram}
use Rattle.element_set.specs.Sets.{SetValue}
use Rattle.element_set.specs.Told.{flat_row}
use Rattle.element_set.specs.Stages.{more_trees, no_trees}

-- The items of each file, and what was taken out of its tokens; the classes to which names lead once each class has the
-- members of its bases; and the typed tree of these classes. No class has a fault of bases.
pub record AcceptedTrees : Type 0 where
  pub files : List (List Item)
  pub heads : List Heads
  pub classes : List r.Class
  pub tree : List t.Class
  pub each : length files ≡ length heads
  pub sound : files_fault files heads ≡ None
  pub resolved : IsResolved (flat_row files heads) classes
  pub typed : IsTypedProgram classes tree

-- the classes as they are written, each with the name of its base
abbrev pub heirs : AcceptedTrees → List Heir
heirs x = all_heirs x.files x.heads

-- a number means the same class among the classes as they are written and in the typed tree
abbrev pub NumbersAgree : AcceptedTrees → Type 0
NumbersAgree x = map (λ (c : t.Class). c.word) x.tree ≡ map (λ (h : Heir). h.class.word) (heirs x)

-- these are the trees of files, and their set has the typed tree and the layout of its classes
pub record AreTreesOf (files : List File) (set : SetValue) (x : AcceptedTrees) : Type 0 where
  pub read : more_trees no_trees files (Ok (record { files = x.files; heads = x.heads }))
  pub tree : set.classes ≡ x.tree
  pub layout : set.layout ≡ layout_of x.classes

-- files have trees, and their set is made of them
abbrev pub HaveTrees : List File → SetValue → Type 0
HaveTrees files set = (x : AcceptedTrees) × AreTreesOf files set x
