-- What a call answers by a stage.
use Rattle.std.specs.Prelude.{List, flat_map, Result, Ok, Err}
use Rattle.feast_base.specs.Stages.{Stage}
use Rattle.feast_base.specs.declared.place.Refusal.{Refusal}
use Rattle.ulam_tree.specs.Raw.{Item}
use Rattle.ulam_tree.specs.RawViews.{file_of}
use Rattle.ulam_heirs.specs.Heads.{Heads}
use Rattle.ulam_heirs.specs.Files.{flat_files}
use Rattle.ulam_heirs.specs.Views.{files_of}
use Rattle.element_set.specs.declared.trees.Tree.{Tree}
use Rattle.element_set.specs.declared.trees.Trees.{Trees}
use Rattle.element_set.specs.Stages as stage
use Rattle.element_set.specs.declared.fault.BuildFault.{BuildFault}
use Rattle.element_set.specs.declared.fault.BuildFault.TheVariants.{Refused, NoMemory}
use Rattle.element_set.specs.Faults.{Coded}

-- an outcome of the stage, of which a refusal has a text; or memory ran out
abbrev pub Tells : {X A : Type 0} → (X → A) → Stage A Refusal → Result X BuildFault → Type 0
Tells value S (Ok x) = S (Ok (value x))
Tells value S (Err (Refused r)) = S (Err r) × Coded r.code
Tells value S (Err NoMemory) = Unit {0}

abbrev pub tree_value : Tree → stage.Tree
tree_value x = record { items = file_of x.file; heads = x.heads }

abbrev pub trees_value : Trees → stage.Trees
trees_value x = record { files = files_of x.files.items; heads = x.heads.items }

-- the items of all flat files in a row
abbrev pub flat_row : List (List Item) → List Heads → List Item
flat_row files heads = flat_map (λ (f : List Item). f) (flat_files files heads)
