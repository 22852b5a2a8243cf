-- What holds of the items of each text's tree holds of the items of all files.
use Rattle.std.proofs.Common.{ℕ, List, [], ◌∷◌, ◌++◌, length, Ok, sym, subst}
use Rattle.feast_base.specs.Outside.{File}
use Rattle.feast_base.proofs.Stages.{went}
use Rattle.ulam_tree.specs.Raw.{Item}
use Rattle.element_set.specs.Stages.{Tree, Trees, tree_of, more_trees, with_tree}

abbrev pub EachFile : (List Item → Type 0) → List (List Item) → Type 0
EachFile P [] = Unit {0}
EachFile P (f ∷ fs) = P f × EachFile P fs

each_more : (P : List Item → Type 0) (fs : List (List Item)) (f : List Item) → EachFile P fs → P f → EachFile P (fs ++ f ∷ [])
each_more P [] f all here = (here, tt)
each_more P (g ∷ fs) f all here = (all.0, each_more P fs f all.1 here)

pub trees_hold : (P : List Item → Type 0) → ((file : ℕ) (bytes : List ℕ) (x : Tree) → tree_of file bytes (Ok x) → P x.items) → (done : Trees) (fs : List File) (x : Trees) → more_trees done fs (Ok x) → EachFile P done.files → EachFile P x.files
trees_hold P one done [] x h all = subst (λ (y : Trees). EachFile P y.files) (sym h) all
trees_hold P one done (f ∷ fs) x h all =
    let g = went (tree_of (length done.files) f.1) (λ y. more_trees (with_tree done y) fs) x h in
    trees_hold P one (with_tree done g.value) fs x g.rest (each_more P done.files g.value.items all (one (length done.files) f.1 g.value g.passed))
