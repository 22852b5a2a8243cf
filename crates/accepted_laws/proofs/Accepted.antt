-- Accepted files have trees.
use Rattle.std.proofs.Common.{◌≡◌, ℕ, ◌+◌, List, [], ◌∷◌, ◌++◌, length, Ok, refl, sym, ap, ◌∙◌, subst, arith}
use Rattle.std.proofs.lemmas.List.{length-append}
use Rattle.feast_base.proofs.Stages.{went}
use Rattle.feast_base.specs.Outside.{File}
use Rattle.ulam_tree.specs.Typed as t
use Rattle.ulam_names.specs.ClassRelation.{IsResolved}
use Rattle.element_set.specs.Sets.{AcceptsFiles, SetValue}
use Rattle.element_set.specs.Stages.{Tree, Trees, tree_of, more_trees, no_trees, with_tree, flat_set, named_set, laid_set, typed_set, limit_stage}
use Rattle.accepted_laws.specs.Accepted.{HaveTrees}

-- as many heads as files
each_has : (done : Trees) (fs : List File) (x : Trees) → length done.files ≡ length done.heads → more_trees done fs (Ok x) → length x.files ≡ length x.heads
each_has done [] x e h = subst (λ (y : Trees). length y.files ≡ length y.heads) (sym h) e
each_has done (f ∷ fs) x e h =
    let g = went (tree_of (length done.files) f.1) (λ (y : Tree). more_trees (with_tree done y) fs) x h in
    let files = length-append done.files (g.value.items ∷ []) in
    let heads = length-append done.heads (g.value.heads ∷ []) in
    each_has (with_tree done g.value) fs x (omega (arith, e, files, heads)) g.rest

pub have_trees : (files : List File) (set : SetValue) → AcceptsFiles files set → HaveTrees files set
have_trees files set h =
    let trees = went (more_trees no_trees files) flat_set set h in
    let flat = went _ named_set set trees.rest in
    let named = went _ laid_set set flat.rest in
    let laid = went _ (typed_set named.value) set named.rest in
    let typed = went _ (λ (us : List t.Class). limit_stage (record { classes = us; layout = laid.value })) set laid.rest in (
      record {
        files = trees.value.files;
        heads = trees.value.heads;
        classes = named.value;
        tree = typed.value;
        each = each_has no_trees files trees.value refl trees.passed;
        sound = flat.passed.0;
        resolved = subst (λ xs. IsResolved xs named.value) flat.passed.1 named.passed;
        typed = typed.passed;
      },
      record {
        read = trees.passed;
        tree = ap (λ (s : SetValue). s.classes) typed.rest.1;
        layout = ap (λ (s : SetValue). s.layout) typed.rest.1 ∙ laid.passed.1;
      },
    )
