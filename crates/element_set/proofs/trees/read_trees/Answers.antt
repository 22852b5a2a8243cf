use Rattle.std.proofs.Common.{ℕ, ◌≡◌, ◌+◌, List, [], ◌∷◌, length, map, drop, get_or, ◌<◌, Ok, Err, inr, sym, ap, subst, ◌∙◌, arith}
use Rattle.std.proofs.lemmas.List.{drop_more, length-append, length-map}
use Rattle.feast_base.specs.Outside.{File}
use Rattle.ulam_tree.specs.RawViews.{file_of}
use Rattle.element_set.specs.declared.trees.Tree.{Tree}
use Rattle.element_set.specs.declared.trees.Trees.{Trees}
use Rattle.element_set.specs.Stages as stage
use Rattle.element_set.specs.Told.{Tells, tree_value, trees_value}
use Rattle.element_set.proofs.Telling.{tells_exit, tells_halt, tells_via}
use Rattle.element_set.proofs.trees.read_trees.Goals as goal

-- the files that are left, of which one more is next
next_file : (files : List File) (i : ℕ) (file : File) → i < length files → file ≡ get_or files i file → drop i files ≡ file ∷ drop (i + 1) files
next_file files i file lt is = drop_more files i file lt ∙ ap (λ (f : File). f ∷ drop (i + 1) files) (sym is)

-- the number of the next file
next_number : (done : Trees) (number i : ℕ) → number ≡ i → length done.files.items ≡ i → number ≡ length (trees_value done).files
next_number done number i a b = omega (arith, a, b, length-map done.files.items file_of)

pub returns-in_err-tree-clause-trees : goal.returns-in_err-tree-clause-trees
returns-in_err-tree-clause-trees c =
    let files = c.args.files.now in
    let i = c.loop-file.file-index in
    let done = c.loop-file.done in
    let file = c.file-item.result in
    let fault = c.in_err-tree.field-0.0 in
    let left = next_file files i file c.loop-file-test.true c.file-item.is in
    let number = next_number done c.loop-file.number i c.loop-file.invariant.number c.loop-file.invariant.files in
    let told = subst (λ n. Tells {X = Tree} tree_value (stage.tree_of n c.bytes.result.now) (Err fault)) number c.in_err-tree.ensures in
    let same = subst (λ bs. Tells {X = Tree} tree_value (stage.tree_of (length (trees_value done).files) bs) (Err fault)) c.bytes.ensures told in
    let halt = tells_halt Tree Trees tree_value trees_value (stage.tree_of (length (trees_value done).files) file.1) (λ (x : stage.Tree). stage.more_trees (stage.with_tree (trees_value done) x) (drop (i + 1) files)) fault same in
    let rest = subst (λ fs. Tells {X = Trees} trees_value (stage.more_trees (trees_value done) fs) (Err fault)) (sym left) halt in
    tells_exit trees_value (stage.more_trees stage.no_trees files) fault c.from_residual.result c.from_residual.ensures.1 (tells_via Trees trees_value (stage.more_trees (trees_value done) (drop i files)) (stage.more_trees stage.no_trees files) fault c.loop-file.invariant.rest rest)

pub loop-file-preserved : goal.loop-file-preserved
loop-file-preserved c =
    let files = c.args.files.now in
    let i = c.loop-file.file-index in
    let done = c.loop-file.done in
    let file = c.file-item.result in
    let tree = c.in_ok-tree.tree in
    let left = next_file files i file c.loop-file-test.true c.file-item.is in
    let number = next_number done c.loop-file.number i c.loop-file.invariant.number c.loop-file.invariant.files in
    let added = c.in_ok-add.ensures in
    let new = c.add.new.trees in
    let grown = ap (λ (x : stage.Trees). length x.files) added in
    let more = ap (λ (x : stage.Trees). length x.heads) added in
    let told = subst (λ n. stage.tree_of n c.bytes.result.now (Ok (tree_value tree))) number c.in_ok-tree.ensures in
    let same = subst (λ bs. stage.tree_of (length (trees_value done).files) bs (Ok (tree_value tree))) c.bytes.ensures told in
    record {
      number = omega (arith, c.loop-file.invariant.number);
      files = omega (arith, c.loop-file.invariant.files, grown, length-map new.files.items file_of, length-map done.files.items file_of, length-append (map file_of done.files.items) (file_of tree.file ∷ []));
      heads = omega (arith, c.loop-file.invariant.heads, more, length-append done.heads.items (tree.heads ∷ []));
      rest = λ o h. c.loop-file.invariant.rest o (subst (λ fs. stage.more_trees (trees_value done) fs o) (sym left) (inr (record { value = tree_value tree; passed = same; rest = subst (λ x. stage.more_trees x (drop (i + 1) files) o) added h })));
    }
