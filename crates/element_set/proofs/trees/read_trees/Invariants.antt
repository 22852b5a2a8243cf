use Rattle.std.proofs.Common.{◌≡◌, length, drop, Result}
use Rattle.feast_base.specs.declared.place.Refusal.{Refusal}
use Rattle.element_set.specs.Stages as stage
use Rattle.element_set.specs.Told.{trees_value}
use Rattle.element_set.proofs.trees.read_trees.Given as goal

abbrev pub invariant-loop-file : goal.invariant-loop-file
invariant-loop-file l = record {
  number : l.number ≡ l.file-index;
  files : length l.done.files.items ≡ l.file-index;
  heads : length l.done.heads.items ≡ l.file-index;
  rest : (o : Result stage.Trees Refusal) → stage.more_trees (trees_value l.done) (drop l.file-index l.files) o → stage.more_trees stage.no_trees l.files o;
}
