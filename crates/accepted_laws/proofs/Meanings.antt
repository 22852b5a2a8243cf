-- Accepted files are compiled within the limits.
use Rattle.std.proofs.Common.{◌≡◌, List, Ok, sym, subst}
use Rattle.feast_base.proofs.Stages.{went}
use Rattle.feast_base.specs.Outside.{File}
use Rattle.ulam_tree.specs.Typed as t
use Rattle.code_gen.specs.Compiling.{AreShort}
use Rattle.source_laws.specs.Sources.{Source, source_program}
use Rattle.element_set.specs.Sets.{AcceptsFiles, SetValue, program_of}
use Rattle.element_set.specs.Stages.{more_trees, no_trees, flat_set, named_set, laid_set, typed_set, limit_stage}

-- what the stages from names on say of accepted files
pub record Compiled (set : SetValue) : Type 0 where
  pub source : Source
  pub is : program_of set ≡ source_program source
  pub short : AreShort (program_of set)

pub accepted_compiled : (files : List File) (set : SetValue) → AcceptsFiles files set → Compiled set
accepted_compiled files set h =
    let trees = went (more_trees no_trees files) flat_set set h in
    let flat = went _ named_set set trees.rest in
    let named = went _ laid_set set flat.rest in
    let laid = went _ (typed_set named.value) set named.rest in
    let typed = went _ (λ (us : List t.Class). limit_stage (record { classes = us; layout = laid.value })) set laid.rest in
    let source : Source = record { items = flat.value; classes = named.value; tree = typed.value; resolved = named.passed; narrow = laid.passed.0; typed = typed.passed } in
    subst Compiled (sym typed.rest.1) (record { source = source; is = λ i. record { classes = typed.value; layout = laid.passed.1 i }; short = typed.rest.0 })
