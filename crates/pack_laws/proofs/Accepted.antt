-- The set of files that no stage refuses, as a code file.
use Rattle.std.proofs.Common.{ℕ, ◌≡◌, ◌≤◌, List, [], length, Ok, Result, sym, ap, subst, ◌∙◌, arith}
use Rattle.std.specs.Prelude.{true}
use Rattle.std.proofs.lemmas.List.{length-map}
use Rattle.window_sites.specs.Window.{WindowValue}
use Rattle.feast_base.proofs.Stages.{went}
use Rattle.feast_base.specs.Outside.{File}
use Rattle.feast_base.specs.TypeNames.{is_type_name}
use Rattle.ulam_lex.proofs.Spans.{in_order}
use Rattle.ulam_parse.specs.Tokens.{toks}
use Rattle.ulam_heirs.specs.Heads.{tokens_left}
use Rattle.ulam_tree.specs.Typed as t
use Rattle.ulam_meaning.specs.Programs.{element_classes}
use Rattle.ulam_meaning.specs.Events as meaning
use Rattle.code_gen.specs.Compiling.{AreShort, IsCompilable, class_code, element_codes}
use Rattle.source_laws.proofs.Programs.{compilable}
use Rattle.element_set.specs.Names.{AreNamed}
use Rattle.element_set.specs.Sets.{AcceptsFiles, SetValue, element_names, program_of}
use Rattle.element_set.specs.Stages.{Tree, limit_stage, flat_set, laid_set, lex_stage, more_trees, named_set, no_trees, parse_stage, tree_of, typed_set}
use Rattle.element_set.proofs.Counting.{element_count, elements_counted, few_elements}
use Rattle.element_set.proofs.FormedNames.{names_formed}
use Rattle.element_set.proofs.Named.{resolved_named, typed_named}
use Rattle.element_set.proofs.TreesHold.{trees_hold}
use Rattle.element_set.proofs.NewNames.{new_elements}
use Rattle.code_file.specs.Acting.{after}
use Rattle.code_file.specs.Form.{CodesValue, IsSayable, codes_of, file_bytes, names_of}
use Rattle.code_file.specs.Judging.{Reads}
use Rattle.code_file.specs.Right.{AreRight}
use Rattle.code_file.specs.declared.fault.CodeFault.{CodeFault}
use Rattle.code_file.proofs.FileLaws.{reads_one}
use Rattle.code_file.proofs.Rightness.{written_reads}
use Rattle.code_file.proofs.Sets.{codes_are, elements_long, names_are}
use Rattle.pack_laws.specs.Packed.{codes_of_set}
use Rattle.pack_laws.proofs.Elements.{all_at, are_elements, are_right, code_valid, element_at, is_element}
use Rattle.pack_laws.proofs.FlatWords.{flat_files_formed}
use Rattle.pack_laws.proofs.FormedWords.{ItemsFormed, file_formed, text_formed}
use Rattle.pack_laws.proofs.Meanings.{codes_mean}
use Rattle.pack_laws.proofs.TypedWords.{ClassesFormed, typed_formed}

-- Stages

tree_formed : (file : ℕ) (bytes : List ℕ) (x : Tree) → tree_of file bytes (Ok x) → ItemsFormed x.items
tree_formed file bytes x h =
    let p = went (lex_stage file bytes) (parse_stage bytes) x h in
    file_formed x.items (toks bytes (tokens_left bytes p.value)) p.rest.0.0 (text_formed bytes p.value (in_order file bytes p.value p.passed.0))

-- what is known of a set that files have
record IsAccepted (set : SetValue) : Type 0 where
  pub compiles : IsCompilable (program_of set)
  pub short : AreShort (program_of set)
  pub named : AreNamed set.classes
  pub formed : ClassesFormed set.classes

accepted : (files : List File) (set : SetValue) → AcceptsFiles files set → IsAccepted set
accepted files set h =
    let trees = went (more_trees no_trees files) flat_set set h in
    let flat = went _ named_set set trees.rest in
    let named = went _ laid_set set flat.rest in
    let laid = went _ (typed_set named.value) set named.rest in
    let typed = went _ (λ (us : List t.Class). limit_stage (record { classes = us; layout = laid.value })) set laid.rest in
    let items = subst ItemsFormed (sym flat.passed.1) (flat_files_formed trees.value.files trees.value.heads (trees_hold ItemsFormed tree_formed no_trees files trees.value trees.passed tt)) in
    let compiles = subst (λ (l : List (List ℕ)). IsCompilable (record { classes = typed.value; layout = l })) (sym laid.passed.1) (compilable flat.value named.value typed.value named.passed laid.passed.0 typed.passed) in
    subst IsAccepted (sym typed.rest.1)
    (record {
      compiles = compiles;
      short = typed.rest.0;
      named = typed_named named.value typed.value typed.passed (resolved_named flat.value named.value named.passed);
      formed = typed_formed flat.value named.value typed.value items named.passed typed.passed;
    })

-- The laws

-- as many names as codes
same_length : (set : SetValue) → length (element_names set) ≡ length (element_codes (program_of set))
same_length set = sym (element_count 0 set.classes) ∙ sym (length-map (element_classes 0 set.classes) (class_code (program_of set)))

pub sayable : (files : List File) (set : SetValue) → AcceptsFiles files set → IsSayable (codes_of_set set)
sayable files set h =
    let a = accepted files set h in
    let g = program_of set in
    let ns = element_names set in
    let cs = element_codes g in
    let es = codes_of_set set in
    let long = elements_long ns cs (same_length set) in
    let few : length es ≤ 256 = omega (arith, long, few_elements set.classes, a.named.few) in
    let counted = elements_counted set.classes in
    record {
      few = few;
      each = are_elements (length es) 1 es (λ k e at.
          let parts = element_at ns cs k e at in
          is_element g a.compiles a.short a.formed (length es) k e (omega (arith, counted, long)) (omega (arith, few)) (all_at (λ (n : List ℕ). is_type_name n ≡ true) ns k e.name (names_formed files set h) parts.0) parts.1);
    }

pub right : (files : List File) (set : SetValue) → AcceptsFiles files set → AreRight (codes_of_set set)
right files set h =
    let a = accepted files set h in
    let g = program_of set in
    are_right (element_names set) (element_codes g) (same_length set) (new_elements [] [] set.classes (λ n e. e) a.named.new) (code_valid g a.compiles a.short a.formed)

pub names : (set : SetValue) → names_of (codes_of_set set) ≡ element_names set
names set = names_are (element_names set) (element_codes (program_of set)) (same_length set)

pub codes : (set : SetValue) → codes_of (codes_of_set set) ≡ element_codes (program_of set)
codes set = codes_are (element_names set) (element_codes (program_of set)) (same_length set)

pub again : (files : List File) (set : SetValue) → AcceptsFiles files set → Reads (file_bytes (codes_of_set set)) (Ok (codes_of_set set))
again files set h = written_reads (codes_of_set set) (sayable files set h) (right files set h)

-- the reading has no other outcome
pub only : (files : List File) (set : SetValue) → AcceptsFiles files set → (r : Result CodesValue CodeFault) → Reads (file_bytes (codes_of_set set)) r → r ≡ Ok (codes_of_set set)
only files set h r reads = reads_one (file_bytes (codes_of_set set)) r (Ok (codes_of_set set)) reads (again files set h)

pub same : (files : List File) (set : SetValue) → AcceptsFiles files set → (w : WindowValue) (seed : ℕ) → after (codes_of (codes_of_set set)) w seed ≡ meaning.after (program_of set) w seed
same files set h w seed =
    let a = accepted files set h in
    ap (λ cs. after cs w seed) (codes set) ∙ codes_mean (program_of set) a.compiles a.short w seed
