-- The source is accepted, and its elements are Wander and Stone, in this order.
use Rattle.std.proofs.Common.{◌≡◌, ◌<◌, ◌-◌, ◌^◌, List, [], ◌∷◌, All, Result, Ok, Err, codes, length, refl, sym, ap, subst, ◌∙◌, inr, arith}
use Rattle.std.proofs.lemmas.List.Elements.{All-cons, All-nil}
use Rattle.ulam_heirs.specs.Laws.{no_heads}
use Rattle.element_set.proofs.OneSet.{set_one}
use Rattle.element_set.specs.Sets.{SetValue, AcceptsFiles, Builds, RefusesFiles, element_names, set_value}
use Rattle.element_set.specs.declared.fault.BuildFault.{BuildFault}
use Rattle.element_set.specs.declared.fault.BuildFault.TheVariants.{Refused}
use Rattle.element_set.specs.declared.set.ElementSet.{ElementSet}
use Rattle.element_set.specs.Stages.{flat_set, more_trees, no_trees, tree_of, with_tree}
use Rattle.feast_base.specs.Outside.{File}
use Rattle.feast_base.specs.declared.place.Refusal.{Refusal}
use Rattle.feast_run.specs.GeneratedElements.{source_files, source_text}
use Rattle.feast_run.proofs.GeneratedSource.Coding.{are_short, own_set, two_names_of}
use Rattle.feast_run.proofs.GeneratedSource.Lexing.{tokens, are_tokens, few_tokens}
use Rattle.feast_run.proofs.GeneratedSource.Naming.{classes, are_classes, not_wide}
use Rattle.feast_run.proofs.GeneratedSource.Parsing.{are_heads, is_flat, is_tree, no_fault, seen}
use Rattle.feast_run.proofs.GeneratedSource.Trees.{tree}
use Rattle.feast_run.proofs.GeneratedSource.Typing.{typed, are_typed}

read : tree_of 0 source_text (Ok (record { items = tree; heads = no_heads }))
unfolding seen
read = inr (record { value = tokens; passed = (are_tokens, few_tokens); rest = (is_tree, are_heads) })

read_all : more_trees no_trees source_files (Ok (with_tree no_trees (record { items = tree; heads = no_heads })))
read_all = inr (record { value = record { items = tree; heads = no_heads }; passed = read; rest = refl })

built : flat_set (with_tree no_trees (record { items = tree; heads = no_heads })) (Ok own_set)
built = inr (record {
  value = tree;
  passed = (no_fault, is_flat);
  rest = inr (record {
    value = classes;
    passed = are_classes;
    rest = inr (record { value = own_set.layout; passed = (not_wide, refl); rest = inr (record { value = typed; passed = are_typed; rest = (are_short, refl) }) });
  });
})

pub accepted : (set : SetValue) × AcceptsFiles source_files set
accepted = (own_set, inr (record { value = with_tree no_trees (record { items = tree; heads = no_heads }); passed = read_all; rest = built }))

pub two_names : (set : SetValue) → AcceptsFiles source_files set → element_names set ≡ codes "Wander" ∷ codes "Stone" ∷ []
unfolding accepted
two_names set is = ap element_names ((set_one source_files).one_value set accepted.0 is accepted.1) ∙ two_names_of

-- What building the one file answers

pub short : (fs : List File) → fs ≡ source_files → All (λ (f : File). length f.1 < 2 ^ 32 - 1) fs
unfolding source_text
short fs e = subst (λ (l : List File). All (λ (f : File). length f.1 < 2 ^ 32 - 1) l) (sym e) (All-cons (λ (f : File). length f.1 < 2 ^ 32 - 1) (codes "generated", source_text) [] (omega arith) (All-nil (λ (f : File). length f.1 < 2 ^ 32 - 1)))

pub is_set : (fs : List File) (r : Result ElementSet BuildFault) (s : ElementSet) → fs ≡ source_files → Builds fs r → r ≡ Ok s → AcceptsFiles source_files (set_value s)
is_set fs r s e builds is = subst (λ (l : List File). AcceptsFiles l (set_value s)) e (subst (Builds fs) is builds)

pub not_refused : (fs : List File) (r : Result ElementSet BuildFault) (f : Refusal) → fs ≡ source_files → Builds fs r → r ≡ Err (Refused f) → ⊥
not_refused fs r f e builds is = (set_one source_files).sure.apart accepted.0 f tt accepted.1 (subst (λ (l : List File). RefusesFiles l f) e (subst (Builds fs) is builds).0)
