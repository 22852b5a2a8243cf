-- Files have one set or one refusal, and never both.
use Rattle.std.proofs.Common.{ℕ, ◌≡◌, List, [], ◌∷◌, length, Option, Some, None, sym, ap, ◌∙◌}
use Rattle.list_laws.proofs.Options.{some_once}
use Rattle.feast_base.specs.Outside.{File}
use Rattle.feast_base.proofs.Stages.{gives_one, then_one}
use Rattle.feast_base.specs.Stages.{IsOne, every}
use Rattle.feast_base.specs.declared.place.Refusal.{Refusal}
use Rattle.ulam_lex.specs.declared.token.Token.{Token}
use Rattle.ulam_lex.proofs.OneReading.{one_list, list_or_fault, one_fault_of}
use Rattle.ulam_parse.specs.Tokens.{toks}
use Rattle.ulam_parse.proofs.Verdicts as parse
use Rattle.ulam_heirs.specs.Heads.{tokens_left}
use Rattle.ulam_tree.specs.Raw.{Item}
use Rattle.ulam_tree.specs.Resolved as r
use Rattle.ulam_names.proofs.ClassFits.{one_program as one_resolution}
use Rattle.ulam_names.proofs.ClassMeans.{no_fault as no_name_fault}
use Rattle.code_gen.proofs.ElementCodes.{all_nor_first, first_is_one}
use Rattle.ulam_types.proofs.Classes.{one_program as one_typing, no_fault as no_type_fault}
use Rattle.element_set.specs.declared.fault.BuildFault.{BuildFault}
use Rattle.element_set.specs.declared.fault.BuildFault.TheVariants.{Refused}
use Rattle.code_gen.specs.Compiling.{long_place}
use Rattle.element_set.specs.Faults.{refusal, lex_fault, parse_fault, heirs_fault, name_refusal, layout_fault, type_refusal}
use Rattle.element_set.specs.Stages.{lex_stage, Tree, parse_stage, tree_of, Trees, no_trees, with_tree, more_trees, flat, name_stage, layout_stage, type_stage, limit_stage, typed_set, laid_set, named_set, flat_set, set_of}
use Rattle.element_set.specs.Value.{SetValue, program_of}

-- a fault that is told as two refusals
told_one : {F : Type 0} (told : F → BuildFault) (f g : F) (a b : Refusal) → f ≡ g → told f ≡ Refused a → told g ≡ Refused b → a ≡ b
told_one told f g a b e h k = let q : Refused a ≡ Refused b = sym h ∙ ap told e ∙ k in cc

none_some : {F : Type 0} (o : Option F) (f : F) → o ≡ None → o ≡ Some f → ⊥
none_some o f h k = let q : None ≡ Some f = sym h ∙ k in cc

lexed_one : (file : ℕ) (bytes : List ℕ) → IsOne every (lex_stage file bytes)
lexed_one file bytes = record {
  sure = record { apart = λ a e counts h k. list_or_fault file bytes a k.0 h.0 h.1 k.1; one_halt = λ a b counts count h k. told_one lex_fault h.0 k.0 a b (one_fault_of file bytes h.0 k.0 h.1 k.1) h.2 k.2 };
  one_value = λ a b h k. one_list file bytes a b h.0 k.0;
}

tree_same : (a b : Tree) → a.items ≡ b.items → a.heads ≡ b.heads → a ≡ b
tree_same a b p q = λ i. record { items = p i; heads = q i }

parsed_one : (bytes : List ℕ) (ts : List Token) → IsOne every (parse_stage bytes ts)
parsed_one bytes ts =
    let us = toks bytes (tokens_left bytes ts) in
    record {
      sure = record { apart = λ a e counts h k. parse.no_fault us a.items k.0 h.0 k.1; one_halt = λ a b counts count h k. told_one parse_fault h.0 k.0 a b (parse.one_fault us h.0 k.0 h.1 k.1) h.2 k.2 };
      one_value = λ a b h k. tree_same a b (parse.one_tree us a.items b.items h.0.0 k.0.0) (h.1 ∙ sym k.1);
    }

more_one : (done : Trees) (fs : List File) → IsOne every (more_trees done fs)
more_one done [] = gives_one done
more_one done (f ∷ fs) =
    then_one (tree_of (length done.files) f.1) (λ (x : Tree). more_trees (with_tree done x) fs)
    (then_one (lex_stage (length done.files) f.1) (parse_stage f.1) (lexed_one (length done.files) f.1) (parsed_one f.1))
    (λ x. more_one (with_tree done x) fs)

flat_one : (x : Trees) → IsOne every (flat x)
flat_one x = record {
  sure = record { apart = λ a e counts h k. none_some _ k.0 h.0 k.1; one_halt = λ a b counts count h k. told_one heirs_fault h.0 k.0 a b (some_once _ h.0 k.0 h.1 k.1) h.2 k.2 };
  one_value = λ a b h k. h.1 ∙ sym k.1;
}

named_one : (xs : List Item) → IsOne every (name_stage xs)
named_one xs = record {
  sure = record { apart = λ a e counts h k. none_some _ k.0 (no_name_fault xs a h) k.1; one_halt = λ a b counts count h k. h.2 ∙ ap name_refusal (some_once _ h.0 k.0 h.1 k.1) ∙ sym k.2 };
  one_value = λ a b h k. one_resolution xs a b h k;
}

laid_one : (cs : List r.Class) → IsOne every (layout_stage cs)
laid_one cs = record {
  sure = record { apart = λ a e counts h k. none_some _ k.0 h.0 k.1; one_halt = λ a b counts count h k. told_one layout_fault h.0 k.0 a b (some_once _ h.0 k.0 h.1 k.1) h.2 k.2 };
  one_value = λ a b h k. h.1 ∙ sym k.1;
}

typed_one : (cs : List r.Class) → IsOne every (type_stage cs)
typed_one cs = record {
  sure = record { apart = λ a e counts h k. none_some _ k.0 (no_type_fault cs a h) k.1; one_halt = λ a b counts count h k. h.2 ∙ ap type_refusal (some_once _ h.0 k.0 h.1 k.1) ∙ sym k.2 };
  one_value = λ a b h k. one_typing cs a b h k;
}

coded_one : (s : SetValue) → IsOne every (limit_stage s)
coded_one s = record {
  sure = record { apart = λ a e counts h k. all_nor_first (program_of s) k.0 h.0 k.1; one_halt = λ a b counts count h k. h.2 ∙ ap (λ c. refusal 60 (long_place s.classes c)) (first_is_one (program_of s) h.0 k.0 h.1 k.1) ∙ sym k.2 };
  one_value = λ a b h k. h.1 ∙ sym k.1;
}

typed_set_one : (cs : List r.Class) (l : List (List ℕ)) → IsOne every (typed_set cs l)
typed_set_one cs l = then_one (type_stage cs) _ (typed_one cs) (λ us. coded_one (record { classes = us; layout = l }))

laid_set_one : (cs : List r.Class) → IsOne every (laid_set cs)
laid_set_one cs = then_one (layout_stage cs) (typed_set cs) (laid_one cs) (typed_set_one cs)

named_set_one : (xs : List Item) → IsOne every (named_set xs)
named_set_one xs = then_one (name_stage xs) laid_set (named_one xs) laid_set_one

flat_set_one : (x : Trees) → IsOne every (flat_set x)
flat_set_one x = then_one (flat x) named_set (flat_one x) named_set_one

pub set_one : (files : List File) → IsOne every (set_of files)
set_one files = then_one (more_trees no_trees files) flat_set (more_one no_trees files) flat_set_one
