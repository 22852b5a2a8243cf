-- Programs whose names are looked up and whose types are known are what the compiler asks for.
use Rattle.std.proofs.Common.{◌≡◌, ℕ, false, List, map, Some, None, arith}
use Rattle.std.specs.Prelude.{slice_get}
use Rattle.ulam_tree.specs.declared.resolved.Ty.{Ty}
use Rattle.ulam_tree.specs.Raw as raw
use Rattle.ulam_tree.specs.Resolved as r
use Rattle.ulam_tree.specs.Typed as t
use Rattle.ulam_names.specs.Scopes.{Text, Head}
use Rattle.ulam_names.specs.Classes.{head_of}
use Rattle.ulam_names.specs.ClassRelation.{IsResolved}
use Rattle.ulam_names.proofs.Apart.{none_contains}
use Rattle.atom_layout.specs.Layouts.{layout_of, first_wide}
use Rattle.type_rules.specs.Programs.{class_sig}
use Rattle.type_rules.specs.ProgramTyping.{IsTypedProgram}
use Rattle.ulam_types.proofs.WellPrograms.{program_well}
use Rattle.ulam_meaning.specs.Programs.{Program, members_of, field_at, function_at, behave_of}
use Rattle.code_gen.specs.Named.{IsNamedProgram, HasBehave}
use Rattle.code_gen.specs.Compiling.{IsCompilable}
use Rattle.code_gen.proofs.TypedFields.{typed_laid_out}
use Rattle.source_laws.proofs.Halves.{classes_good}
use Rattle.source_laws.proofs.Classes.{NamedClass, field_types, classes_named, classes_behave}

module _ (xs : List raw.Item) (cs : List r.Class) (us : List t.Class) (layout : List (List ℕ)) (resolved : IsResolved xs cs) (typed : IsTypedProgram cs us) where
  abbrev program : Program
  program = record { classes = us; layout = layout }

  abbrev heads : List Head
  heads = map head_of resolved.halves

  fields_seen : (k i : ℕ) (h : Head) (p : Text × Ty) → slice_get heads k ≡ Some h → slice_get h.fields i ≡ Some p → (field_at program k i).ty ≡ p.1
  unfolding field_at
  fields_seen k i h p at e = field_types resolved.known heads (map class_sig cs) 0 resolved.halves cs us k i h p (classes_good resolved.known xs resolved.halves resolved.declared resolved.behave) resolved.whole typed at e

  class_named : (k : ℕ) → NamedClass program k (members_of program k)
  class_named k = classes_named resolved.known heads (map class_sig cs) program fields_seen 0 resolved.halves cs us k k (omega arith) (classes_good resolved.known xs resolved.halves resolved.declared resolved.behave) resolved.whole typed

  pub program_named : IsNamedProgram program
  unfolding field_at function_at
  program_named = record {
    fields = λ c m. (class_named c).wide m;
    slots = λ f. ((class_named f.class).named f.function).slots;
    few = λ f. ((class_named f.class).named f.function).few;
    results = λ f. ((class_named f.class).named f.function).result;
    bodies = λ f. ((class_named f.class).named f.function).body f.base;
  }

  pub element_behaves : (c : ℕ) (u : t.Class) → slice_get us c ≡ Some u → u.quark ≡ false → HasBehave program c
  unfolding function_at behave_of
  element_behaves c u at e =
      let b = classes_behave resolved.known heads (map class_sig cs) 0 resolved.halves cs us c u (classes_good resolved.known xs resolved.halves resolved.declared resolved.behave) resolved.whole typed at e in
      record { no_params = b.0; no_result = b.1 }

pub compilable : (xs : List raw.Item) (cs : List r.Class) (us : List t.Class) → IsResolved xs cs → first_wide cs ≡ None → IsTypedProgram cs us → IsCompilable (record { classes = us; layout = layout_of cs })
compilable xs cs us resolved narrow typed = record {
  well = program_well cs us typed;
  named = program_named xs cs us (layout_of cs) resolved typed;
  laid = typed_laid_out cs us (none_contains xs cs resolved) narrow typed;
  acts = element_behaves xs cs us (layout_of cs) resolved typed;
}
