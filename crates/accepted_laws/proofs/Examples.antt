-- The example is accepted.
use Rattle.std.proofs.Common.{◌≡◌, true, List, [], ◌∷◌, None, Result, Ok, Err, refl}
use Rattle.std.specs.Prelude.{is_ok}
use Rattle.std.proofs.lemmas.Bool.{false≢true}
use Rattle.ulam_tree.specs.Raw.{Item}
use Rattle.ulam_tree.specs.Locals.{locals}
use Rattle.ulam_tree.specs.Ways.{leads}
use Rattle.ulam_tree.proofs.Means.{Means}
use Rattle.ulam_heirs.specs.Faults.{files_fault}
use Rattle.ulam_heirs.specs.Lines.{upward}
use Rattle.ulam_names.specs.Scopes.{built_in, of_window, of_random}
use Rattle.ulam_names.specs.Classes.{program}
use Rattle.ulam_names.specs.ClassRelation.{IsResolved}
use Rattle.ulam_names.proofs.ClassMeans.{program_means}
use Rattle.type_rules.specs.Programs as typing
use Rattle.type_rules.specs.Walk.{expr}
use Rattle.type_rules.specs.Bodies.{statement}
use Rattle.type_rules.specs.ProgramTyping.{IsTypedProgram}
use Rattle.ulam_types.proofs.Classes.{program_means as typing_means}
use Rattle.accepted_laws.specs.Accepted.{AcceptedTrees}
use Rattle.element_set.specs.Told.{flat_row}
use Rattle.accepted_laws.specs.Example.{example_items, example_heads, HasExample}

-- what a stage finds, with what it means
record Met {A : Type 0} (P : A → Type 0) : Type 0 where
  value : A
  means : P value

abbrev met : {A E : Type 0} (P : A → Type 0) (x : Result A E) → is_ok x ≡ true → Means P x → Met P
met P (Ok a) e means = record { value = a; means = means }
met P (Err f) e means = absurd (false≢true e)

abbrev items : List Item
items = flat_row (example_items ∷ []) (example_heads ∷ [])

no_fault : files_fault (example_items ∷ []) (example_heads ∷ []) ≡ None
unfolding leads upward
no_fault = refl

names_found : is_ok (program items) ≡ true
unfolding upward built_in of_window of_random leads
names_found = refl

abbrev named : Met (IsResolved items)
named = met (IsResolved items) (program items) names_found (program_means items)

types_found : is_ok (typing.program named.value) ≡ true
unfolding upward built_in of_window of_random leads expr statement locals
types_found = refl

abbrev typed : Met (IsTypedProgram named.value)
typed = met (IsTypedProgram named.value) (typing.program named.value) types_found (typing_means named.value)

trees : AcceptedTrees
trees = record {
  files = example_items ∷ [];
  heads = example_heads ∷ [];
  classes = named.value;
  tree = typed.value;
  each = refl;
  sound = no_fault;
  resolved = named.means;
  typed = typed.means;
}

pub has_example : HasExample
unfolding trees leads upward
has_example = (trees, record { files = refl; heads = refl; base = (1, refl); virtual = refl })
