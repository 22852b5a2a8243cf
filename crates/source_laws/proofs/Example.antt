-- A program that meets what the law asks, with a quark, a constant, a local that is seen as an element, and an argument.
--     quark Q { Unsigned(4) v; Void inc(Unsigned(2) k) { v += k; } }
--     element A { constant Unsigned(3) most = 5; EventWindow ew; Q q; Void behave() { Atom n = ew[1]; if (n as A) q.v = n.q.v; q.inc(most); } }
use Rattle.std.proofs.Common.{◌≡◌, ℕ, List, [], ◌∷◌, Some, None, codes, refl, subst, Ok, Err, true, false}
use Rattle.ulam_meaning.proofs.Shorthand.{here}
use Rattle.ulam_tree.specs.declared.op.PairOp.TheVariants.{Add}
use Rattle.ulam_tree.specs.Raw as raw
use Rattle.ulam_tree.specs.Resolved as r
use Rattle.ulam_tree.specs.Typed as t
use Rattle.ulam_tree.specs.Locals.{locals}
use Rattle.ulam_tree.specs.Ways.{leads}
use Rattle.ulam_names.specs.Faults as names
use Rattle.ulam_names.specs.Scopes.{built_in, of_window, of_random}
use Rattle.ulam_names.specs.Classes.{program}
use Rattle.ulam_names.specs.ClassRelation.{IsResolved}
use Rattle.ulam_tree.proofs.Means.{Means}
use Rattle.ulam_names.proofs.ClassMeans.{program_means}
use Rattle.atom_layout.specs.Layouts.{layout_of, first_wide, bits_within}
use Rattle.type_rules.specs.Faults as types
use Rattle.type_rules.specs.Programs as typing
use Rattle.type_rules.specs.Walk.{expr}
use Rattle.type_rules.specs.Bodies.{statement}
use Rattle.type_rules.specs.ProgramTyping.{IsTypedProgram}
use Rattle.ulam_types.proofs.Classes.{program_means as typing_means}
use Rattle.code_gen.specs.Compiling.{IsCompilable}
use Rattle.source_laws.proofs.Programs.{compilable}

abbrev word : List ℕ → raw.Word
word name = record { name = name; place = here }

abbrev whole : List ℕ → raw.TypeRef
whole name = record { word = word name; width = None }

abbrev wide : List ℕ → ℕ → raw.TypeRef
wide name n = record { word = word name; width = Some (raw.wide n) }

abbrev path : List raw.Word → raw.Path
path ws = record { own = None; words = ws }

abbrev q_inc : raw.Member
q_inc =
    raw.function (whole (codes "Void")) (word (codes "inc")) (record { of = wide (codes "Unsigned") 2; word = word (codes "k") } ∷ [])
    (raw.then_so (raw.assigns (record { path = path (word (codes "v") ∷ []); index = None }) (Some Add) (raw.reads (path (word (codes "k") ∷ [])))) raw.no_more)

abbrev a_behave : raw.Member
a_behave =
    raw.function (whole (codes "Void")) (word (codes "behave")) []
    (raw.then_so (raw.declares (whole (codes "Atom")) (word (codes "n")) (Some (raw.index (path (word (codes "ew") ∷ [])) (raw.number 1 false here))))
    (raw.then_so (raw.if_so (raw.seen (word (codes "n")) (word (codes "A")))
    (raw.assigns (record { path = path (word (codes "q") ∷ word (codes "v") ∷ []); index = None }) None (raw.reads (path (word (codes "n") ∷ word (codes "q") ∷ word (codes "v") ∷ []))))
    raw.no_part)
    (raw.then_so (raw.does (path (word (codes "q") ∷ word (codes "inc") ∷ [])) (raw.arg (raw.reads (path (word (codes "most") ∷ []))) raw.no_args)) raw.no_more)))

items : List raw.Item
items =
    raw.class (record { quark = true; word = word (codes "Q"); members = raw.field (wide (codes "Unsigned") 4) (word (codes "v")) None ∷ q_inc ∷ [] })
    ∷ raw.class (record { quark = false; word = word (codes "A"); members = raw.constant (wide (codes "Unsigned") 3) (word (codes "most")) (raw.const_number false 5 false) ∷ raw.field (whole (codes "EventWindow")) (word (codes "ew")) None ∷ raw.field (whole (codes "Q")) (word (codes "q")) None ∷ a_behave ∷ [] })
    ∷ []

abbrev resolved_in : names.Found (List r.Class) → List r.Class
resolved_in (Ok cs) = cs
resolved_in (Err f) = []

abbrev typed_in : types.Found (List t.Class) → List t.Class
typed_in (Ok us) = us
typed_in (Err f) = []

abbrev example_classes : List r.Class
example_classes = resolved_in (program items)

abbrev tree : List t.Class
tree = typed_in (typing.program example_classes)

found : program items ≡ Ok example_classes
unfolding items built_in of_window of_random leads
found = refl

typed_found : typing.program example_classes ≡ Ok tree
unfolding items built_in of_window of_random leads expr statement locals
typed_found = refl

narrow : first_wide example_classes ≡ None
unfolding items built_in of_window of_random leads bits_within
narrow = refl

example : IsCompilable (record { classes = tree; layout = layout_of example_classes })
example = compilable items example_classes tree (subst (Means (IsResolved items)) found (program_means items)) narrow (subst (Means (IsTypedProgram example_classes)) typed_found (typing_means example_classes))
