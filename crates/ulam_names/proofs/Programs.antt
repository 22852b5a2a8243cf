-- What is found for all files.
use Rattle.std.proofs.Common.{◌≡◌, ◌≢◌, ◌≤◌, refl, ap, subst, ◌∙◌, List, [], length, map, Ok, Err, Result, arith}
use Rattle.std.specs.Prelude.{IfOk, IfErr}
use Rattle.std.proofs.lemmas.List.{length-map}
use Rattle.ulam_tree.specs.Raw as t
use Rattle.ulam_tree.specs.Resolved as r
use Rattle.ulam_tree.specs.ResolvedViews.{resolved_program}
use Rattle.ulam_tree.specs.declared.resolved.Program.{Program}
use Rattle.ulam_names.specs.declared.fault.NameFault.{NameFault}
use Rattle.ulam_names.specs.declared.fault.NameFault.TheVariants as n
use Rattle.ulam_names.specs.declared.half.HalfClass.{HalfClass}
use Rattle.ulam_tree.specs.Found.{◌>>=◌}
use Rattle.ulam_names.specs.Faults.{declared_twice, unknown_name, cyclic_quark, no_behave, bad_constant, too_many, bad_width}
use Rattle.ulam_names.specs.Scopes.{Head}
use Rattle.ulam_names.specs.Classes as w
use Rattle.ulam_names.specs.ClassRelation.{IsResolved}
use Rattle.ulam_names.specs.Shown.{Gives, Fails, half_class, head_of}
use Rattle.ulam_tree.proofs.Means.{Means}
use Rattle.ulam_names.proofs.ClassMeans.{program_means, fault_means}
use Rattle.ulam_names.proofs.Items.{classes_few}
use Rattle.std.specs.Prelude.{◌∷◌}

heads_are : (halves : List HalfClass) → map w.head_of (map half_class halves) ≡ map head_of halves
heads_are [] = refl
heads_are (x ∷ halves) = ap (λ (hs : List Head). head_of x ∷ hs) (heads_are halves)

-- Once the class names and the members are known, three stages are left.
pub program_to : (xs : List t.Item) (known : w.Known) (halves : List HalfClass) → w.class_names [] xs ≡ Ok known → w.items known xs ≡ Ok (map half_class halves) →
    w.program xs
    ≡ (w.all_behave (map half_class halves) >>= λ (_ : Unit {0}).
    w.none_cyclic (map head_of halves) 0 (map half_class halves) >>= λ (_ : Unit {0}).
    w.whole_classes known (map head_of halves) 0 (map half_class halves))
program_to xs known halves e h =
    rw (e, h) refl
    ∙ ap (λ (heads : List Head). w.all_behave (map half_class halves) >>= λ (_ : Unit {0}). w.none_cyclic heads 0 (map half_class halves) >>= λ (_ : Unit {0}). w.whole_classes known heads 0 (map half_class halves)) (heads_are halves)

pub halves_few : (xs : List t.Item) (known : w.Known) (halves : List HalfClass) → w.class_names [] xs ≡ Ok known → w.items known xs ≡ Ok (map half_class halves) → length halves ≤ 256
halves_few xs known halves e h =
    let few : length (map half_class halves) ≤ 256 = classes_few xs known (map half_class halves) e h in
    omega (arith, few, length-map halves half_class)

pub gives_is : (x : Result Program NameFault) (xs : List t.Item) → Gives resolved_program x (w.program xs) → IfOk x (λ p. IsResolved xs (resolved_program p))
gives_is (Ok p) xs h = subst (Means (IsResolved xs)) h (program_means xs)
gives_is (Err e) xs h = tt

none_by : (e : NameFault) (xs : List t.Item) → Fails e (w.program xs) → e ≢ n.NoMemory → (cs : List r.Class) → IsResolved xs cs → ⊥
none_by (n.DuplicateName p) xs h ne cs k = fault_means xs (declared_twice p) h cs k
none_by (n.UnknownName p) xs h ne cs k = fault_means xs (unknown_name p) h cs k
none_by (n.CyclicQuark p) xs h ne cs k = fault_means xs (cyclic_quark p) h cs k
none_by (n.NoBehave p) xs h ne cs k = fault_means xs (no_behave p) h cs k
none_by (n.BadConstant p) xs h ne cs k = fault_means xs (bad_constant p) h cs k
none_by (n.TooMany p) xs h ne cs k = fault_means xs (too_many p) h cs k
none_by (n.BadWidth p) xs h ne cs k = fault_means xs (bad_width p) h cs k
none_by n.NoMemory xs h ne cs k = ne refl

pub gives_none : (x : Result Program NameFault) (xs : List t.Item) → Gives resolved_program x (w.program xs) → IfErr x (λ e. e ≢ n.NoMemory → (cs : List r.Class) → IsResolved xs cs → ⊥)
gives_none (Ok p) xs h = tt
gives_none (Err e) xs h = none_by e xs h
