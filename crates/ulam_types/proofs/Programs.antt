-- What is found for a program.
use Rattle.std.proofs.Common.{◌≡◌, ◌≢◌, refl, sym, ◌∙◌, subst, List, Ok, Err, Result}
use Rattle.std.specs.Prelude.{IfOk, IfErr}
use Rattle.ulam_tree.specs.Resolved as r
use Rattle.ulam_tree.specs.Typed as t
use Rattle.ulam_tree.specs.TypedViews.{typed_program}
use Rattle.ulam_tree.specs.declared.typed.Typed.{Typed}
use Rattle.ulam_types.specs.declared.fault.TypeFault.{TypeFault}
use Rattle.ulam_types.specs.declared.fault.TypeFault.TheVariants as e
use Rattle.type_rules.specs.Faults.{Fault}
use Rattle.type_rules.specs.Programs.{program}
use Rattle.type_rules.specs.ProgramTyping.{IsTypedProgram}
use Rattle.ulam_types.specs.Shown.{Gives, Fails}
use Rattle.type_rules.specs.Well.{IsWellProgram}
use Rattle.ulam_tree.proofs.Means.{Means}
use Rattle.ulam_types.proofs.Classes.{program_fits, program_means}
use Rattle.ulam_types.proofs.WellPrograms.{program_well}

pub gives_is : (x : Result Typed TypeFault) (cs : List r.Class) → Gives typed_program x (program cs) → IfOk x (λ u. IsTypedProgram cs (typed_program u))
gives_is (Ok u) cs h = subst (Means (IsTypedProgram cs)) h (program_means cs)
gives_is (Err f) cs h = tt

pub gives_well : (x : Result Typed TypeFault) (cs : List r.Class) → Gives typed_program x (program cs) → IfOk x (λ u. IsWellProgram (typed_program u))
gives_well (Ok u) cs h = program_well cs (typed_program u) (gives_is (Ok u) cs h)
gives_well (Err f) cs h = tt

none_at : (cs : List r.Class) (f : Fault) → program cs ≡ Err f → (us : List t.Class) → IsTypedProgram cs us → ⊥
none_at cs f h us i = let q : Err f ≡ Ok us = sym h ∙ program_fits cs us i in cc

none_by : (f : TypeFault) (cs : List r.Class) → Fails f (program cs) → f ≢ e.NoMemory → (us : List t.Class) → IsTypedProgram cs us → ⊥
none_by (e.WrongType p) cs h ne us i = none_at cs _ h us i
none_by (e.MixedSigns p) cs h ne us i = none_at cs _ h us i
none_by (e.NotAssignable p) cs h ne us i = none_at cs _ h us i
none_by (e.WrongCount p) cs h ne us i = none_at cs _ h us i
none_by (e.BadAs p) cs h ne us i = none_at cs _ h us i
none_by (e.BreakOutside p) cs h ne us i = none_at cs _ h us i
none_by (e.MissingReturn p) cs h ne us i = none_at cs _ h us i
none_by e.NoMemory cs h ne us i = ne refl

pub gives_none : (x : Result Typed TypeFault) (cs : List r.Class) → Gives typed_program x (program cs) → IfErr x (λ f. f ≢ e.NoMemory → (us : List t.Class) → IsTypedProgram cs us → ⊥)
gives_none (Ok u) cs h = tt
gives_none (Err f) cs h = none_by f cs h
