use Rattle.std.proofs.Common.{sym, subst, List, ℕ, arith}
use Rattle.std.proofs.lemmas.List.{length-map}
use Rattle.ulam_tree.specs.ResolvedViews.{resolved_class, resolved_program}
use Rattle.ulam_tree.specs.Typed as t
use Rattle.ulam_tree.specs.TypedViews.{typed_program}
use Rattle.element_set.specs.declared.set.ElementSet.{ElementSet}
use Rattle.code_gen.specs.Compiling.{IsCompilable}
use Rattle.element_set.specs.Faults.{type_fault}
use Rattle.element_set.specs.Kept.{Fits}
use Rattle.element_set.specs.Sets.{set_value}
use Rattle.element_set.specs.Stages as stage
use Rattle.element_set.proofs.Fitting.{typed_fits}
use Rattle.element_set.proofs.Named.{resolved_named, typed_named}
use Rattle.source_laws.proofs.Programs.{compilable}
use Rattle.element_set.proofs.Telling.{tells_exit, tells_then, type_told}
use Rattle.element_set.proofs.build.typed_set.Goals as goal

pub returns-in_err-typed : goal.returns-in_err-typed
returns-in_err-typed c =
    let cs = resolved_program c.args.program in
    let fault = c.in_err-typed.field-0.0 in
    tells_exit set_value (stage.typed_set cs c.args.layout) (type_fault fault) c.from_residual.result c.from_residual.ensures.1 (type_told ElementSet set_value cs _ fault c.in_err-typed.ensures.found)

pub check-requires : goal.check-requires
check-requires c =
    let of = c.requires.resolution in
    omega (arith, (resolved_named of.items (resolved_program c.args.program) of.is).few, length-map c.args.program.classes.items resolved_class)

pub coded_set-requires-clause-named : goal.coded_set-requires-clause-named
coded_set-requires-clause-named c =
    let cs = resolved_program c.args.program in
    let of = c.requires.resolution in
    typed_named cs (typed_program c.in_ok-typed.typed) c.in_ok-typed.ensures.is (resolved_named of.items cs of.is)

pub coded_set-requires-clause-fits : goal.coded_set-requires-clause-fits
coded_set-requires-clause-fits c =
    let cs = resolved_program c.args.program in
    let us = typed_program c.in_ok-typed.typed in
    let of = c.requires.resolution in
    subst (Fits us) (sym c.requires.laid) (typed_fits cs us c.in_ok-typed.ensures.is (typed_named cs us c.in_ok-typed.ensures.is (resolved_named of.items cs of.is)).slim)

pub coded_set-requires-clause-compilable : goal.coded_set-requires-clause-compilable
coded_set-requires-clause-compilable c =
    let cs = resolved_program c.args.program in
    let us = typed_program c.in_ok-typed.typed in
    let of = c.requires.resolution in
    subst (λ (l : List (List ℕ)). IsCompilable (record { classes = us; layout = l })) (sym c.requires.laid) (compilable of.items cs us of.is c.requires.narrow c.in_ok-typed.ensures.is)

pub returns : goal.returns
returns c =
    let cs = resolved_program c.args.program in
    tells_then set_value (stage.type_stage cs) (λ (us : List t.Class). stage.limit_stage (record { classes = us; layout = c.args.layout })) (typed_program c.in_ok-typed.typed) c.coded_set.result c.in_ok-typed.ensures.is c.coded_set.ensures
