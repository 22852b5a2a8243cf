use Rattle.std.proofs.Common.{rules, ◌≡◌, ◌+◌, ◌∷◌, ◌++◌, [], length, true, false, ap, sym, ◌∙◌, subst, arith, Vec, Global}
use Rattle.ulam_tree.specs.TypedViews.{typed_class}
use Rattle.ulam_tree.specs.declared.typed.Class.{Class}
use Rattle.stack_code.specs.Machine.{CodeValue}
use Rattle.ulam_meaning.specs.Events.{behave_key}
use Rattle.code_gen.specs.Scheme.{draft_of}
use Rattle.code_gen.specs.Compiling.{program_view}
use Rattle.code_gen.specs.Views.{key_of}
use Rattle.code_gen.proofs.ElementRounds.{Done, few_done, quark_done, element_done, element_long, all_done, all_compiled}
use Rattle.code_gen.proofs.ElementBuilds.{class_found, place_is, classes_over, element_ready, built_none, built_some}
use Rattle.code_gen.proofs.elements.compile.Goals as goal
use Rattle.code_gen.proofs.elements.compile.Goals.{then-not-all-c+in_ok-build+in-Some+in_ok-keep-in-Some, else-not-all-c}

pub overflow_add-kind : goal.overflow_add-kind
overflow_add-kind c =
    let few = few_done (program_view c.args.typed.now c.args.layout.now) c.loop-c.c c.loop-c.kind c.loop-c.codes.items c.loop-c.invariant in
    let long = ap length c.as_slice-all.ensures.value in
    omega (arith, few, long, c.requires.few, c.loop-c-test.true)

pub build-requires : goal.build-requires
build-requires c =
    let g = program_view c.args.typed.now c.args.layout.now in
    let x = c.index-all-c.result in
    let acts : x.quark ≡ false = search rules in
    let stands = class_found c.args.typed.now c.args.layout.now c.as_slice-all.result.now c.loop-c.c c.as_slice-all.ensures.value x c.loop-c-test.true c.index-all-c.is in
    element_ready g c.loop-c.c (typed_class x) (key_of c.behave_key.result) c.requires.compilable stands acts c.behave_key.ensures

pub returns-in-None-clause-codes : goal.returns-in-None-clause-codes
returns-in-None-clause-codes c =
    let g = program_view c.args.typed.now c.args.layout.now in
    let x = c.index-all-c.result in
    let all = c.as_slice-all.result.now in
    let acts : x.quark ≡ false = search rules in
    let stands = class_found c.args.typed.now c.args.layout.now all c.loop-c.c c.as_slice-all.ensures.value x c.loop-c-test.true c.index-all-c.is in
    let long = built_none (draft_of g) (c.loop-c.kind + 1) (key_of c.behave_key.result) (behave_key g c.loop-c.c) c.in_ok-build.field-0 c.in-None.is c.in_ok-build.ensures c.behave_key.ensures in
    (c.loop-c.c, element_long g c.loop-c.c c.loop-c.kind c.loop-c.codes.items (typed_class x) c.loop-c.invariant stands acts long, place_is c.args.typed.now c.args.layout.now all c.loop-c.c c.as_slice-all.ensures.value c.index-all-c-in-None.result c.loop-c-test.true)

pub loop-c-preserved : goal.loop-c-preserved
loop-c-preserved c =
    let g = program_view c.args.typed.now c.args.layout.now in
    let x = c.index-all-c.result in
    let n = c.loop-c.c in
    let kind = c.loop-c.kind in
    let codes = c.loop-c.codes.items in
    let stands = class_found c.args.typed.now c.args.layout.now c.as_slice-all.result.now n c.as_slice-all.ensures.value x c.loop-c-test.true c.index-all-c.is in
    elim c.if-not-all-c.branch [
      | then-not-all-c+in_ok-build+in-Some+in_ok-keep-in-Some w ↦
          let acts : x.quark ≡ false = ap (λ (u : Class). u.quark) c.index-all-c.is ∙ w.if-not-all-c.true in
          let code = w.in-Some.code in
          let b = built_some (draft_of g) (kind + 1) (key_of w.behave_key.result) (behave_key g n) w.in_ok-build.field-0 code w.in-Some.is w.in_ok-build.ensures w.behave_key.ensures in
          let d : Done g (n + 1) (kind + 1) (codes ++ code ∷ []) = element_done g n kind codes (typed_class x) c.loop-c.invariant stands acts b.1 code b.0 in
          let items : c.if-not-all-c.codes.items ≡ codes ++ code ∷ [] = ap (λ (v : Vec CodeValue Global). v.items) w.codes-is ∙ w.in_ok-keep-in-Some.ensures in
          subst (λ l. Done g (n + 1) c.if-not-all-c.kind l) (sym items) (subst (λ m. Done g (n + 1) m (codes ++ code ∷ [])) (sym w.kind-is) d)
      | else-not-all-c w ↦
          let quark : x.quark ≡ true = ap (λ (u : Class). u.quark) c.index-all-c.is ∙ w.if-not-all-c.false in
          let d : Done g (n + 1) kind codes = quark_done g n kind codes (typed_class x) c.loop-c.invariant stands quark in
          let items : c.if-not-all-c.codes.items ≡ codes = ap (λ (v : Vec CodeValue Global). v.items) w.codes-is in
          subst (λ l. Done g (n + 1) c.if-not-all-c.kind l) (sym items) (subst (λ m. Done g (n + 1) m codes) (sym w.kind-is) d)
    ]

pub returns-clause-codes : goal.returns-clause-codes
returns-clause-codes c =
    all_done (program_view c.args.typed.now c.args.layout.now) c.loop-c.c c.loop-c.kind c.loop-c.codes.items c.loop-c.invariant
    (classes_over c.args.typed.now c.args.layout.now c.as_slice-all.result.now c.loop-c.c c.as_slice-all.ensures.value c.loop-c-test.false)

pub returns-clause-means : goal.returns-clause-means
returns-clause-means c =
    let g = program_view c.args.typed.now c.args.layout.now in
    let x = all_done g c.loop-c.c c.loop-c.kind c.loop-c.codes.items c.loop-c.invariant
    (classes_over c.args.typed.now c.args.layout.now c.as_slice-all.result.now c.loop-c.c c.as_slice-all.ensures.value c.loop-c-test.false) in
    all_compiled g c.loop-c.codes.items c.requires.compilable x.0 x.1
