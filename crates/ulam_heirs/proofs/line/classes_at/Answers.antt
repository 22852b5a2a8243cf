use Rattle.std.proofs.Common.{◌∙◌, sym, ap, ℕ, ◌+◌, List, ◌++◌, get_or, drop, append_assoc}
use Rattle.std.specs.Prelude.{slice_get}
use Rattle.std.specs.Option.{option_to_list}
use Rattle.std.proofs.lemmas.List.{at_drop_more}
use Rattle.ulam_heirs.specs.Lines.{Heir, classes_at}
use Rattle.ulam_heirs.specs.Views.{heirs_of}
use Rattle.ulam_heirs.proofs.Walks.{class_at_lem}
use Rattle.ulam_heirs.proofs.line.classes_at.Goals as goal

pub loop-number-preserved : goal.loop-number-preserved
loop-number-preserved c =
    let hs : List Heir = heirs_of c.args.heirs.now in
    let xs : List ℕ = c.args.numbers.now in
    let i : ℕ = c.loop-number.number-index in
    let found : List Heir = heirs_of c.loop-number.found.items in
    let rest : List Heir = classes_at hs (drop (i + 1) xs) in
    c.loop-number.invariant
    ∙ at_drop_more (λ (zs : List ℕ). found ++ classes_at hs zs) xs i 0 c.loop-number-test.true
    ∙ sym (append_assoc found (option_to_list (slice_get hs (get_or xs i 0))) rest)
    ∙ ap (λ zs. (found ++ zs) ++ rest) (class_at_lem c.args.heirs.now (get_or xs i 0))
    ∙ ap (λ zs. zs ++ rest) (sym c.in_ok-add_class.ensures)
