use Rattle.std.proofs.Common.{◌≡◌, ◌∙◌, sym, ap, List, [], ◌∷◌, ◌++◌, Option, Some}
use Rattle.std.specs.Prelude.{slice_get}
use Rattle.std.specs.Option.{option_to_list}
use Rattle.std.proofs.lemmas.List.{append-nil, map-append}
use Rattle.std.proofs.lemmas.Option.{slice_get-get_or, slice_get_past}
use Rattle.ulam_heirs.specs.declared.heir.Heir.{Heir as CodeHeir}
use Rattle.ulam_heirs.specs.Views.{heir_of, heirs_of}
use Rattle.ulam_heirs.proofs.line.add_class.Goals as goal

pub returns-in_ok-push-in-Some : goal.returns-in_ok-push-in-Some
returns-in_ok-push-in-Some c =
    let xs : List CodeHeir = c.args.heirs.now in
    let x : CodeHeir = c.in-Some.heir.now in
    let got : slice_get xs c.args.number ≡ Some x = slice_get-get_or xs c.args.number x c.in-Some.ensures.lookup.3.0 ∙ ap Some (sym c.in-Some.ensures.lookup.1) in
    ap heirs_of c.in_ok-push-in-Some.ensures.items
    ∙ map-append heir_of c.args.found.now.items (x ∷ [])
    ∙ ap (λ (o : Option CodeHeir). heirs_of c.args.found.now.items ++ heirs_of (option_to_list o)) (sym got)

pub returns-in-None : goal.returns-in-None
returns-in-None c =
    let xs : List CodeHeir = c.args.heirs.now in
    sym (
    ap (λ (o : Option CodeHeir). heirs_of c.args.found.now.items ++ heirs_of (option_to_list o)) (slice_get_past xs c.args.number c.in-None.ensures.lookup.3)
    ∙ append-nil (heirs_of c.args.found.now.items)
    )
