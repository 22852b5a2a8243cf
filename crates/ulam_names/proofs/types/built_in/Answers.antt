use Rattle.std.proofs.Common.{ap, ◌∙◌, take, drop, Option}
use Rattle.std.specs.Option.{option_or}
use Rattle.std.proofs.lemmas.List.{take-append-drop}
use Rattle.ulam_names.specs.Scopes.{Basic, beside, built_in}
use Rattle.ulam_names.proofs.Tables.{beside-append}
use Rattle.ulam_names.proofs.types.built_in.Goals as goal

pub returns : goal.returns
returns c =
    c.or.ensures
    ∙ ap (λ (x : Option Basic). option_or x c.whole_type.result) c.sized_type.ensures
    ∙ ap (λ (x : Option Basic). option_or (beside c.args.name.now (take 5 built_in)) x) c.whole_type.ensures
    ∙ beside-append c.args.name.now (take 5 built_in) (drop 5 built_in)
    ∙ ap (beside c.args.name.now) (take-append-drop 5 built_in)
