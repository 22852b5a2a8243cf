use Rattle.std.proofs.Common.{◌∙◌, ap, List}
use Rattle.std.specs.Prelude.{slice_get}
use Rattle.std.specs.Option.{option_and_then}
use Rattle.ulam_heirs.specs.Lines.{Heir, base_number}
use Rattle.ulam_heirs.specs.Views.{heirs_of}
use Rattle.ulam_heirs.proofs.Walks.{base_is}
use Rattle.ulam_heirs.proofs.Walking.{got_heir}
use Rattle.ulam_heirs.proofs.check.first_not_quark.Goals as goal

pub not_quark-requires : goal.not_quark-requires
not_quark-requires c =
    let hs : List Heir = heirs_of c.args.heirs.now in
    c.base_in.ensures
    ∙ base_is hs c.args.bases.now c.requires c.loop-heir.number
    ∙ ap (option_and_then (base_number hs)) (ap (slice_get hs) c.loop-heir.invariant.number ∙ got_heir c.args.heirs.now c.loop-heir.heir-index c.heir-item.result c.loop-heir-test.true c.heir-item.is)
