use Rattle.std.proofs.Common.{◌∙◌, ap, List, subst}
use Rattle.ulam_heirs.specs.Lines.{Heir, bases}
use Rattle.ulam_heirs.specs.Opened.{Covers}
use Rattle.ulam_heirs.specs.OpenedViews.{state_of}
use Rattle.ulam_heirs.specs.Views.{heir_of, heirs_of}
use Rattle.ulam_heirs.proofs.OpenTables.{bad_is}
use Rattle.ulam_heirs.proofs.walk.fault_alone.Goals as goal

pub returns : goal.returns
returns c =
    let hs : List Heir = heirs_of c.args.heirs.now in
    let covers : Covers (bases hs c.args.class) (state_of c.in_ok-opened.opened).table = subst (λ (l : List Heir). Covers l (state_of c.in_ok-opened.opened).table) (ap heirs_of c.as_slice.ensures.value ∙ c.in_ok-line.ensures) c.in_ok-opened.ensures in
    c.first_bad.ensures ∙ bad_is (bases hs c.args.class) (state_of c.in_ok-opened.opened).table (heir_of c.args.heir.now) (heir_of c.args.heir.now).class.members covers
