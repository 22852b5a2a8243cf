use Rattle.std.proofs.Common.{ap, ◌∙◌}
use Rattle.window_sites.specs.Inner.{with_sites_read}
use Rattle.window_sites.proofs.Filled.{with_sites_read-all}
use Rattle.window_sites.proofs.inner.read_inner.Goals as goal

pub returns : goal.returns
unfolding with_sites_read
returns c =
    let atoms = c.args.plane.now in
    let low = c.args.low in
    let width = c.args.width in
    let e33 = c.read_sites_33_to_40.ensures in
    let e25 = c.read_sites_25_to_32.ensures ∙ ap (λ x. with_sites_read x atoms low width 25 8) e33 in
    let e19 = c.read_sites_19_to_24.ensures ∙ ap (λ x. with_sites_read x atoms low width 19 6) e25 in
    let e13 = c.read_sites_13_to_18.ensures ∙ ap (λ x. with_sites_read x atoms low width 13 6) e19 in
    let e5 = c.read_sites_5_to_12.ensures ∙ ap (λ x. with_sites_read x atoms low width 5 8) e13 in
    let e0 = c.read_sites_0_to_4.ensures ∙ ap (λ x. with_sites_read x atoms low width 0 5) e5 in
    e0 ∙ with_sites_read-all c.args.into.now atoms low width c.requires.long
