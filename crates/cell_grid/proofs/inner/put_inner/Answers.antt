use Rattle.std.proofs.Common.{ap, arith, length, ◌∙◌}
use Rattle.cell_grid.specs.Inner.{with_inner, with_sites_put}
use Rattle.cell_grid.proofs.Corners.{length-with_sites_put}
use Rattle.cell_grid.proofs.inner.put_inner.Goals as goal

pub put_sites_25_to_32-requires-whole : goal.put_sites_25_to_32-requires-whole
put_sites_25_to_32-requires-whole c =
    let l33 = ap length c.put_sites_33_to_40.ensures ∙ length-with_sites_put c.args.atoms.now c.args.low c.args.width c.args.from.now 33 8 in
    omega (arith, c.requires.whole, l33)

pub put_sites_19_to_24-requires-whole : goal.put_sites_19_to_24-requires-whole
put_sites_19_to_24-requires-whole c =
    let l33 = ap length c.put_sites_33_to_40.ensures ∙ length-with_sites_put c.args.atoms.now c.args.low c.args.width c.args.from.now 33 8 in
    let l25 = ap length c.put_sites_25_to_32.ensures ∙ length-with_sites_put c.put_sites_33_to_40.new.atoms c.args.low c.args.width c.args.from.now 25 8 in
    omega (arith, c.requires.whole, l33, l25)

pub put_sites_13_to_18-requires-whole : goal.put_sites_13_to_18-requires-whole
put_sites_13_to_18-requires-whole c =
    let l33 = ap length c.put_sites_33_to_40.ensures ∙ length-with_sites_put c.args.atoms.now c.args.low c.args.width c.args.from.now 33 8 in
    let l25 = ap length c.put_sites_25_to_32.ensures ∙ length-with_sites_put c.put_sites_33_to_40.new.atoms c.args.low c.args.width c.args.from.now 25 8 in
    let l19 = ap length c.put_sites_19_to_24.ensures ∙ length-with_sites_put c.put_sites_25_to_32.new.atoms c.args.low c.args.width c.args.from.now 19 6 in
    omega (arith, c.requires.whole, l33, l25, l19)

pub put_sites_5_to_12-requires-whole : goal.put_sites_5_to_12-requires-whole
put_sites_5_to_12-requires-whole c =
    let l33 = ap length c.put_sites_33_to_40.ensures ∙ length-with_sites_put c.args.atoms.now c.args.low c.args.width c.args.from.now 33 8 in
    let l25 = ap length c.put_sites_25_to_32.ensures ∙ length-with_sites_put c.put_sites_33_to_40.new.atoms c.args.low c.args.width c.args.from.now 25 8 in
    let l19 = ap length c.put_sites_19_to_24.ensures ∙ length-with_sites_put c.put_sites_25_to_32.new.atoms c.args.low c.args.width c.args.from.now 19 6 in
    let l13 = ap length c.put_sites_13_to_18.ensures ∙ length-with_sites_put c.put_sites_19_to_24.new.atoms c.args.low c.args.width c.args.from.now 13 6 in
    omega (arith, c.requires.whole, l33, l25, l19, l13)

pub put_sites_0_to_4-requires-whole : goal.put_sites_0_to_4-requires-whole
put_sites_0_to_4-requires-whole c =
    let l33 = ap length c.put_sites_33_to_40.ensures ∙ length-with_sites_put c.args.atoms.now c.args.low c.args.width c.args.from.now 33 8 in
    let l25 = ap length c.put_sites_25_to_32.ensures ∙ length-with_sites_put c.put_sites_33_to_40.new.atoms c.args.low c.args.width c.args.from.now 25 8 in
    let l19 = ap length c.put_sites_19_to_24.ensures ∙ length-with_sites_put c.put_sites_25_to_32.new.atoms c.args.low c.args.width c.args.from.now 19 6 in
    let l13 = ap length c.put_sites_13_to_18.ensures ∙ length-with_sites_put c.put_sites_19_to_24.new.atoms c.args.low c.args.width c.args.from.now 13 6 in
    let l5 = ap length c.put_sites_5_to_12.ensures ∙ length-with_sites_put c.put_sites_13_to_18.new.atoms c.args.low c.args.width c.args.from.now 5 8 in
    omega (arith, c.requires.whole, l33, l25, l19, l13, l5)

pub returns : goal.returns
unfolding with_inner with_sites_put
returns c =
    let low = c.args.low in
    let width = c.args.width in
    let from = c.args.from.now in
    let e33 = c.put_sites_33_to_40.ensures in
    let e25 = c.put_sites_25_to_32.ensures ∙ ap (λ x. with_sites_put x low width from 25 8) e33 in
    let e19 = c.put_sites_19_to_24.ensures ∙ ap (λ x. with_sites_put x low width from 19 6) e25 in
    let e13 = c.put_sites_13_to_18.ensures ∙ ap (λ x. with_sites_put x low width from 13 6) e19 in
    let e5 = c.put_sites_5_to_12.ensures ∙ ap (λ x. with_sites_put x low width from 5 8) e13 in
    c.put_sites_0_to_4.ensures ∙ ap (λ x. with_sites_put x low width from 0 5) e5
