use Rattle.std.proofs.Common.{arith, ◌+◌, ◌*◌, set}
use Rattle.std.proofs.lemmas.List.{get_or_default}
use Rattle.bit_field.specs.Atom.{empty_atom}
use Rattle.window_sites.specs.Sites.{sites}
use Rattle.cell_grid.specs.Inner.{with_sites_put}
use Rattle.cell_grid.proofs.inner.put_sites_13_to_18.Goals as goal

pub returns : goal.returns
unfolding sites with_sites_put
returns c =
    let n = c.type_inv.from in
    let a13 = get_or_default c.args.from.now 13 c.index-from-13.result empty_atom (omega (arith, n)) in
    let a14 = get_or_default c.args.from.now 14 c.index-from-14.result empty_atom (omega (arith, n)) in
    let a15 = get_or_default c.args.from.now 15 c.index-from-15.result empty_atom (omega (arith, n)) in
    let a16 = get_or_default c.args.from.now 16 c.index-from-16.result empty_atom (omega (arith, n)) in
    let a17 = get_or_default c.args.from.now 17 c.index-from-17.result empty_atom (omega (arith, n)) in
    let a18 = get_or_default c.args.from.now 18 c.index-from-18.result empty_atom (omega (arith, n)) in
    λ i. set (set (set (set (set (set c.args.atoms.now (c.args.low + 1 * c.args.width + 4) (a18 i)) (c.args.low + 6 * c.args.width + 3) (a17 i)) (c.args.low + 2 * c.args.width + 3) (a16 i)) (c.args.low + 5 * c.args.width + 2) (a15 i)) (c.args.low + 3 * c.args.width + 2) (a14 i)) (c.args.low + 4 * c.args.width + 1) (a13 i)
