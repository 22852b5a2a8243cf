use Rattle.std.proofs.Common.{arith, ◌+◌, ◌*◌, set}
use Rattle.std.proofs.lemmas.List.{get_or_default}
use Rattle.bit_field.specs.Atom.{empty_atom}
use Rattle.window_sites.specs.Sites.{sites}
use Rattle.cell_grid.specs.Inner.{with_sites_put}
use Rattle.cell_grid.proofs.inner.put_sites_19_to_24.Goals as goal

pub returns : goal.returns
unfolding sites with_sites_put
returns c =
    let n = c.type_inv.from in
    let a19 = get_or_default c.args.from.now 19 c.index-from-19.result empty_atom (omega (arith, n)) in
    let a20 = get_or_default c.args.from.now 20 c.index-from-20.result empty_atom (omega (arith, n)) in
    let a21 = get_or_default c.args.from.now 21 c.index-from-21.result empty_atom (omega (arith, n)) in
    let a22 = get_or_default c.args.from.now 22 c.index-from-22.result empty_atom (omega (arith, n)) in
    let a23 = get_or_default c.args.from.now 23 c.index-from-23.result empty_atom (omega (arith, n)) in
    let a24 = get_or_default c.args.from.now 24 c.index-from-24.result empty_atom (omega (arith, n)) in
    λ i. set (set (set (set (set (set c.args.atoms.now (c.args.low + 4 * c.args.width + 7) (a24 i)) (c.args.low + 5 * c.args.width + 6) (a23 i)) (c.args.low + 3 * c.args.width + 6) (a22 i)) (c.args.low + 6 * c.args.width + 5) (a21 i)) (c.args.low + 2 * c.args.width + 5) (a20 i)) (c.args.low + 7 * c.args.width + 4) (a19 i)
