use Rattle.std.proofs.Common.{arith, ◌+◌, ◌*◌, set}
use Rattle.std.proofs.lemmas.List.{get_or_default}
use Rattle.bit_field.specs.Atom.{empty_atom}
use Rattle.window_sites.specs.Sites.{sites}
use Rattle.cell_grid.specs.Inner.{with_sites_put}
use Rattle.cell_grid.proofs.inner.put_sites_5_to_12.Goals as goal

pub returns : goal.returns
unfolding sites with_sites_put
returns c =
    let n = c.type_inv.from in
    let a5 = get_or_default c.args.from.now 5 c.index-from-5.result empty_atom (omega (arith, n)) in
    let a6 = get_or_default c.args.from.now 6 c.index-from-6.result empty_atom (omega (arith, n)) in
    let a7 = get_or_default c.args.from.now 7 c.index-from-7.result empty_atom (omega (arith, n)) in
    let a8 = get_or_default c.args.from.now 8 c.index-from-8.result empty_atom (omega (arith, n)) in
    let a9 = get_or_default c.args.from.now 9 c.index-from-9.result empty_atom (omega (arith, n)) in
    let a10 = get_or_default c.args.from.now 10 c.index-from-10.result empty_atom (omega (arith, n)) in
    let a11 = get_or_default c.args.from.now 11 c.index-from-11.result empty_atom (omega (arith, n)) in
    let a12 = get_or_default c.args.from.now 12 c.index-from-12.result empty_atom (omega (arith, n)) in
    λ i. set (set (set (set (set (set (set (set c.args.atoms.now (c.args.low + 4 * c.args.width + 6) (a12 i)) (c.args.low + 5 * c.args.width + 5) (a11 i)) (c.args.low + 3 * c.args.width + 5) (a10 i)) (c.args.low + 6 * c.args.width + 4) (a9 i)) (c.args.low + 2 * c.args.width + 4) (a8 i)) (c.args.low + 5 * c.args.width + 3) (a7 i)) (c.args.low + 3 * c.args.width + 3) (a6 i)) (c.args.low + 4 * c.args.width + 2) (a5 i)
