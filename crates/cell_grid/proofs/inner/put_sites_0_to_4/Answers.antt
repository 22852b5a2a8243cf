use Rattle.std.proofs.Common.{arith, ◌+◌, ◌*◌, set}
use Rattle.std.proofs.lemmas.List.{get_or_default}
use Rattle.bit_field.specs.Atom.{empty_atom}
use Rattle.window_sites.specs.Sites.{sites}
use Rattle.cell_grid.specs.Inner.{with_sites_put}
use Rattle.cell_grid.proofs.inner.put_sites_0_to_4.Goals as goal

pub returns : goal.returns
unfolding sites with_sites_put
returns c =
    let n = c.type_inv.from in
    let a0 = get_or_default c.args.from.now 0 c.index-from-0.result empty_atom (omega (arith, n)) in
    let a1 = get_or_default c.args.from.now 1 c.index-from-1.result empty_atom (omega (arith, n)) in
    let a2 = get_or_default c.args.from.now 2 c.index-from-2.result empty_atom (omega (arith, n)) in
    let a3 = get_or_default c.args.from.now 3 c.index-from-3.result empty_atom (omega (arith, n)) in
    let a4 = get_or_default c.args.from.now 4 c.index-from-4.result empty_atom (omega (arith, n)) in
    λ i. set (set (set (set (set c.args.atoms.now (c.args.low + 4 * c.args.width + 5) (a4 i)) (c.args.low + 5 * c.args.width + 4) (a3 i)) (c.args.low + 3 * c.args.width + 4) (a2 i)) (c.args.low + 4 * c.args.width + 3) (a1 i)) (c.args.low + 4 * c.args.width + 4) (a0 i)
