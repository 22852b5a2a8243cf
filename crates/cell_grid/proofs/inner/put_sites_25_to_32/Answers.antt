use Rattle.std.proofs.Common.{arith, ◌+◌, ◌*◌, set}
use Rattle.std.proofs.lemmas.List.{get_or_default}
use Rattle.bit_field.specs.Atom.{empty_atom}
use Rattle.window_sites.specs.Sites.{sites}
use Rattle.cell_grid.specs.Inner.{with_sites_put}
use Rattle.cell_grid.proofs.inner.put_sites_25_to_32.Goals as goal

pub returns : goal.returns
unfolding sites with_sites_put
returns c =
    let n = c.type_inv.from in
    let a25 = get_or_default c.args.from.now 25 c.index-from-25.result empty_atom (omega (arith, n)) in
    let a26 = get_or_default c.args.from.now 26 c.index-from-26.result empty_atom (omega (arith, n)) in
    let a27 = get_or_default c.args.from.now 27 c.index-from-27.result empty_atom (omega (arith, n)) in
    let a28 = get_or_default c.args.from.now 28 c.index-from-28.result empty_atom (omega (arith, n)) in
    let a29 = get_or_default c.args.from.now 29 c.index-from-29.result empty_atom (omega (arith, n)) in
    let a30 = get_or_default c.args.from.now 30 c.index-from-30.result empty_atom (omega (arith, n)) in
    let a31 = get_or_default c.args.from.now 31 c.index-from-31.result empty_atom (omega (arith, n)) in
    let a32 = get_or_default c.args.from.now 32 c.index-from-32.result empty_atom (omega (arith, n)) in
    λ i. set (set (set (set (set (set (set (set c.args.atoms.now (c.args.low + 0 * c.args.width + 4) (a32 i)) (c.args.low + 7 * c.args.width + 3) (a31 i)) (c.args.low + 1 * c.args.width + 3) (a30 i)) (c.args.low + 6 * c.args.width + 2) (a29 i)) (c.args.low + 2 * c.args.width + 2) (a28 i)) (c.args.low + 5 * c.args.width + 1) (a27 i)) (c.args.low + 3 * c.args.width + 1) (a26 i)) (c.args.low + 4 * c.args.width + 0) (a25 i)
