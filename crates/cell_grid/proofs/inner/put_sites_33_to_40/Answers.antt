use Rattle.std.proofs.Common.{arith, ◌+◌, ◌*◌, set}
use Rattle.std.proofs.lemmas.List.{get_or_default}
use Rattle.bit_field.specs.Atom.{empty_atom}
use Rattle.window_sites.specs.Sites.{sites}
use Rattle.cell_grid.specs.Inner.{with_sites_put}
use Rattle.cell_grid.proofs.inner.put_sites_33_to_40.Goals as goal

pub returns : goal.returns
unfolding sites with_sites_put
returns c =
    let n = c.type_inv.from in
    let a33 = get_or_default c.args.from.now 33 c.index-from-33.result empty_atom (omega (arith, n)) in
    let a34 = get_or_default c.args.from.now 34 c.index-from-34.result empty_atom (omega (arith, n)) in
    let a35 = get_or_default c.args.from.now 35 c.index-from-35.result empty_atom (omega (arith, n)) in
    let a36 = get_or_default c.args.from.now 36 c.index-from-36.result empty_atom (omega (arith, n)) in
    let a37 = get_or_default c.args.from.now 37 c.index-from-37.result empty_atom (omega (arith, n)) in
    let a38 = get_or_default c.args.from.now 38 c.index-from-38.result empty_atom (omega (arith, n)) in
    let a39 = get_or_default c.args.from.now 39 c.index-from-39.result empty_atom (omega (arith, n)) in
    let a40 = get_or_default c.args.from.now 40 c.index-from-40.result empty_atom (omega (arith, n)) in
    λ i. set (set (set (set (set (set (set (set c.args.atoms.now (c.args.low + 4 * c.args.width + 8) (a40 i)) (c.args.low + 5 * c.args.width + 7) (a39 i)) (c.args.low + 3 * c.args.width + 7) (a38 i)) (c.args.low + 6 * c.args.width + 6) (a37 i)) (c.args.low + 2 * c.args.width + 6) (a36 i)) (c.args.low + 7 * c.args.width + 5) (a35 i)) (c.args.low + 1 * c.args.width + 5) (a34 i)) (c.args.low + 8 * c.args.width + 4) (a33 i)
