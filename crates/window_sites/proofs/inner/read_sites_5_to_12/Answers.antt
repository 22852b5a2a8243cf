use Rattle.std.proofs.Common.{arith, ◌+◌, ◌*◌, set}
use Rattle.window_sites.specs.Inner.{with_sites_read}
use Rattle.window_sites.specs.Sites.{sites}
use Rattle.window_sites.proofs.Filled.{read_at}
use Rattle.window_sites.proofs.inner.read_sites_5_to_12.Goals as goal

pub returns : goal.returns
unfolding sites with_sites_read
returns c =
    let h = c.requires.whole in
    let a12 = read_at c.args.plane.now (c.args.low + 4 * c.args.width + 6) c.index-plane-low.result c.index-plane-low.is (omega (arith, h)) in
    let a11 = read_at c.args.plane.now (c.args.low + 5 * c.args.width + 5) c.index-plane-low-2.result c.index-plane-low-2.is (omega (arith, h)) in
    let a10 = read_at c.args.plane.now (c.args.low + 3 * c.args.width + 5) c.index-plane-low-3.result c.index-plane-low-3.is (omega (arith, h)) in
    let a9 = read_at c.args.plane.now (c.args.low + 6 * c.args.width + 4) c.index-plane-low-4.result c.index-plane-low-4.is (omega (arith, h)) in
    let a8 = read_at c.args.plane.now (c.args.low + 2 * c.args.width + 4) c.index-plane-low-5.result c.index-plane-low-5.is (omega (arith, h)) in
    let a7 = read_at c.args.plane.now (c.args.low + 5 * c.args.width + 3) c.index-plane-low-6.result c.index-plane-low-6.is (omega (arith, h)) in
    let a6 = read_at c.args.plane.now (c.args.low + 3 * c.args.width + 3) c.index-plane-low-7.result c.index-plane-low-7.is (omega (arith, h)) in
    let a5 = read_at c.args.plane.now (c.args.low + 4 * c.args.width + 2) c.index-plane-low-8.result c.index-plane-low-8.is (omega (arith, h)) in
    λ i. set (set (set (set (set (set (set (set c.args.into.now 12 (a12 i)) 11 (a11 i)) 10 (a10 i)) 9 (a9 i)) 8 (a8 i)) 7 (a7 i)) 6 (a6 i)) 5 (a5 i)
