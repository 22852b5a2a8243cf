use Rattle.std.proofs.Common.{arith, ◌+◌, ◌*◌, set}
use Rattle.window_sites.specs.Inner.{with_sites_read}
use Rattle.window_sites.specs.Sites.{sites}
use Rattle.window_sites.proofs.Filled.{read_at}
use Rattle.window_sites.proofs.inner.read_sites_33_to_40.Goals as goal

pub returns : goal.returns
unfolding sites with_sites_read
returns c =
    let h = c.requires.whole in
    let a40 = read_at c.args.plane.now (c.args.low + 4 * c.args.width + 8) c.index-plane-low.result c.index-plane-low.is (omega (arith, h)) in
    let a39 = read_at c.args.plane.now (c.args.low + 5 * c.args.width + 7) c.index-plane-low-2.result c.index-plane-low-2.is (omega (arith, h)) in
    let a38 = read_at c.args.plane.now (c.args.low + 3 * c.args.width + 7) c.index-plane-low-3.result c.index-plane-low-3.is (omega (arith, h)) in
    let a37 = read_at c.args.plane.now (c.args.low + 6 * c.args.width + 6) c.index-plane-low-4.result c.index-plane-low-4.is (omega (arith, h)) in
    let a36 = read_at c.args.plane.now (c.args.low + 2 * c.args.width + 6) c.index-plane-low-5.result c.index-plane-low-5.is (omega (arith, h)) in
    let a35 = read_at c.args.plane.now (c.args.low + 7 * c.args.width + 5) c.index-plane-low-6.result c.index-plane-low-6.is (omega (arith, h)) in
    let a34 = read_at c.args.plane.now (c.args.low + 1 * c.args.width + 5) c.index-plane-low-7.result c.index-plane-low-7.is (omega (arith, h)) in
    let a33 = read_at c.args.plane.now (c.args.low + 8 * c.args.width + 4) c.index-plane-low-8.result c.index-plane-low-8.is (omega (arith, h)) in
    λ i. set (set (set (set (set (set (set (set c.args.into.now 40 (a40 i)) 39 (a39 i)) 38 (a38 i)) 37 (a37 i)) 36 (a36 i)) 35 (a35 i)) 34 (a34 i)) 33 (a33 i)
