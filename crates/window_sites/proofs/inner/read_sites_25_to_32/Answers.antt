use Rattle.std.proofs.Common.{arith, ◌+◌, ◌*◌, set}
use Rattle.window_sites.specs.Inner.{with_sites_read}
use Rattle.window_sites.specs.Sites.{sites}
use Rattle.window_sites.proofs.Filled.{read_at}
use Rattle.window_sites.proofs.inner.read_sites_25_to_32.Goals as goal

pub returns : goal.returns
unfolding sites with_sites_read
returns c =
    let h = c.requires.whole in
    let a32 = read_at c.args.plane.now (c.args.low + 0 * c.args.width + 4) c.index-plane-low.result c.index-plane-low.is (omega (arith, h)) in
    let a31 = read_at c.args.plane.now (c.args.low + 7 * c.args.width + 3) c.index-plane-low-2.result c.index-plane-low-2.is (omega (arith, h)) in
    let a30 = read_at c.args.plane.now (c.args.low + 1 * c.args.width + 3) c.index-plane-low-3.result c.index-plane-low-3.is (omega (arith, h)) in
    let a29 = read_at c.args.plane.now (c.args.low + 6 * c.args.width + 2) c.index-plane-low-4.result c.index-plane-low-4.is (omega (arith, h)) in
    let a28 = read_at c.args.plane.now (c.args.low + 2 * c.args.width + 2) c.index-plane-low-5.result c.index-plane-low-5.is (omega (arith, h)) in
    let a27 = read_at c.args.plane.now (c.args.low + 5 * c.args.width + 1) c.index-plane-low-6.result c.index-plane-low-6.is (omega (arith, h)) in
    let a26 = read_at c.args.plane.now (c.args.low + 3 * c.args.width + 1) c.index-plane-low-7.result c.index-plane-low-7.is (omega (arith, h)) in
    let a25 = read_at c.args.plane.now (c.args.low + 4 * c.args.width + 0) c.index-plane-low-8.result c.index-plane-low-8.is (omega (arith, h)) in
    λ i. set (set (set (set (set (set (set (set c.args.into.now 32 (a32 i)) 31 (a31 i)) 30 (a30 i)) 29 (a29 i)) 28 (a28 i)) 27 (a27 i)) 26 (a26 i)) 25 (a25 i)
