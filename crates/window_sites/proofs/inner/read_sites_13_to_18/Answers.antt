use Rattle.std.proofs.Common.{arith, ◌+◌, ◌*◌, set}
use Rattle.window_sites.specs.Inner.{with_sites_read}
use Rattle.window_sites.specs.Sites.{sites}
use Rattle.window_sites.proofs.Filled.{read_at}
use Rattle.window_sites.proofs.inner.read_sites_13_to_18.Goals as goal

pub returns : goal.returns
unfolding sites with_sites_read
returns c =
    let h = c.requires.whole in
    let a18 = read_at c.args.plane.now (c.args.low + 1 * c.args.width + 4) c.index-plane-low.result c.index-plane-low.is (omega (arith, h)) in
    let a17 = read_at c.args.plane.now (c.args.low + 6 * c.args.width + 3) c.index-plane-low-2.result c.index-plane-low-2.is (omega (arith, h)) in
    let a16 = read_at c.args.plane.now (c.args.low + 2 * c.args.width + 3) c.index-plane-low-3.result c.index-plane-low-3.is (omega (arith, h)) in
    let a15 = read_at c.args.plane.now (c.args.low + 5 * c.args.width + 2) c.index-plane-low-4.result c.index-plane-low-4.is (omega (arith, h)) in
    let a14 = read_at c.args.plane.now (c.args.low + 3 * c.args.width + 2) c.index-plane-low-5.result c.index-plane-low-5.is (omega (arith, h)) in
    let a13 = read_at c.args.plane.now (c.args.low + 4 * c.args.width + 1) c.index-plane-low-6.result c.index-plane-low-6.is (omega (arith, h)) in
    λ i. set (set (set (set (set (set c.args.into.now 18 (a18 i)) 17 (a17 i)) 16 (a16 i)) 15 (a15 i)) 14 (a14 i)) 13 (a13 i)
