use Rattle.std.proofs.Common.{arith, ◌+◌, ◌*◌, set}
use Rattle.window_sites.specs.Inner.{with_sites_read}
use Rattle.window_sites.specs.Sites.{sites}
use Rattle.window_sites.proofs.Filled.{read_at}
use Rattle.window_sites.proofs.inner.read_sites_0_to_4.Goals as goal

pub returns : goal.returns
unfolding sites with_sites_read
returns c =
    let h = c.requires.whole in
    let a4 = read_at c.args.plane.now (c.args.low + 4 * c.args.width + 5) c.index-plane-low.result c.index-plane-low.is (omega (arith, h)) in
    let a3 = read_at c.args.plane.now (c.args.low + 5 * c.args.width + 4) c.index-plane-low-2.result c.index-plane-low-2.is (omega (arith, h)) in
    let a2 = read_at c.args.plane.now (c.args.low + 3 * c.args.width + 4) c.index-plane-low-3.result c.index-plane-low-3.is (omega (arith, h)) in
    let a1 = read_at c.args.plane.now (c.args.low + 4 * c.args.width + 3) c.index-plane-low-4.result c.index-plane-low-4.is (omega (arith, h)) in
    let a0 = read_at c.args.plane.now (c.args.low + 4 * c.args.width + 4) c.index-plane-low-5.result c.index-plane-low-5.is (omega (arith, h)) in
    λ i. set (set (set (set (set c.args.into.now 4 (a4 i)) 3 (a3 i)) 2 (a2 i)) 1 (a1 i)) 0 (a0 i)
