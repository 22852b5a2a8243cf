use Rattle.std.proofs.Common.{arith, ◌+◌, ◌*◌, set}
use Rattle.window_sites.specs.Inner.{with_sites_read}
use Rattle.window_sites.specs.Sites.{sites}
use Rattle.window_sites.proofs.Filled.{read_at}
use Rattle.window_sites.proofs.inner.read_sites_19_to_24.Goals as goal

pub returns : goal.returns
unfolding sites with_sites_read
returns c =
    let h = c.requires.whole in
    let a24 = read_at c.args.plane.now (c.args.low + 4 * c.args.width + 7) c.index-plane-low.result c.index-plane-low.is (omega (arith, h)) in
    let a23 = read_at c.args.plane.now (c.args.low + 5 * c.args.width + 6) c.index-plane-low-2.result c.index-plane-low-2.is (omega (arith, h)) in
    let a22 = read_at c.args.plane.now (c.args.low + 3 * c.args.width + 6) c.index-plane-low-3.result c.index-plane-low-3.is (omega (arith, h)) in
    let a21 = read_at c.args.plane.now (c.args.low + 6 * c.args.width + 5) c.index-plane-low-4.result c.index-plane-low-4.is (omega (arith, h)) in
    let a20 = read_at c.args.plane.now (c.args.low + 2 * c.args.width + 5) c.index-plane-low-5.result c.index-plane-low-5.is (omega (arith, h)) in
    let a19 = read_at c.args.plane.now (c.args.low + 7 * c.args.width + 4) c.index-plane-low-6.result c.index-plane-low-6.is (omega (arith, h)) in
    λ i. set (set (set (set (set (set c.args.into.now 24 (a24 i)) 23 (a23 i)) 22 (a22 i)) 21 (a21 i)) 20 (a20 i)) 19 (a19 i)
