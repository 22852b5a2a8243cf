use Rattle.std.proofs.Common.{◌≡◌, ◌+◌, ◌*◌, sym, subst, ◌∙◌, arith}
use Rattle.tile_map.specs.Plane.{site}
use Rattle.serial_order.specs.Scene.{registers_at}
use Rattle.serial_order.specs.Settled.{IsSettledAt, IsSettledTo}
use Rattle.serial_order.specs.Outcomes.{values_of}
use Rattle.serial_order.specs.Words.{AreEdgeWords, WordsValue}
use Rattle.plane_grid.proofs.Blanks.{wide}
use Rattle.serial_order.proofs.Filling.{one_settled}
use Rattle.serial_order.proofs.outcome.settle_stretch.Goals as goal

pub overflow_add-x-end : goal.overflow_add-x-end
overflow_add-x-end g c = let most = wide c.args.map.now c.laws.ensures.valid in omega (arith, most.1, c.requires.stretch.inside)

pub settle_site-requires-clause-x : goal.settle_site-requires-clause-x
settle_site-requires-clause-x g c = omega (arith, c.loop-x-test.true, c.requires.stretch.inside, c.loop-x.invariant.done.fits.wide)

pub settle_site-requires-clause-y : goal.settle_site-requires-clause-y
settle_site-requires-clause-y g c = omega (arith, c.requires.stretch.row, c.loop-x.invariant.done.fits.high)

pub settle_site-requires-clause-owner : goal.settle_site-requires-clause-owner
settle_site-requires-clause-owner g c =
    c.requires.stretch.owner c.loop-x.x c.loop-x.invariant.from (omega (arith, c.loop-x-test.true)) ∙ (sym c.owner.ensures.value ∙ sym c.of-unshared.ensures.tile)

pub settle_site-requires-clause-words : goal.settle_site-requires-clause-words
settle_site-requires-clause-words g c = subst (AreEdgeWords c.args.map.now) (sym c.loop-x.invariant.same) c.requires.words

pub loop-x-preserved : goal.loop-x-preserved
loop-x-preserved g c =
    let m = c.args.map.now in
    let tiles = values_of c.args.tiles.now in
    let registers = registers_at (g.E.EdgeWords.words c.args.words.now).histories in
    let i = c.loop-x.invariant in
    let old = c.loop-x.grid in
    let new = c.settle_site.new.grid in
    let s = c.settle_site.ensures.change in
    let here = subst (λ (w : WordsValue). IsSettledAt m tiles (registers_at w.histories) (site c.loop-x.x c.args.y) new) i.same c.settle_site.ensures.settled in
    let done = one_settled m tiles registers c.laws.ensures.plane c.loop-x.x c.args.y old new (omega (arith, c.loop-x-test.true, c.requires.stretch.inside, i.done.fits.wide)) i.done s here in
    record {
      from = let from = i.from in omega (arith, from);
      done = subst (λ n. IsSettledTo m tiles registers (c.args.y * n + (c.loop-x.x + 1)) new) (sym s.plane.0) done;
      plane = (s.plane.0 ∙ i.plane.0, s.plane.1 ∙ i.plane.1, s.plane.2 ∙ i.plane.2);
      same = c.settle_site.ensures.same ∙ i.same;
    }

pub returns-clause-grid : goal.returns-clause-grid
returns-clause-grid g c =
    let i = c.loop-x.invariant in
    let last : c.loop-x.x ≡ c.args.left + c.args.size = omega (arith, c.loop-x-test.false, c.loop-x.auto.x-end) in
    subst (λ n. IsSettledTo c.args.map.now (values_of c.args.tiles.now) (registers_at (g.E.EdgeWords.words c.args.words.now).histories) n c.loop-x.grid)
    (λ j. c.args.y * i.plane.0 j + last j) i.done
