use Rattle.std.proofs.Common.{◌≡◌, ◌+◌, ◌*◌, refl, sym, ap, subst, ◌∙◌, arith}
use Rattle.serial_order.specs.Scene.{registers_at}
use Rattle.serial_order.specs.Settled.{IsSettledTo}
use Rattle.serial_order.specs.Outcomes.{values_of}
use Rattle.serial_order.specs.Words.{AreEdgeWords, WordsValue}
use Rattle.serial_order.proofs.Filling.{all_settled, none_settled}
use Rattle.serial_order.proofs.outcome.settle_sites.Goals as goal

pub loop-y-init : goal.loop-y-init
loop-y-init g c = record {
  done = none_settled c.args.map.now (values_of c.args.tiles.now) (registers_at (g.E.EdgeWords.words c.args.words.now).histories) (0 * c.args.grid.now.width) c.args.grid.now c.requires.grid (omega arith);
  plane = (refl, refl, refl);
  same = refl;
}

pub settle_row-requires-clause-y : goal.settle_row-requires-clause-y
settle_row-requires-clause-y g c = omega (arith, c.loop-y-test.true, c.height-y-end.ensures.value, c.loop-y.invariant.plane.1)

pub settle_row-requires-clause-grid : goal.settle_row-requires-clause-grid
settle_row-requires-clause-grid g c =
    let i = c.loop-y.invariant in
    subst (λ (w : WordsValue). IsSettledTo c.args.map.now (values_of c.args.tiles.now) (registers_at w.histories) (c.loop-y.y * c.loop-y.grid.width) c.loop-y.grid) (sym i.same) i.done

pub settle_row-requires-clause-words : goal.settle_row-requires-clause-words
settle_row-requires-clause-words g c = subst (AreEdgeWords c.args.map.now) (sym c.loop-y.invariant.same) c.requires.words

pub loop-y-preserved : goal.loop-y-preserved
loop-y-preserved g c =
    let m = c.args.map.now in
    let tiles = values_of c.args.tiles.now in
    let i = c.loop-y.invariant in
    let y = c.loop-y.y in
    let old = c.loop-y.grid in
    let new = c.settle_row.new.grid in
    let p = c.settle_row.ensures.plane in
    let more : y * old.width + old.width ≡ (y + 1) * old.width = omega arith in
    let place : y * old.width + old.width ≡ (y + 1) * new.width = more ∙ ap (λ n. (y + 1) * n) (sym p.0) in
    record {
      done = subst (λ n. IsSettledTo m tiles (registers_at (g.E.EdgeWords.words c.args.words.now).histories) n new) place
          (subst (λ (w : WordsValue). IsSettledTo m tiles (registers_at w.histories) (y * old.width + old.width) new) i.same c.settle_row.ensures.grid);
      plane = (p.0 ∙ i.plane.0, p.1 ∙ i.plane.1, p.2 ∙ i.plane.2);
      same = c.settle_row.ensures.same ∙ i.same;
    }

pub returns-clause-grid : goal.returns-clause-grid
returns-clause-grid g c =
    let i = c.loop-y.invariant in
    let grid = c.loop-y.grid in
    let last : c.loop-y.y ≡ grid.height = omega (arith, c.loop-y-test.false, c.loop-y.auto.y-end, c.height-y-end.ensures.value, i.plane.1) in
    let area : grid.width * grid.height ≡ c.loop-y.y * grid.width = let swap : grid.width * grid.height ≡ grid.height * grid.width = omega arith in swap ∙ ap (λ n. n * grid.width) (sym last) in
    all_settled c.args.map.now (values_of c.args.tiles.now) (registers_at (g.E.EdgeWords.words c.args.words.now).histories) c.laws.ensures.plane (c.loop-y.y * grid.width) grid (omega (arith, area)) i.done
