use Rattle.std.proofs.Common.{◌≡◌, ◌<◌, ◌+◌, ◌*◌, refl, sym, ap, subst, ◌∙◌, arith}
use Rattle.serial_order.specs.Scene.{registers_at}
use Rattle.serial_order.specs.Settled.{IsSettledTo}
use Rattle.serial_order.specs.Outcomes.{IsStretch, values_of}
use Rattle.serial_order.specs.Words.{AreEdgeWords, WordsValue}
use Rattle.plane_grid.proofs.Blanks.{wide}
use Rattle.serial_order.proofs.UnsharedSites.{stretch_is}
use Rattle.serial_order.proofs.Runs.{row_end, tiles_in_row}
use Rattle.serial_order.proofs.outcome.settle_row.Goals as goal

pub nonzero_div-count : goal.nonzero_div-count
nonzero_div-count g c = omega (arith, c.tile_width-size.ensures.value, c.tile_width-size.ensures.valid.sizes.w_low)

pub overflow_mul-part : goal.overflow_mul-part
overflow_mul-part g c =
    let m = c.args.map.now in
    let valid = c.tile_width-size.ensures.valid in
    let count = tiles_in_row m valid c.width.result c.tile_width-size.result (c.width.ensures.value ∙ c.requires.grid.fits.wide) c.tile_width-size.ensures.value in
    let part : c.loop-part.part < m.tx = omega (arith, c.loop-part-test.true, count) in
    let end = row_end m valid c.loop-part.part part in
    let most = wide m valid in
    let same : c.loop-part.part * c.tile_width-size.result ≡ c.loop-part.part * m.w = ap (λ n. c.loop-part.part * n) c.tile_width-size.ensures.value in
    omega (arith, end, most.1, same)

pub loop-part-init : goal.loop-part-init
loop-part-init g c = record {
  done = subst (λ n. IsSettledTo c.args.map.now (values_of c.args.tiles.now) (registers_at (g.E.EdgeWords.words c.args.words.now).histories) n c.args.grid.now) (let none : 0 * c.args.map.now.w ≡ 0 = omega arith in omega (arith, none)) c.requires.grid;
  plane = (refl, refl, refl);
  same = refl;
}

pub settle_stretch-requires-clause-stretch : goal.settle_stretch-requires-clause-stretch
settle_stretch-requires-clause-stretch g c =
    let m = c.args.map.now in
    let valid = c.tile_width-size.ensures.valid in
    let size = c.tile_width-size.ensures.value in
    let count = tiles_in_row m valid c.width.result c.tile_width-size.result (c.width.ensures.value ∙ c.requires.grid.fits.wide) size in
    let part : c.loop-part.part < m.tx = omega (arith, c.loop-part-test.true, count) in
    subst (λ n. IsStretch m (c.loop-part.part * n) n c.args.y) (sym size) (stretch_is m valid c.loop-part.part c.args.y part (omega (arith, c.requires.y, c.requires.grid.fits.high)))

pub settle_stretch-requires-clause-grid : goal.settle_stretch-requires-clause-grid
settle_stretch-requires-clause-grid g c =
    let i = c.loop-part.invariant in
    let place : c.args.y * c.loop-part.grid.width + c.loop-part.part * c.args.map.now.w ≡ c.args.y * c.loop-part.grid.width + c.loop-part.part * c.tile_width-size.result
    = ap (λ n. c.args.y * c.loop-part.grid.width + c.loop-part.part * n) (sym c.tile_width-size.ensures.value) in
    subst (λ (w : WordsValue). IsSettledTo c.args.map.now (values_of c.args.tiles.now) (registers_at w.histories) (c.args.y * c.loop-part.grid.width + c.loop-part.part * c.tile_width-size.result) c.loop-part.grid) (sym i.same)
    (subst (λ n. IsSettledTo c.args.map.now (values_of c.args.tiles.now) (registers_at (g.E.EdgeWords.words c.args.words.now).histories) n c.loop-part.grid) place i.done)

pub settle_stretch-requires-clause-words : goal.settle_stretch-requires-clause-words
settle_stretch-requires-clause-words g c = subst (AreEdgeWords c.args.map.now) (sym c.loop-part.invariant.same) c.requires.words

pub loop-part-preserved : goal.loop-part-preserved
loop-part-preserved g c =
    let m = c.args.map.now in
    let tiles = values_of c.args.tiles.now in
    let i = c.loop-part.invariant in
    let new = c.settle_stretch.new.grid in
    let p = c.settle_stretch.ensures.plane in
    let part = c.loop-part.part in
    let more : part * m.w + m.w ≡ (part + 1) * m.w = omega arith in
    let size = c.tile_width-size.ensures.value in
    let place : c.args.y * c.loop-part.grid.width + (part * c.tile_width-size.result + c.tile_width-size.result) ≡ c.args.y * new.width + (part + 1) * m.w
    = (λ j. c.args.y * (sym p.0 j) + (part * size j + size j)) ∙ ap (λ n. c.args.y * new.width + n) more in
    record {
      done = subst (λ n. IsSettledTo m tiles (registers_at (g.E.EdgeWords.words c.args.words.now).histories) n new) place
          (subst (λ (w : WordsValue). IsSettledTo m tiles (registers_at w.histories) (c.args.y * c.loop-part.grid.width + (part * c.tile_width-size.result + c.tile_width-size.result)) new) i.same c.settle_stretch.ensures.grid);
      plane = (p.0 ∙ i.plane.0, p.1 ∙ i.plane.1, p.2 ∙ i.plane.2);
      same = c.settle_stretch.ensures.same ∙ i.same;
    }

pub returns-clause-grid : goal.returns-clause-grid
returns-clause-grid g c =
    let m = c.args.map.now in
    let valid = c.tile_width-size.ensures.valid in
    let i = c.loop-part.invariant in
    let count = tiles_in_row m valid c.width.result c.tile_width-size.result (c.width.ensures.value ∙ c.requires.grid.fits.wide) c.tile_width-size.ensures.value in
    let last : c.loop-part.part ≡ m.tx = omega (arith, c.loop-part-test.false, c.loop-part.auto.part-end, count) in
    let wide : c.loop-part.part * m.w ≡ c.args.grid.now.width = ap (λ n. n * m.w) last ∙ sym c.requires.grid.fits.wide in
    subst (λ n. IsSettledTo m (values_of c.args.tiles.now) (registers_at (g.E.EdgeWords.words c.args.words.now).histories) n c.loop-part.grid)
    (λ j. c.args.y * i.plane.0 j + wide j) i.done
