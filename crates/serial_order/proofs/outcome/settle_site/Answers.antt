use Rattle.std.proofs.Common.{◌≡◌, true, length, Some, refl, sym, ap, subst, ◌∙◌, arith}
use Rattle.std.proofs.lemmas.List.{length-map}
use Rattle.std.specs.Prelude.{slice_get}
use Rattle.tile_map.specs.Plane.{site, tiles_of, is_held, is_on}
use Rattle.tile_map.specs.Edges.{edges_at}
use Rattle.border_cache.specs.Copies.{CacheValue, held_cell}
use Rattle.tile_core.specs.Values.{TileValue}
use Rattle.serial_order.specs.Scene.{registers_at}
use Rattle.serial_order.specs.Settled.{settled_cell, IsSettledAt}
use Rattle.serial_order.specs.Outcomes.{ChangesSite, values_of}
use Rattle.serial_order.proofs.Filling.{tile_there, live_there, sets}
use Rattle.serial_order.proofs.Runs.{off_dead, on_live}
use Rattle.serial_order.proofs.outcome.settle_site.Goals as goal

pub returns-then-not-is_on-clause-change : goal.returns-then-not-is_on-clause-change
returns-then-not-is_on-clause-change g c = record { grid = c.requires.grid.0; plane = (refl, refl, refl); others = λ u live other. refl }

pub returns-then-not-is_on-clause-settled : goal.returns-then-not-is_on-clause-settled
returns-then-not-is_on-clause-settled g c = λ tile live is.
    absurd (off_dead c.args.map.now (site c.args.x c.args.y) (ap (is_on c.args.map.now) c.requires.owner ∙ (sym c.is_on.ensures ∙ c.if-not-is_on.true)) live)

pub bounds-tiles-unshared : goal.bounds-tiles-unshared
bounds-tiles-unshared g c =
    let count : length c.args.tiles.now ≡ tiles_of c.args.map.now = sym (length-map c.args.tiles.now (λ t. t.core)) ∙ c.requires.tiles.count in
    omega (arith, count, c.requires.unshared.tile)

pub settled_in-atom-requires-clause-map : goal.settled_in-atom-requires-clause-map
settled_in-atom-requires-clause-map g c =
    let x = c.index-tiles-unshared.result in
    let at = tile_there c.args.map.now c.args.tiles.now c.requires.tiles c.args.unshared.now.tile c.requires.unshared.tile x c.index-tiles-unshared.is in
    ap (λ (k : CacheValue). k.map) c.cache-cache.ensures ∙ c.requires.tiles.maps c.args.unshared.now.tile x.core at

pub settled_in-atom-requires-clause-tile : goal.settled_in-atom-requires-clause-tile
settled_in-atom-requires-clause-tile g c =
    let x = c.index-tiles-unshared.result in
    let at = tile_there c.args.map.now c.args.tiles.now c.requires.tiles c.args.unshared.now.tile c.requires.unshared.tile x c.index-tiles-unshared.is in
    ap (λ (k : CacheValue). k.tile) c.cache-cache.ensures ∙ c.requires.tiles.numbers c.args.unshared.now.tile x.core at

pub settled_in-atom-requires-clause-held : goal.settled_in-atom-requires-clause-held
settled_in-atom-requires-clause-held g c =
    let m = c.args.map.now in
    let s = site c.args.x c.args.y in
    let on = ap (is_on m) c.requires.owner ∙ (sym c.is_on.ensures ∙ c.if-not-is_on.false) in
    let live = on_live m c.args.grid.now c.requires.grid c.args.x c.args.y c.requires.x c.requires.y on in
    subst (λ t. is_held m t s ≡ true) c.requires.owner (c.laws.ensures.plane.owners.holder s live)

pub set-requires : goal.set-requires
set-requires g c =
    let m = c.args.map.now in
    let on = ap (is_on m) c.requires.owner ∙ (sym c.is_on.ensures ∙ c.if-not-is_on.false) in
    let live = on_live m c.args.grid.now c.requires.grid c.args.x c.args.y c.requires.x c.requires.y on in
    record { live = live_there m (values_of c.args.tiles.now) (registers_at (g.E.EdgeWords.words c.args.words.now).histories) c.args.grid.now c.requires.grid c.args.x c.args.y c.requires.x c.requires.y live }

pub returns-clause-change : goal.returns-clause-change
returns-clause-change g c =
    let m = c.args.map.now in
    let tiles = values_of c.args.tiles.now in
    let registers = registers_at (g.E.EdgeWords.words c.args.words.now).histories in
    let s = site c.args.x c.args.y in
    let x = c.index-tiles-unshared.result in
    let owner = sym c.requires.owner in
    let on = ap (is_on m) c.requires.owner ∙ (sym c.is_on.ensures ∙ c.if-not-is_on.false) in
    let live = on_live m c.args.grid.now c.requires.grid c.args.x c.args.y c.requires.x c.requires.y on in
    let at : slice_get tiles c.args.unshared.now.tile ≡ Some x.core = tile_there m c.args.tiles.now c.requires.tiles c.args.unshared.now.tile c.requires.unshared.tile x c.index-tiles-unshared.is in
    let both = sets m tiles registers c.laws.ensures.plane c.args.grid.now c.requires.grid c.args.x c.args.y c.requires.x c.requires.y live c.settled_in-atom.result (λ tile is.
    let same : x.core ≡ tile = cc (sym at ∙ (ap (slice_get tiles) owner ∙ is)) in
    let cache = c.cache-cache.ensures ∙ ap (λ (t : TileValue). t.cache) same in
    c.settled_in-atom.ensures.atom ∙ (λ i. (settled_cell m registers (held_cell (cache i)) (edges_at m (owner i)) s).atom)) in
    subst (ChangesSite m s c.args.grid.now) (sym c.set.ensures) both.0

pub returns-clause-settled : goal.returns-clause-settled
returns-clause-settled g c =
    let m = c.args.map.now in
    let tiles = values_of c.args.tiles.now in
    let registers = registers_at (g.E.EdgeWords.words c.args.words.now).histories in
    let s = site c.args.x c.args.y in
    let x = c.index-tiles-unshared.result in
    let owner = sym c.requires.owner in
    let on = ap (is_on m) c.requires.owner ∙ (sym c.is_on.ensures ∙ c.if-not-is_on.false) in
    let live = on_live m c.args.grid.now c.requires.grid c.args.x c.args.y c.requires.x c.requires.y on in
    let at : slice_get tiles c.args.unshared.now.tile ≡ Some x.core = tile_there m c.args.tiles.now c.requires.tiles c.args.unshared.now.tile c.requires.unshared.tile x c.index-tiles-unshared.is in
    let both = sets m tiles registers c.laws.ensures.plane c.args.grid.now c.requires.grid c.args.x c.args.y c.requires.x c.requires.y live c.settled_in-atom.result (λ tile is.
    let same : x.core ≡ tile = cc (sym at ∙ (ap (slice_get tiles) owner ∙ is)) in
    let cache = c.cache-cache.ensures ∙ ap (λ (t : TileValue). t.cache) same in
    c.settled_in-atom.ensures.atom ∙ (λ i. (settled_cell m registers (held_cell (cache i)) (edges_at m (owner i)) s).atom)) in
    subst (IsSettledAt m tiles registers s) (sym c.set.ensures) both.1
