use Rattle.std.proofs.Common.{◌≡◌, true, List, [], sym, ap, ◌∙◌, arith, refl, below_more}
use Rattle.std.proofs.lemmas.List.{get_or_read}
use Rattle.cell_grid.specs.declared.record.Record.{Record}
use Rattle.event_journal.specs.Logs.{of_tile, abandoned_by}
use Rattle.journal_check.specs.Entries.{are_entries}
use Rattle.journal_check.proofs.Accounting.{accounted, tested}
use Rattle.journal_check.proofs.OwnEntries.{own_entries}
use Rattle.journal_check.proofs.accounted.is_accounted.Goals as goal

pub returns-then-not-are_of_tiles : goal.returns-then-not-are_of_tiles
returns-then-not-are_of_tiles c =
    let t = tested c.args.map.now c.args.plan.now c.args.records.now c.args.abandoned.now c.requires.lists in (
      (λ e. cc),
      (λ k.
          let yes = c.are_of_tiles.ensures.1 (λ i d lt. omega (arith, (t k).tiles i d lt, c.tiles-tiles.ensures.count)) in
          cc),
    )

pub returns-then-not-are_abandoned_by_tiles : goal.returns-then-not-are_abandoned_by_tiles
returns-then-not-are_abandoned_by_tiles c =
    let t = tested c.args.map.now c.args.plan.now c.args.records.now c.args.abandoned.now c.requires.lists in (
      (λ e. cc),
      (λ k.
          let yes = c.are_abandoned_by_tiles.ensures.1 (λ i d lt. omega (arith, (t k).gone_tiles i d lt, c.tiles-tiles.ensures.count)) in
          cc),
    )

pub events_by_tile-requires-clause-lists : goal.events_by_tile-requires-clause-lists
events_by_tile-requires-clause-lists c = c.requires.lists ∙ sym c.tiles-tiles.ensures.count

pub index-events-requires : goal.index-events-requires
index-events-requires c = omega (arith, c.in_ok-table.ensures.many, c.loop-tile-test.true)

pub are_entries-requires-clause-tile : goal.are_entries-requires-clause-tile
are_entries-requires-clause-tile c = omega arith

pub returns-then-not-are_entries : goal.returns-then-not-are_entries
returns-then-not-are_entries c =
    let m = c.args.map.now in
    let records = c.args.records.now in
    let abandoned = c.args.abandoned.now in
    let t = tested m c.args.plan.now records abandoned c.requires.lists in
    let tile = c.loop-tile.tile in
    let table : List (List Record) = c.in_ok-table.table.items in
    let mine = c.as_slice.ensures ∙ get_or_read table tile c.index-events.result.now (omega (arith, c.in_ok-table.ensures.many, c.loop-tile-test.true)) c.index-events.ensures [] ∙ c.in_ok-table.ensures.each tile c.loop-tile-test.true in (
      (λ e. cc),
      (λ k.
          let yes = (t k).each tile (omega (arith, c.tiles-tiles.ensures.count)) in
          let no' : c.are_entries.result ≡ true = c.are_entries.ensures ∙ own_entries m tile _ records _ abandoned _ mine c.abandoned_of-gone.ensures
          ∙ ap (λ q. are_entries m tile 0 q (of_tile tile records) (abandoned_by tile abandoned)) c.in_ok-attempts.ensures.value ∙ yes in
          cc),
    )

pub loop-tile-preserved : goal.loop-tile-preserved
loop-tile-preserved c =
    let m = c.args.map.now in
    let records = c.args.records.now in
    let abandoned = c.args.abandoned.now in
    let tile = c.loop-tile.tile in
    let table : List (List Record) = c.in_ok-table.table.items in
    let mine = c.as_slice.ensures ∙ get_or_read table tile c.index-events.result.now (omega (arith, c.in_ok-table.ensures.many, c.loop-tile-test.true)) c.index-events.ensures [] ∙ c.in_ok-table.ensures.each tile c.loop-tile-test.true in
    below_more _ tile c.loop-tile.invariant
    (sym (ap (λ q. are_entries m tile 0 q (of_tile tile records) (abandoned_by tile abandoned)) c.in_ok-attempts.ensures.value) ∙ sym (own_entries m tile _ records _ abandoned _ mine c.abandoned_of-gone.ensures) ∙ sym c.are_entries.ensures ∙ c.if-not-are_entries.false)

pub returns : goal.returns
returns c =
    let m = c.args.map.now in (
      (λ _. accounted m c.args.plan.now c.args.records.now c.args.abandoned.now c.requires.lists (record {
        order = c.are_in_order.ensures.0 c.if-not-are_in_order.false;
        sorted = c.are_sorted.ensures.0 c.if-not-are_sorted.false;
        tiles = λ i d lt. omega (arith, c.are_of_tiles.ensures.0 c.if-not-are_of_tiles.false i d lt, c.tiles-tiles.ensures.count);
        gone_tiles = λ i d lt. omega (arith, c.are_abandoned_by_tiles.ensures.0 c.if-not-are_abandoned_by_tiles.false i d lt, c.tiles-tiles.ensures.count);
        each = λ t lt. c.loop-tile.invariant t (omega (arith, lt, c.tiles-tiles.ensures.count, c.loop-tile-test.false));
      })),
      (λ _. refl),
    )
