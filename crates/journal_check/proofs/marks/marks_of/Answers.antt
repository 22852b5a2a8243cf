use Rattle.std.proofs.Common.{ℕ, ◌<◌, ◌*◌, All, List, [], length, take, replicate, get_or, refl, ap, sym, subst, ◌∙◌, arith}
use Rattle.std.specs.List.Sorted.{IsStrictlyIncreasing}
use Rattle.std.proofs.lemmas.List.{take_more}
use Rattle.event_journal.proofs.Journals.{no_record}
use Rattle.cell_grid.specs.declared.record.Record.{Record}
use Rattle.tile_map.specs.Plane.{site}
use Rattle.tile_map.specs.Edges.{pairs_of}
use Rattle.journal_check.specs.Marks.{AddsMark, AreMarks, is_list_of, mark_of}
use Rattle.journal_check.proofs.Latest.{needs_small}
use Rattle.journal_check.proofs.Marking.{lanes_in, marks_more, no_marks}
use Rattle.journal_check.proofs.marks.marks_of.Goals as goal

pub loop-k-init : goal.loop-k-init
loop-k-init c =
    no_marks c.args.map.now c.in_ok-table.table.items
    (c.in_ok-table.ensures ∙ ap (λ q. replicate q []) (ap (λ q. q * c.tiles-tiles.result) c.edges.ensures ∙ ap (λ q. length (pairs_of c.args.map.now) * q) c.tiles-tiles.ensures.count))

pub add-requires-clause-within : goal.add-requires-clause-within
add-requires-clause-within c =
    let m = c.args.map.now in
    let r : Record = get_or c.args.records.now c.loop-k.k no_record in
    let inside = c.requires c.loop-k.k no_record c.loop-k-test.true in
    let many = length (pairs_of m) in
    lanes_in many c.tiles-tiles.result r.tile (length c.loop-k.table.items) c.needs-needs.result (omega (arith, inside.tile, c.tiles-tiles.ensures.count))
    (c.loop-k.invariant.many ∙ ap (λ q. many * q) (sym c.tiles-tiles.ensures.count))
    (subst (λ (q : List ℕ). All (λ e. e < many) q) (sym c.needs-needs.ensures) (needs_small m r.tile (site r.x r.y) many refl))

pub add-requires-clause-rising : goal.add-requires-clause-rising
add-requires-clause-rising c =
    let r : Record = get_or c.args.records.now c.loop-k.k no_record in
    subst (λ (q : List ℕ). IsStrictlyIncreasing q) (sym c.needs-needs.ensures) (c.laws.ensures.plane.needs.rising r.tile (site r.x r.y))

pub loop-k-preserved : goal.loop-k-preserved
loop-k-preserved c =
    let m = c.args.map.now in
    let records = c.args.records.now in
    let k = c.loop-k.k in
    let r : Record = get_or records k no_record in
    let inside = c.requires k no_record c.loop-k-test.true in
    let adds = subst (λ n. AddsMark c.loop-k.table.items (is_list_of c.needs-needs.result n r.tile) (mark_of r) c.add.new.table.items) c.tiles-tiles.ensures.count c.in_ok-add.ensures.adds in
    subst (λ (q : List Record). AreMarks m q c.add.new.table.items) (sym (take_more records k no_record c.loop-k-test.true))
    (marks_more m (take k records) r c.needs-needs.result c.loop-k.table.items c.add.new.table.items c.needs-needs.ensures inside.tile c.in_ok-add.ensures.many adds c.loop-k.invariant)
