use Rattle.std.proofs.Common.{[], ◌≡◌, ◌<◌, ◌≤◌, ◌∙◌, ap, sym, length, arith, get_or, map, None, Some, Option, ℕ}
use Rattle.std.proofs.Math.ListN.{set}
use Rattle.std.proofs.lemmas.List.{map-set, length-set, length-map, get_or_past}
use Rattle.report_text.proofs.Takings.{cursor_serves, cursor_last, cursors_serve, none_owns, fault_at_none}
use Rattle.report_text.specs.Reading.{record_fault}
use Rattle.report_text.specs.Cursors.{last_of, lasts_of}
use Rattle.report_text.proofs.placing.record_at.Goals as goal

pub returns : goal.returns
returns c =
    let cursors = c.args.cursors.now.items in
    let t = c.args.r.now.tile in
    let s = c.index_mut.result.now in
    let lt : t < length cursors = omega arith in
    let is = c.index_mut.ensures.value in
    record {
      fault = λ lists all.
          c.record_fault.ensures.fault (get_or lists t []) (cursor_serves cursors lists t s all lt is)
          ∙ ap (λ (o : Option (ℕ × ℕ)). record_fault c.args.map.now c.args.n c.args.before o (get_or lists t []) c.args.r.now) (sym (cursor_last cursors t s lt is));
      serve = λ none lists all. cursors_serve cursors lists t c.record_fault.new.cursor all lt (c.record_fault.ensures.serves none (get_or lists t []) (cursor_serves cursors lists t s all lt is));
      many = length-set cursors t c.record_fault.new.cursor;
      last = λ none. map-set last_of cursors t c.record_fault.new.cursor ∙ ap (λ z. set (map last_of cursors) t z) (c.record_fault.ensures.last none);
    }

pub returns-then-r-tiles-clause-fault : goal.returns-then-r-tiles-clause-fault
returns-then-r-tiles-clause-fault c = λ lists all.
    let cursors = c.args.cursors.now.items in
    let t = c.args.r.now.tile in
    let m = c.args.map.now in
    let r = c.args.r.now in
    let before = c.args.before in
    let far : length cursors ≤ t = omega (arith, c.if-r-tiles.true, c.tiles.ensures.count, c.requires.cursors) in
    let last : get_or (lasts_of cursors) t None ≡ None = get_or_past (lasts_of cursors) t None (omega (arith, far, length-map cursors last_of)) in
    let none = none_owns m r c.tiles.ensures.valid (omega (arith, far, c.requires.cursors)) in
    ap (λ f. Some f) c.no_tile.ensures ∙ sym (fault_at_none m c.args.n before (get_or lists t []) r none)
    ∙ ap (λ (o : Option (ℕ × ℕ)). record_fault m c.args.n before o (get_or lists t []) r) (sym last)
