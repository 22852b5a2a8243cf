use Rattle.std.proofs.Common.{Bool, ◌≡◌, get_or, take, sym, subst, below_more}
use Rattle.std.proofs.lemmas.List.{get_or_default, take_more}
use Rattle.event_journal.proofs.Journals.{no_record}
use Rattle.cell_grid.specs.declared.record.Record.{Record}
use Rattle.event_journal.specs.Accounts.{stamp_after}
use Rattle.journal_check.specs.Clocks.{AreClocks, HasStamp, Ticks, clocks_of}
use Rattle.journal_check.proofs.Latest.{ticks_true}
use Rattle.journal_check.proofs.stamped.first_misstamped.Goals as goal

pub returns-then-not-tick : goal.returns-then-not-tick
returns-then-not-tick c =
    let before = take c.loop-k.k c.args.records.now in
    let r : Record = get_or c.args.records.now c.loop-k.k no_record in
    let new = clocks_of c.tick.new.clocks.tiles.items c.tick.new.clocks.edges.items in
    let other = subst (λ (b : Bool). Ticks c.args.map.now before r new b) c.if-not-tick.true (c.tick.ensures before c.loop-k.invariant.clocks) in
    record {
      within = c.loop-k-test.true;
      before = c.loop-k.invariant.before;
      here = λ h. other (h no_record);
    }

pub loop-k-preserved : goal.loop-k-preserved
loop-k-preserved c =
    let m = c.args.map.now in
    let records = c.args.records.now in
    let k = c.loop-k.k in
    let r : Record = get_or records k no_record in
    let t = ticks_true m (take k records) r c.tick.new.clocks.tiles.items c.tick.new.clocks.edges.items c.tick.result c.if-not-tick.false (c.tick.ensures (take k records) c.loop-k.invariant.clocks) in
    record {
      clocks = subst (λ q. AreClocks m q (clocks_of c.tick.new.clocks.tiles.items c.tick.new.clocks.edges.items)) (sym (take_more records k no_record c.loop-k-test.true)) t.1;
      before = below_more (HasStamp m records) k c.loop-k.invariant.before
          (λ d. subst (λ (q : Record). q.stamp ≡ stamp_after m (take k records) q) (get_or_default records k no_record d c.loop-k-test.true) t.0);
    }
