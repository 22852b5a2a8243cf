use Rattle.std.proofs.Common.{◌≡◌, ◌∷◌, ◌++◌, List, [], take, get_or, set, ap, sym, subst, ◌∙◌, arith}
use Rattle.std.proofs.lemmas.List.{get_or_read, take_more}
use Rattle.std.proofs.lemmas.Result.{IfOk-at_ok}
use Rattle.cell_grid.specs.declared.record.Record.{Record}
use Rattle.event_journal.proofs.Journals.{no_record}
use Rattle.journal_check.specs.ByTile.{AreByTile}
use Rattle.journal_check.proofs.OwnEntries.{none_yet, one_more}
use Rattle.journal_check.proofs.by_tile.events_by_tile.Goals as goal

pub loop-k-init : goal.loop-k-init
loop-k-init c = none_yet c.args.tiles c.in_ok-table.table.items c.in_ok-table.ensures

pub loop-k-preserved : goal.loop-k-preserved
loop-k-preserved c =
    let records = c.args.records.now in
    let k = c.loop-k.k in
    let r : Record = get_or records k no_record in
    let now : List (List Record) = c.loop-k.table.items in
    let list : List Record = c.push.new.self in
    let inside = c.requires.tiles k no_record c.loop-k-test.true in
    let at : c.index_mut-events.result.now ≡ get_or now r.tile [] = get_or_read now r.tile c.index_mut-events.result.now (omega (arith, inside, c.loop-k.invariant.many)) c.index_mut-events.ensures.value [] in
    let pushed : list ≡ c.index_mut-events.result.now ++ r ∷ [] = IfOk-at_ok (λ _. list ≡ c.index_mut-events.result.now ++ r ∷ []) c.in_ok-push.was c.push.ensures in
    subst (λ (q : List Record). AreByTile c.args.tiles q (set now r.tile list)) (sym (take_more records k no_record c.loop-k-test.true))
    (one_more c.args.tiles (take k records) r now list inside (pushed ∙ ap (λ (q : List Record). q ++ r ∷ []) at) c.loop-k.invariant)
