use Rattle.std.proofs.Common.{◌≡◌, ◌∙◌, ap, List, [], ◌∷◌, ◌++◌, Some, option_map, map}
use Rattle.std.proofs.lemmas.List.{map-append}
use Rattle.ulam_tree.specs.Raw.{Word}
use Rattle.ulam_tree.specs.RawViews.{member_of}
use Rattle.ulam_heirs.specs.declared.opened.Change.{Change as CodeChange}
use Rattle.ulam_heirs.specs.Opened.{name_of}
use Rattle.ulam_heirs.specs.OpenedViews.{change_of, latest_of, state_of}
use Rattle.ulam_heirs.proofs.Tables.{put_is, add_is, leads_one}
use Rattle.ulam_heirs.proofs.opened.add.Goals as goal

pub returns-clause-table : goal.returns-clause-table
returns-clause-table c =
    let named : c.bytes-name.result.now ≡ name_of (member_of c.args.of.now) = c.bytes-name.ensures ∙ ap (λ (w : Word). w.name) c.member_word.ensures in
    add_is (state_of c.args.opened.now).table _ c.bytes-name.result.now (member_of c.args.of.now) (option_map latest_of c.latest_of-before.result) (latest_of c.next.result)
    (put_is c.args.opened.now.latest.entries c.insert.new.self.entries c.bytes-name.result (Some c.next.result) c.in_ok-insert.ensures.entries)
    named c.next.ensures c.latest_of-before.ensures

pub returns-clause-leads : goal.returns-clause-leads
returns-clause-leads c =
    let old : List CodeChange = c.args.opened.now.changes.items in
    leads_one (state_of c.args.opened.now) (state_of (record { latest = c.insert.new.self; changes = c.push.new.self })) c.bytes-name.result.now (Some (latest_of c.next.result))
    (put_is c.args.opened.now.latest.entries c.insert.new.self.entries c.bytes-name.result (Some c.next.result) c.in_ok-insert.ensures.entries)
    (ap (map change_of) c.in_ok-push.ensures.items ∙ map-append change_of old _ ∙ ap (λ b. map change_of old ++ record { name = c.bytes-name.result.now; before = b } ∷ []) c.latest_of-before.ensures)
