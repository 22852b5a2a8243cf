use Rattle.std.proofs.Common.{◌≡◌, ◌+◌, ap, refl, subst, ◌∙◌}
use Rattle.report_text.proofs.GridParts.{before_journal}
use Rattle.report_text.specs.Entries.{Entries}
use Rattle.report_text.specs.GridPart.{LeavesLines}
use Rattle.report_text.proofs.reader.ReadJournal.grid_part.Goals as goal

pub returns : goal.returns
returns c = λ m plan map says.
    let left = c.after_lines-journal.result.now in
    let e = c.args.self.now in
    let sites : c.from.result ≡ e.sites = c.from.ensures ∙ ap (λ (v : Entries). v.sites) c.self.view_is in
    let leaves : LeavesLines c.args.bytes.now (e.sites + 2) left = subst (λ k. LeavesLines c.args.bytes.now (k + 2) left) sites c.after_lines-journal.ensures.left in
    before_journal m plan c.args.bytes.now left _ e map says leaves refl
