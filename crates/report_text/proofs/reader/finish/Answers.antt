use Rattle.std.proofs.Common.{◌≡◌, ◌&&◌, ◌==◌, ◌∙◌, ap, sym, refl, length, false}
use Rattle.report_text.proofs.ReadLines.{walk_whole, walk_short}
use Rattle.report_text.proofs.reader.finish.Goals.{else-is_empty-via-then-is_empty+else-is_over, else-is_empty-via-else-is_empty}
use Rattle.report_text.specs.Reading.{entries_said, is_over}
use Rattle.report_text.specs.Cursors.{said_value}
use Rattle.report_text.proofs.reader.finish.Goals as goal

pub returns-then-is_over : goal.returns-then-is_over
returns-then-is_over c = λ m lists.
    ap entries_said (walk_whole m lists c.args.n (said_value c.args.reading) c.args.left.now (sym c.is_empty.ensures ∙ c.if-is_empty.true) (sym c.is_over.ensures ∙ c.if-is_over.true))

pub returns-else-is_empty : goal.returns-else-is_empty
returns-else-is_empty c = λ m lists.
    let said = said_value c.args.reading in
    let left = c.args.left.now in
    let stops : (length left == 0 && is_over said.wants) ≡ false = elim c.else-is_empty.branch [
      | else-is_empty-via-then-is_empty+else-is_over w ↦ rw (sym c.is_empty.ensures ∙ w.if-is_empty.true, sym w.is_over.ensures ∙ w.if-is_over.false) refl
      | else-is_empty-via-else-is_empty w ↦ rw (sym c.is_empty.ensures ∙ w.if-is_empty.false) refl
    ] in
    walk_short m lists c.args.n said left c.requires.lacks stops
