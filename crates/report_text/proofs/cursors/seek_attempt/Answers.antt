use Rattle.std.proofs.Common.{◌∙◌, ap, drop, ◌+◌, ◌≡◌, arith, sym, ◌==◌, ◌≤◌, ℕ, if◌then◌else◌}
use Rattle.report_text.proofs.Takings.{drop_more}
use Rattle.report_text.specs.Reading.{first_of}
use Rattle.report_text.specs.Cursors.{passed_of}
use Rattle.report_text.proofs.cursors.seek_attempt.Goals as goal

pub returns-clause-value : goal.returns-clause-value
returns-clause-value c = λ list is.
    c.seek-found.ensures.value ∙ ap (λ l. first_of (drop c.between-count.result l)) is ∙ ap first_of (drop_more list (passed_of c.args.cursor.now) c.between-count.result c.args.attempt c.between-count.ensures)

pub returns-clause-left : goal.returns-clause-left
returns-clause-left c = λ list is.
    let passed : passed_of (record { stream = c.seek-found.new.stream; last = c.args.attempt; line = c.args.line }) ≡ c.args.attempt + 1 = passed_at c.args.line c.args.attempt c.requires.line in
    c.seek-found.ensures.left ∙ ap (λ l. drop (c.between-count.result + 1) l) is
    ∙ drop_more list (passed_of c.args.cursor.now) (c.between-count.result + 1) (c.args.attempt + 1) (omega (arith, c.between-count.ensures)) ∙ ap (λ k. drop k list) (sym passed)
  where
    passed_at : (line attempt : ℕ) → 1 ≤ line → (if line == 0 then 0 else attempt + 1) ≡ attempt + 1
    passed_at line attempt some = grind arith
