use Rattle.std.proofs.Common.{◌∷◌, arith}
use Rattle.std.specs.Prelude.{[], decimal}
use Rattle.std.proofs.lemmas.List.{drop_all}
use Rattle.report_text.proofs.WrittenLines.{whole_line}
use Rattle.report_text.proofs.line.write_short_abandoned.Goals as goal

pub returns-clause-written : goal.returns-clause-written
returns-clause-written c =
    let e = c.args.entry.now in
    rw (
      c.write_number.ensures.written,
      c.write_next_long-at-2.ensures.written,
      c.write_next-at-2.ensures.written,
      c.write_next-at.ensures.written,
      c.write_next_long-at.ensures.written,
      c.write_byte-at.ensures.written,
      drop_all 97 c.args.line.now (omega (arith, c.fits-line)),
    ) (whole_line (decimal e.tile) (decimal e.attempt ∷ decimal e.edge ∷ decimal e.holder ∷ decimal e.holder_attempt ∷ []))
