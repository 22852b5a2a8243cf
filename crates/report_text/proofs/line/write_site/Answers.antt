use Rattle.std.proofs.Common.{arith, refl}
use Rattle.std.proofs.lemmas.List.{drop_all}
use Rattle.report_text.proofs.line.write_site.Goals as goal

pub returns-clause-written : goal.returns-clause-written
returns-clause-written c =
    rw (
      c.write_long.ensures.written,
      c.write_next_long-at.ensures.written,
      c.write_byte-at.ensures.written,
      drop_all 42 c.args.line.now (omega (arith, c.fits-line)),
    ) refl
