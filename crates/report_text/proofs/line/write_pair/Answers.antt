use Rattle.std.proofs.Common.{◌≡◌, ◌+◌, ◌%◌, set, arith, length-set}
use Rattle.std.proofs.lemmas.List.{set_comm, drop-set}
use Rattle.feast_base.specs.Digits.{glyph}
use Rattle.report_text.proofs.Pairs.{PAIRS_at}
use Rattle.report_text.proofs.line.write_pair.Goals as goal

pub returns : goal.returns
returns c =
    let p = PAIRS_at c.args.byte c.requires.0 in
    let start = c.args.start in
    let line = c.args.line.now in
    let e : start + 1 + 1 ≡ start + 2 = omega arith in
    rw (p.0, p.1, set_comm line start (start + 1) _ _ (λ x. omega arith), drop-set (set line (start + 1) (glyph (c.args.byte % 16))) start _ (omega (arith, length-set line (start + 1) (glyph (c.args.byte % 16)))), drop-set line (start + 1) _ (omega arith), e)
