use Rattle.std.proofs.Common.{arith}
use Rattle.report_text.proofs.Firsts.{all_counts, no_abandoned, no_atoms, no_records}
use Rattle.report_text.proofs.first.lines_counted.Goals as goal

pub returns-in_err-atoms : goal.returns-in_err-atoms
returns-in_err-atoms c = rw c.from_residual.ensures (no_atoms c.args.bytes.now c.behind_line.result.now c.behind_line.ensures.left c.in_err-atoms.ensures)

pub returns-in_err-records : goal.returns-in_err-records
returns-in_err-records c =
    let one = c.in_ok-atoms in
    rw c.from_residual-in_err-records.ensures
    (no_records c.args.bytes.now c.behind_line.result.now c.behind_line.ensures.left one.atoms one.left.now one.ensures.0 one.ensures.1.0 c.in_err-records.ensures)

pub returns-in_err-abandoned : goal.returns-in_err-abandoned
returns-in_err-abandoned c =
    let one = c.in_ok-atoms in
    let two = c.in_ok-records in
    rw c.from_residual-in_err-abandoned.ensures
    (no_abandoned c.args.bytes.now c.behind_line.result.now c.behind_line.ensures.left one.atoms one.left.now one.ensures.0 one.ensures.1.0 two.records two.left.now two.ensures.0 two.ensures.1.0 c.in_err-abandoned.ensures)

pub returns : goal.returns
returns c =
    let one = c.in_ok-atoms in
    let two = c.in_ok-records in
    let three = c.in_ok-abandoned in
    let all = all_counts c.args.bytes.now c.behind_line.result.now c.behind_line.ensures.left one.atoms one.left.now one.ensures.0 one.ensures.1.0 two.records two.left.now two.ensures.0 two.ensures.1.0 three.abandoned three.left.now three.ensures.0 three.ensures.1.0 in
    let first = c.behind_line.ensures.shorter in
    let second = one.ensures.1.1 in
    let third = two.ensures.1.1 in
    let last = three.ensures.1.1 in
    rw (c.from.ensures, c.from-2.ensures, c.from-3.ensures) (all.0, (all.1, omega (arith, first, second, third, last)))
