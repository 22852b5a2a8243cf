use Rattle.std.proofs.Common.{arith}
use Rattle.border_cache.specs.Borders.{site_of}
use Rattle.border_cache.proofs.RowPlaces.{run_fits, run_row, row_none}
use Rattle.border_cache.proofs.masks.set_row.Goals as goal

pub overflow_sub-run : goal.overflow_sub-run
overflow_sub-run c = let some = c.in-Some.ensures.some in omega (arith, some)

pub overflow_add-run : goal.overflow_add-run
overflow_add-run c =
    let fits = run_fits c.args.area (site_of c.args.centre) c.args.j c.in-Some.run' c.in-Some.ensures in
    omega (arith, fits, c.requires.few)

pub set_run-requires-clause-few : goal.set_run-requires-clause-few
set_run-requires-clause-few c =
    let fits = run_fits c.args.area (site_of c.args.centre) c.args.j c.in-Some.run' c.in-Some.ensures in
    omega (arith, fits, c.requires.few)

pub set_run-requires-clause-some : goal.set_run-requires-clause-some
set_run-requires-clause-some c = let some = c.in-Some.ensures.some in omega (arith, some)

pub set_run-requires-clause-short : goal.set_run-requires-clause-short
set_run-requires-clause-short c = let few = c.in-Some.ensures.few in omega (arith, few)

pub returns-in-Some : goal.returns-in-Some
returns-in-Some c = run_row c.args.area (site_of c.args.centre) c.args.j c.in-Some.run' c.in-Some.ensures c.args.masks.now c.set_run.new.masks c.set_run.ensures

pub returns-in_default : goal.returns-in_default
returns-in_default c = row_none c.args.area (site_of c.args.centre) c.args.j c.args.masks.now c.in_default.ensures
