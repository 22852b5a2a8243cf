use Rattle.std.proofs.Common.{arith, refl, replicate}
use Rattle.border_cache.specs.Borders.{site_of}
use Rattle.border_cache.proofs.RowPlaces.{no_bits, rows_begin, rows_more, rows_all}
use Rattle.border_cache.proofs.masks.masks_at.Goals as goal

pub loop-j-init : goal.loop-j-init
loop-j-init c = rows_begin c.args.area (site_of c.args.centre) c.rows_of-first.result.0 c.rows_of-first.result.1 (replicate 9 0) c.rows_of-first.ensures refl (λ k. no_bits 9 k 0 refl)

pub set_row-requires-clause-j : goal.set_row-requires-clause-j
set_row-requires-clause-j c = let few = c.rows_of-first.ensures.few in omega (arith, c.loop-j-test.true, few)

pub loop-j-preserved : goal.loop-j-preserved
loop-j-preserved c =
    let s = c.set_row.ensures in
    rows_more c.args.area (site_of c.args.centre) c.loop-j.j c.loop-j.masks c.set_row.new.masks c.loop-j.invariant (record { count = s.count; set = s.set; kept = s.kept; only = s.only })

pub returns-clause-masks : goal.returns-clause-masks
returns-clause-masks c = rows_all c.args.area (site_of c.args.centre) c.rows_of-first.result.0 c.rows_of-first.result.1 c.loop-j.j c.loop-j.masks c.rows_of-first.ensures (omega (arith, c.loop-j-test.false)) c.loop-j.invariant
