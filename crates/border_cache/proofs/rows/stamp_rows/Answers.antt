use Rattle.std.proofs.Common.{arith}
use Rattle.border_cache.proofs.InnerPlaces.{stamped_none, stamped_more, stamped_all}
use Rattle.border_cache.proofs.rows.stamp_rows.Goals as goal

pub returns-clause-stamped : goal.returns-clause-stamped
returns-clause-stamped c =
    let low = c.args.low in
    let width = c.args.width in
    let stamp = c.args.stamp in
    let old = c.args.stamps.now in
    let s0 = stamped_more low width stamp 0 old old _ (omega arith) c.stamp_run.ensures.run (stamped_none low width stamp old) in
    let s1 = stamped_more low width stamp 1 old _ _ (omega arith) c.stamp_run-2.ensures.run s0 in
    let s2 = stamped_more low width stamp 2 old _ _ (omega arith) c.stamp_run-3.ensures.run s1 in
    let s3 = stamped_more low width stamp 3 old _ _ (omega arith) c.stamp_run-4.ensures.run s2 in
    let s4 = stamped_more low width stamp 4 old _ _ (omega arith) c.stamp_run-5.ensures.run s3 in
    let s5 = stamped_more low width stamp 5 old _ _ (omega arith) c.stamp_run-6.ensures.run s4 in
    let s6 = stamped_more low width stamp 6 old _ _ (omega arith) c.stamp_run-7.ensures.run s5 in
    let s7 = stamped_more low width stamp 7 old _ _ (omega arith) c.stamp_run-8.ensures.run s6 in
    let s8 = stamped_more low width stamp 8 old _ _ (omega arith) c.stamp_run-9.ensures.run s7 in
    stamped_all low width stamp old _ s8
