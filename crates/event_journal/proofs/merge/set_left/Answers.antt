use Rattle.std.proofs.Common.{sym, subst, arith}
use Rattle.event_journal.specs.Keys.{AreOwn, lists_behind}
use Rattle.event_journal.proofs.Keys.{behind_long, behind_set, keys_still, own_set}
use Rattle.event_journal.proofs.merge.set_left.Goals as goal

pub returns-clause-lists : goal.returns-clause-lists
returns-clause-lists c = behind_set c.args.lefts.now c.args.k c.args.records

pub returns-clause-own : goal.returns-clause-own
returns-clause-own c =
    let long = behind_long c.args.lefts.now in
    subst AreOwn (sym (behind_set c.args.lefts.now c.args.k c.args.records))
    (own_set (lists_behind c.args.lefts.now) c.args.k c.args.records.now c.requires.own (omega (arith, long, c.requires.inside)) c.requires.mine)

pub returns-clause-keys : goal.returns-clause-keys
returns-clause-keys c =
    let long = behind_long c.args.lefts.now in
    let keys = keys_still (lists_behind c.args.lefts.now) c.args.keys.now c.args.k c.key.result c.args.records.now c.requires.keys (omega (arith, long, c.requires.inside)) c.key.ensures in
    rw (behind_set c.args.lefts.now c.args.k c.args.records, c.set.ensures) keys
