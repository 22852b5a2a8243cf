use Rattle.std.proofs.Common.{◌<◌, arith, length, subst}
use Rattle.event_journal.proofs.Splitting.{next_own, own_cut, split_merged, split_more}
use Rattle.event_journal.specs.Keys.{IsCut}
use Rattle.event_journal.proofs.split.split_below.Goals as goal

pub cut-requires : goal.cut-requires
cut-requires c =
    let l = c.loop-k in
    (next_own c.args.stamp l.k c.args.merge.now l.front l.merge c.left.result.now l.invariant.split (omega (arith, l.invariant.end, c.loop-k-test.true)) c.laws.ensures c.left.ensures).1.rising

pub set_left-requires-clause-own : goal.set_left-requires-clause-own
set_left-requires-clause-own c =
    let l = c.loop-k in
    let own = (next_own c.args.stamp l.k c.args.merge.now l.front l.merge c.left.result.now l.invariant.split (omega (arith, l.invariant.end, c.loop-k-test.true)) c.laws.ensures c.left.ensures).1 in
    (own_cut l.k c.args.stamp c.left.result.now c.cut.result.0.now c.cut.result.1.now c.cut.ensures own).0

pub set_left-requires-in-loop-k-clause-own : goal.set_left-requires-in-loop-k-clause-own
set_left-requires-in-loop-k-clause-own c =
    let l = c.loop-k in
    let own = (next_own c.args.stamp l.k c.args.merge.now l.front l.merge c.left.result.now l.invariant.split (omega (arith, l.invariant.end, c.loop-k-test.true)) c.laws.ensures c.left.ensures).1 in
    (own_cut l.k c.args.stamp c.left.result.now c.cut.result.0.now c.cut.result.1.now c.cut.ensures own).1

pub loop-k-preserved : goal.loop-k-preserved
loop-k-preserved c =
    let l = c.loop-k in
    let low = c.cut.result.0.now in
    let high = c.cut.result.1.now in
    let inside : l.k < length c.args.merge.now = omega (arith, l.invariant.end, c.loop-k-test.true) in
    let same = (next_own c.args.stamp l.k c.args.merge.now l.front l.merge c.left.result.now l.invariant.split inside c.laws.ensures c.left.ensures).0 in
    record {
      end = l.invariant.end;
      split = rw (c.set_left.ensures, c.set_left-in-loop-k.ensures) (split_more c.args.stamp l.k c.args.merge.now l.front l.merge low high l.invariant.split inside (subst (λ xs. IsCut c.args.stamp xs low high) same c.cut.ensures));
    }

pub returns : goal.returns
returns c =
    let l = c.loop-k in
    split_merged c.args.stamp l.k c.args.merge.now l.front l.merge l.invariant.split (omega (arith, l.invariant.end, c.loop-k-test.false)) c.laws.ensures c.laws-2.ensures c.laws-3.ensures
