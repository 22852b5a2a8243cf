use Rattle.std.proofs.Common.{Ok, arith, subst, ◌≤◌}
use Rattle.chain_text.specs.Values.{chain_value}
use Rattle.chain_run.proofs.Follows.{follow_end}
use Rattle.chain_run.proofs.Replayed.{AreCounted, begun, counted_on, rest_stops, said_stops}
use Rattle.chain_run.specs.Reader.{Takes, said_by}
use Rattle.chain_run.specs.Reading.{read_chain}
use Rattle.chain_run.proofs.reports.read_all.Goals as goal

pub loop-leg-init : goal.loop-leg-init
loop-leg-init c = record {
  few = let all = c.in_ok-reports.ensures.3 in omega (arith, all);
  rest = begun _ c.args.bytes.now c.in_ok-reports.reports (AreCounted 0) c.in_ok-reports.ensures (λ ls. omega arith);
}

pub loop-leg-preserved : goal.loop-leg-preserved
loop-leg-preserved c =
    let taken = subst (λ o. Takes c.loop-leg.reports c.next.new.self (Ok o)) c.in-Some.is c.in_ok-leg.ensures in
    let count = c.events-events.ensures in
    let fewer = taken.fewer in
    let few = c.loop-leg.invariant.few in
    record {
      few = let one = count.few in omega (arith, few, fewer, one);
      rest = counted_on c.loop-leg.reports c.next.new.self c.in-Some.leg (read_chain (chain_value c.args.chain.now) c.args.bytes.now) c.loop-leg.events c.events-events.result taken count.count c.loop-leg.invariant.rest;
    }

pub loop-leg-smaller : goal.loop-leg-smaller
loop-leg-smaller c =
    let taken = subst (λ o. Takes c.loop-leg.reports c.next.new.self (Ok o)) c.in-Some.is c.in_ok-leg.ensures in
    let fewer = taken.fewer in
    omega (arith, fewer)

pub returns-in_err-reports : goal.returns-in_err-reports
returns-in_err-reports c = said_stops _ c.args.bytes.now _ _ c.in_err-reports.field-0.0 c.from_residual.ensures.1 c.in_err-reports.ensures

pub returns-in_err-leg : goal.returns-in_err-leg
returns-in_err-leg c = rest_stops _ c.args.bytes.now _ _ c.in_err-leg.field-0.0 c.from_residual-in_err-leg.ensures.1 c.loop-leg.reports (AreCounted c.loop-leg.events) c.in_err-leg.ensures c.loop-leg.invariant.rest

pub returns : goal.returns
returns c =
    let r = c.loop-leg.reports in
    let end = follow_end (said_by r) (read_chain (chain_value c.args.chain.now) c.args.bytes.now) (AreCounted c.loop-leg.events) (subst (λ o. Takes r c.next.new.self (Ok o)) c.in_default.is c.in_ok-leg.ensures) c.loop-leg.invariant.rest in
    let all = end.2 in
    (end.0, end.1, omega (arith, all))

pub overflow_add-events : goal.overflow_add-events
overflow_add-events c =
    let few = c.loop-leg.invariant.few in
    let one = c.events-events.ensures.few in
    let most : (chain_value c.args.chain.now).legs ≤ 1000000 = c.requires.chain.1.some.1 in
    omega (arith, few, one, most)
