use Rattle.std.proofs.Common.{Ok, arith, refl, subst, sym, ◌≤◌, ◌∙◌}
use Rattle.chain_text.specs.Values.{chain_value}
use Rattle.chain_run.proofs.Replayed.{rest_stops, said_stops}
use Rattle.chain_run.proofs.Sought.{IsSoughtOn, found, is_first, none_left, place_of, sought_first, sought_more}
use Rattle.chain_run.specs.Reader.{Takes}
use Rattle.chain_run.specs.Replays.{events_in}
use Rattle.chain_run.proofs.rewinding.rewind_legs.Goals as goal

pub loop-place-init : goal.loop-place-init
loop-place-init g c =
    let after = g.B.Behave.after c.args.behave.now in
    let value = chain_value c.args.chain.now in
    record {
      of_chain = c.in_ok-reports.ensures.0;
      place_is = is_first c.args.names.now value after c.in_ok-grid.grid c.args.left (record { chain = c.requires.chain; brings = c.requires.brings; between = c.in_ok-grid.ensures.between });
      meaning = λ some. refl;
      rest = sought_first value after c.args.bytes.now c.args.left c.in_ok-reports.reports c.in_ok-grid.grid c.in_ok-reports.ensures c.in_ok-grid.ensures.grid;
    }

pub new-requires-clause-chain : goal.new-requires-clause-chain
new-requires-clause-chain g c = (c.args.names.now, c.requires.chain)

pub past-requires-clause-some : goal.past-requires-clause-some
past-requires-clause-some g c = let some = c.if-place-eq0.false in omega (arith, some)

pub past-requires-clause-place : goal.past-requires-clause-place
past-requires-clause-place g c =
    let l = c.loop-place in
    let taken = subst (λ o. Takes l.reports c.next.new.self (Ok o)) c.in-Some.is c.in_ok-leg.ensures in
    (c.args.names.now, place_of c.args.names.now _ _ _ l.place (sym l.invariant.of_chain ∙ sym taken.of_chain) l.invariant.place_is)

pub loop-place-preserved : goal.loop-place-preserved
loop-place-preserved g c =
    let l = c.loop-place in
    let v = l.invariant in
    let names = c.args.names.now in
    let leg = c.in-Some.leg in
    let after = g.B.Behave.after c.args.behave.now in
    let now = g.B.Behave.after l.behave in
    let new = c.in_ok-place.place in
    let done = c.in_ok-place.ensures in
    let taken = subst (λ o. Takes l.reports c.next.new.self (Ok o)) c.in-Some.is c.in_ok-leg.ensures in
    let chain = taken.of_chain ∙ v.of_chain in
    let over = c.if-place-eq0.false in
    let some : 1 ≤ l.place.left = omega (arith, over) in
    record {
      of_chain = taken.same ∙ v.of_chain;
      place_is = place_of names _ _ _ new chain (done.place names (place_of names _ _ _ l.place (sym chain) v.place_is));
      meaning = λ more. done.meaning more ∙ v.meaning some;
      rest = sought_more _ after c.args.bytes.now c.args.left l.reports c.next.new.self leg now l.place new v.of_chain taken (v.meaning some) some done.past v.rest;
    }

pub loop-place-smaller : goal.loop-place-smaller
loop-place-smaller g c =
    let taken = subst (λ o. Takes c.loop-place.reports c.next.new.self (Ok o)) c.in-Some.is c.in_ok-leg.ensures in
    let fewer = taken.fewer in
    omega (arith, fewer)

pub read_all-requires-clause-chain : goal.read_all-requires-clause-chain
read_all-requires-clause-chain g c = (c.args.names.now, c.requires.chain)

pub returns-in_err-events-clause-rewinds : goal.returns-in_err-events-clause-rewinds
returns-in_err-events-clause-rewinds g c = said_stops _ c.args.bytes.now _ _ c.in_err-events.field-0.0 c.from_residual.ensures.1 c.in_err-events.ensures

pub returns-in_err-reports-clause-rewinds : goal.returns-in_err-reports-clause-rewinds
returns-in_err-reports-clause-rewinds g c = said_stops _ c.args.bytes.now _ _ c.in_err-reports.field-0.0 c.from_residual-in_err-reports.ensures.1 c.in_err-reports.ensures

pub returns-in_err-leg-clause-rewinds : goal.returns-in_err-leg-clause-rewinds
returns-in_err-leg-clause-rewinds g c =
    rest_stops _ c.args.bytes.now _ _ c.in_err-leg.field-0.0 c.from_residual-in_err-leg.ensures.1 c.loop-place.reports (IsSoughtOn (chain_value c.args.chain.now) (g.B.Behave.after c.args.behave.now) c.args.left c.loop-place.reports c.loop-place.place)
    c.in_err-leg.ensures c.loop-place.invariant.rest

pub returns-then-events-left-clause-rewinds : goal.returns-then-events-left-clause-rewinds
returns-then-events-left-clause-rewinds g c =
    let read = c.in_ok-events.ensures in
    let fewer = c.if-events-left.true in
    (read.0, read.1, (read.2, fewer))

pub returns-then-place-eq0-clause-rewinds : goal.returns-then-place-eq0-clause-rewinds
returns-then-place-eq0-clause-rewinds g c =
    let l = c.loop-place in
    let read = c.in_ok-events.ensures in
    let all = read.2 in
    let enough = c.if-events-left.false in
    let none = c.if-place-eq0.true in
    (read.0, read.1, found (chain_value c.args.chain.now) (g.B.Behave.after c.args.behave.now) c.args.bytes.now c.args.left read.0 read.1 (omega (arith, all, enough)) l.reports l.place l.invariant.rest (omega (arith, none)))

pub returns-clause-rewinds : goal.returns-clause-rewinds
returns-clause-rewinds g c =
    let l = c.loop-place in
    let value = chain_value c.args.chain.now in
    let after = g.B.Behave.after c.args.behave.now in
    let read = c.in_ok-events.ensures in
    let all = read.2 in
    let over = c.if-events-left.false in
    let enough : c.args.left ≤ events_in read.0 = omega (arith, all, over) in
    let none = none_left value after c.args.bytes.now c.args.left read.0 read.1 enough l.reports l.place l.invariant.rest (subst (λ o. Takes l.reports c.next.new.self (Ok o)) c.in_default.is c.in_ok-leg.ensures) in
    (read.0, read.1, found value after c.args.bytes.now c.args.left read.0 read.1 enough l.reports l.place l.invariant.rest none)
