use Rattle.std.proofs.Common.{Ok, arith, refl, subst, sym, ◌∙◌}
use Rattle.chain_text.specs.Values.{chain_value}
use Rattle.chain_run.proofs.Audited.{IsJudgedOn, audit_end, audit_first, audit_on, known_of}
use Rattle.chain_run.proofs.Replayed.{rest_stops, said_stops}
use Rattle.chain_run.specs.Judging.{judged_chain}
use Rattle.chain_run.specs.Reader.{Takes}
use Rattle.chain_run.specs.Standings.{StandsBehind}
use Rattle.chain_run.proofs.auditing.audit_legs.Goals as goal

pub loop-standing-init : goal.loop-standing-init
loop-standing-init g c = record {
  of_chain = c.in_ok-reports.ensures.0;
  meaning = refl;
  known = record { chain = c.requires.chain; brings = c.requires.brings; between = c.in_ok-first_grid.ensures.between };
  rest = audit_first _ (g.B.Behave.after c.args.behave.now) c.args.names.now c.args.bytes.now c.in_ok-reports.reports c.in_ok-first_grid.field-0 c.in_ok-reports.ensures c.in_ok-first_grid.ensures.grid;
}

pub new-requires-clause-chain : goal.new-requires-clause-chain
new-requires-clause-chain g c = (c.args.names.now, c.requires.chain)

pub stand_behind-requires : goal.stand_behind-requires
stand_behind-requires g c =
    let l = c.loop-standing in
    let taken = subst (λ o. Takes l.reports c.next.new.self (Ok o)) c.in-Some.is c.in_ok-leg.ensures in
    record { known = known_of c.args.names.now _ _ _ _ l.standing (sym l.invariant.of_chain ∙ sym taken.of_chain) (sym l.invariant.meaning) l.invariant.known }

pub loop-standing-preserved : goal.loop-standing-preserved
loop-standing-preserved g c =
    let l = c.loop-standing in
    let v = l.invariant in
    let names = c.args.names.now in
    let leg = c.in-Some.leg in
    let after = g.B.Behave.after c.args.behave.now in
    let new = c.in_ok-standing.standing in
    let done = c.in_ok-standing.ensures in
    let taken = subst (λ o. Takes l.reports c.next.new.self (Ok o)) c.in-Some.is c.in_ok-leg.ensures in
    record {
      of_chain = taken.same ∙ v.of_chain;
      meaning = c.stand_behind.ensures.meaning ∙ v.meaning;
      known = known_of names _ _ _ _ new (taken.of_chain ∙ v.of_chain) v.meaning done.known;
      rest = audit_on _ after names c.args.bytes.now l.reports c.next.new.self leg l.standing new v.of_chain taken
          (subst (λ m. StandsBehind (judged_chain leg.chain m names) leg l.standing new) v.meaning done.stands) v.rest;
    }

pub loop-standing-smaller : goal.loop-standing-smaller
loop-standing-smaller g c =
    let taken = subst (λ o. Takes c.loop-standing.reports c.next.new.self (Ok o)) c.in-Some.is c.in_ok-leg.ensures in
    let fewer = taken.fewer in
    omega (arith, fewer)

pub read_all-requires-clause-chain : goal.read_all-requires-clause-chain
read_all-requires-clause-chain g c = (c.args.names.now, c.requires.chain)

pub returns-in_err-read_all : goal.returns-in_err-read_all
returns-in_err-read_all g c = said_stops _ c.args.bytes.now _ _ c.in_err-read_all.field-0.0 c.from_residual.ensures.1 c.in_err-read_all.ensures

pub returns-in_err-reports : goal.returns-in_err-reports
returns-in_err-reports g c = said_stops _ c.args.bytes.now _ _ c.in_err-reports.field-0.0 c.from_residual-in_err-reports.ensures.1 c.in_err-reports.ensures

pub returns-in_err-leg : goal.returns-in_err-leg
returns-in_err-leg g c =
    rest_stops _ c.args.bytes.now _ _ c.in_err-leg.field-0.0 c.from_residual-in_err-leg.ensures.1 c.loop-standing.reports (IsJudgedOn (chain_value c.args.chain.now) (g.B.Behave.after c.args.behave.now) c.args.names.now c.loop-standing.reports c.loop-standing.standing)
    c.in_err-leg.ensures c.loop-standing.invariant.rest

pub returns : goal.returns
returns g c =
    let l = c.loop-standing in
    audit_end (chain_value c.args.chain.now) (g.B.Behave.after c.args.behave.now) c.args.names.now c.args.bytes.now l.reports l.standing c.verdict.result (subst (λ o. Takes l.reports c.next.new.self (Ok o)) c.in_default.is c.in_ok-leg.ensures) l.invariant.rest c.verdict.ensures
