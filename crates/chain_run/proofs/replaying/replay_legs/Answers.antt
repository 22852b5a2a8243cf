use Rattle.std.proofs.Common.{Ok, ap, arith, refl, subst, sym, ◌∙◌}
use Rattle.chain_text.specs.Chain.{ChainValue}
use Rattle.chain_text.specs.Values.{chain_value}
use Rattle.chain_run.proofs.Replayed.{IsReplayed, known_by, replay_end, replay_first, replay_on, rest_stops, said_stops}
use Rattle.chain_run.specs.Between.{IsBetween}
use Rattle.chain_run.specs.Chains.{making}
use Rattle.chain_run.specs.Reader.{Takes, grid_by}
use Rattle.chain_run.proofs.replaying.replay_legs.Goals as goal

pub loop-grid-init : goal.loop-grid-init
loop-grid-init g c = record {
  of_chain = c.in_ok-reports.ensures.0;
  meaning = refl;
  between = record { chain = c.requires.chain; brings = c.requires.brings; between = c.in_ok-grid.ensures.between };
  rest = replay_first _ (g.B.Behave.after c.args.behave.now) c.args.bytes.now c.in_ok-reports.reports c.in_ok-grid.grid c.in_ok-reports.ensures c.in_ok-grid.ensures.grid;
}

pub new-requires-clause-chain : goal.new-requires-clause-chain
new-requires-clause-chain g c = (c.args.names.now, c.requires.chain)

pub replay-requires : goal.replay-requires
replay-requires g c =
    let l = c.loop-grid in
    let taken = subst (λ o. Takes l.reports c.next.new.self (Ok o)) c.in-Some.is c.in_ok-leg.ensures in
    record { between = (c.args.names.now, known_by c.args.names.now _ _ _ _ l.grid (sym l.invariant.of_chain ∙ sym taken.of_chain) (sym l.invariant.meaning) l.invariant.between) }

pub loop-grid-preserved : goal.loop-grid-preserved
loop-grid-preserved g c =
    let l = c.loop-grid in
    let v = l.invariant in
    let names = c.args.names.now in
    let leg = c.in-Some.leg in
    let taken = subst (λ o. Takes l.reports c.next.new.self (Ok o)) c.in-Some.is c.in_ok-leg.ensures in
    let known = known_by names _ _ _ _ l.grid (sym v.of_chain ∙ sym taken.of_chain) (sym v.meaning) v.between in
    record {
      of_chain = taken.same ∙ v.of_chain;
      meaning = c.replay.ensures.meaning ∙ v.meaning;
      between = record {
        chain = v.between.chain;
        brings = v.between.brings;
        between = subst (λ (d : ChainValue). IsBetween names d c.replay.new.grid) (taken.of_chain ∙ v.of_chain) (c.replay.ensures.between names known);
      };
      rest = replay_on _ (g.B.Behave.after c.args.behave.now) c.args.bytes.now l.reports c.next.new.self leg l.grid c.replay.new.grid v.of_chain taken
          (c.replay.ensures.grid ∙ ap (λ m. grid_by (making leg.chain m) leg.number l.grid leg.entries.records) v.meaning) v.rest;
    }

pub loop-grid-smaller : goal.loop-grid-smaller
loop-grid-smaller g c =
    let taken = subst (λ o. Takes c.loop-grid.reports c.next.new.self (Ok o)) c.in-Some.is c.in_ok-leg.ensures in
    let fewer = taken.fewer in
    omega (arith, fewer)

pub read_all-requires-clause-chain : goal.read_all-requires-clause-chain
read_all-requires-clause-chain g c = (c.args.names.now, c.requires.chain)

pub returns-in_err-read_all-clause-replays : goal.returns-in_err-read_all-clause-replays
returns-in_err-read_all-clause-replays g c = said_stops _ c.args.bytes.now _ _ c.in_err-read_all.field-0.0 c.from_residual.ensures.1 c.in_err-read_all.ensures

pub returns-in_err-reports-clause-replays : goal.returns-in_err-reports-clause-replays
returns-in_err-reports-clause-replays g c = said_stops _ c.args.bytes.now _ _ c.in_err-reports.field-0.0 c.from_residual-in_err-reports.ensures.1 c.in_err-reports.ensures

pub returns-in_err-leg-clause-replays : goal.returns-in_err-leg-clause-replays
returns-in_err-leg-clause-replays g c =
    rest_stops _ c.args.bytes.now _ _ c.in_err-leg.field-0.0 c.from_residual-in_err-leg.ensures.1 c.loop-grid.reports (IsReplayed (chain_value c.args.chain.now) (g.B.Behave.after c.args.behave.now) c.loop-grid.reports c.loop-grid.grid) c.in_err-leg.ensures c.loop-grid.invariant.rest

pub returns-clause-replays : goal.returns-clause-replays
returns-clause-replays g c =
    let l = c.loop-grid in
    replay_end (chain_value c.args.chain.now) (g.B.Behave.after c.args.behave.now) c.args.bytes.now l.reports l.grid (subst (λ o. Takes l.reports c.next.new.self (Ok o)) c.in_default.is c.in_ok-leg.ensures) l.invariant.rest
