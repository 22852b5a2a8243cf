use Rattle.std.proofs.Common.{ℕ, ◌≡◌, ◌+◌, ◌-◌, ◌∙◌, List, Err, ap, arith, refl, subst, sym}
use Rattle.chain_run.specs.Between.{IsBetween, IsLegLeft}
use Rattle.chain_run.specs.Reports.{AreCountsOf, WriterValue, leg_text}
use Rattle.chain_run.specs.Runs.{leg_of}
use Rattle.chain_text.specs.Chain.{IsChain}
use Rattle.chain_text.specs.Values.{chain_value}
use Rattle.feast_base.specs.Loading.{IsPut}
use Rattle.feast_run.proofs.LegsPut.{ArePut, all_put, none_put, one_put, stops_before, stops_behind, stops_put}
use Rattle.feast_run.specs.Changes.{change}
use Rattle.feast_run.specs.Values.{ready_chain_value}
use Rattle.report_text.specs.Writing.{Writes}
use Rattle.feast_run.proofs.legs.put_legs.Goals as goal

pub returns-in_err-grid : goal.returns-in_err-grid
returns-in_err-grid g c =
    stops_before c.args.legs.now.stepped (ready_chain_value c.args.legs.now.ready) (g.K.Sink.state c.args.sink.now) c.from_residual.result c.requires.ready.chain.some.0 c.from_residual.ensures.1

pub loop-made-init : goal.loop-made-init
loop-made-init g c =
    let r = c.args.legs.now.ready in
    record {
      put = none_put c.args.legs.now.stepped (ready_chain_value r) c.in_ok-grid.grid c.new-writer.result.counts (g.K.Sink.state c.args.sink.now) c.in_ok-grid.ensures.grid (ap (λ (w : WriterValue). w.counts) c.new-writer.ensures);
      names = ap (λ (w : WriterValue). w.names) c.new-writer.ensures ∙ c.names-names.ensures;
      between = subst (λ (ns : List (List ℕ)). IsBetween ns (chain_value r.chain) c.in_ok-grid.grid) c.names-names.ensures c.in_ok-grid.ensures.between;
      few = subst (λ (w : WriterValue). AreCountsOf 0 w.counts) (sym c.new-writer.ensures) (omega arith, omega arith);
    }

pub returns-in_err-outcome : goal.returns-in_err-outcome
returns-in_err-outcome g c =
    let l = c.loop-made in
    stops_behind c.args.legs.now.stepped (ready_chain_value c.args.legs.now.ready) l.made l.grid l.writer.counts (g.K.Sink.state c.args.sink.now) (g.K.Sink.state l.sink) c.from_residual-in_err-outcome.result l.invariant.put c.loop-made-test.true c.from_residual-in_err-outcome.ensures.1

pub put-requires-clause-leg : goal.put-requires-clause-leg
put-requires-clause-leg g c =
    let l = c.loop-made in
    let chain = chain_value c.args.legs.now.ready.chain in
    λ lives bounds. (subst (λ (ns : List (List ℕ)). IsChain ns chain) (sym l.invariant.names) c.requires.ready.chain, record { first = omega arith; last = omega (arith, c.loop-made-test.true) })

pub put-requires-clause-left : goal.put-requires-clause-left
put-requires-clause-left g c =
    let l = c.loop-made in
    λ lives bounds. subst (λ (ns : List (List ℕ)). IsLegLeft ns (chain_value c.args.legs.now.ready.chain) c.in_ok-outcome.outcome) (sym l.invariant.names) c.in_ok-outcome.ensures.left

pub put-requires-clause-counts : goal.put-requires-clause-counts
put-requires-clause-counts g c =
    let l = c.loop-made in
    let first = c.args.legs.now.ready.chain.first in
    let number : l.made ≡ first + l.made - first = omega arith in
    λ lives bounds. subst (λ n. AreCountsOf n l.writer.counts) number l.invariant.few

pub put-requires-clause-room : goal.put-requires-clause-room
put-requires-clause-room g c = λ lives bounds. omega (arith, c.loop-made.invariant.put.put.same, c.requires.room)

pub returns-in_err-put : goal.returns-in_err-put
returns-in_err-put g c =
    let l = c.loop-made in
    let r = ready_chain_value c.args.legs.now.ready in
    let o = c.in_ok-outcome.outcome in
    let now = g.K.Sink.state l.sink in
    let new = g.K.Sink.state c.put.new.sink in
    let writes = subst (λ (ns : List (List ℕ)). Writes {T = Unit {0}} now new (leg_text r.chain ns (r.chain.first + l.made) l.writer.counts (leg_of o)) (Err c.in_err-put.field-0.0)) l.invariant.names c.in_err-put.ensures.writes in
    stops_put (Unit {0}) c.args.legs.now.stepped r l.made l.grid l.writer.counts o (g.K.Sink.state c.args.sink.now) now new c.in_err-put.field-0.0 c.from_residual-in_err-put.result l.invariant.put c.loop-made-test.true c.in_ok-outcome.ensures.made writes c.from_residual-in_err-put.ensures.1

pub loop-made-preserved : goal.loop-made-preserved
loop-made-preserved g c =
    let l = c.loop-made in
    let r = ready_chain_value c.args.legs.now.ready in
    let o = c.in_ok-outcome.outcome in
    let now = g.K.Sink.state l.sink in
    let new = g.K.Sink.state c.put.new.sink in
    let writer = c.in_ok-put.ensures.counts refl in
    let put = subst (λ (ns : List (List ℕ)). IsPut now new (leg_text r.chain ns (r.chain.first + l.made) l.writer.counts (leg_of o))) l.invariant.names c.in_ok-put.ensures.writes in
    let next : r.chain.first + l.made + 1 - r.chain.first ≡ l.made + 1 = omega arith in
    record {
      put = one_put c.args.legs.now.stepped r l.made l.grid l.writer.counts c.put.new.self.counts o (g.K.Sink.state c.args.sink.now) now new l.invariant.put c.in_ok-outcome.ensures.made (ap (λ (w : WriterValue). w.counts) writer) put;
      names = ap (λ (w : WriterValue). w.names) writer ∙ l.invariant.names;
      between = c.in_ok-outcome.ensures.left.between;
      few = subst (λ n. AreCountsOf n c.put.new.self.counts) next (c.in_ok-put.ensures.few refl);
    }

pub returns : goal.returns
returns g c =
    let l = c.loop-made in
    let r = ready_chain_value c.args.legs.now.ready in
    let all : l.made ≡ r.chain.legs = omega (arith, c.loop-made-test.false) in
    all_put c.args.legs.now.stepped r l.grid l.writer.counts (g.K.Sink.state c.args.sink.now) (g.K.Sink.state l.sink)
    (subst (λ n. ArePut c.args.legs.now.stepped r n l.grid l.writer.counts (change g.K.Sink.state c.args.sink.now l.sink)) all l.invariant.put)
