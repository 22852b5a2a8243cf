use Rattle.std.proofs.Common.{◌≡◌, ◌+◌, ◌<◌, [], arith, drop, get_or, length, length-set, sym, ◌∙◌}
use Rattle.std.proofs.lemmas.List.{get_or_read}
use Rattle.event_journal.specs.Merged.{concat}
use Rattle.report_text.proofs.Parts.{next_part, still_same}
use Rattle.report_text.proofs.Putting.{underway_cut, underway_more}
use Rattle.report_text.proofs.abreast.put_all.Goals as goal

pub returns-in_err-put : goal.returns-in_err-put
returns-in_err-put g c =
    let l = c.loop-k in
    let old = c.args.parts.now in
    let part = get_or l.parts l.k c.index-parts-k.result in
    let inside : l.k < length l.parts = omega (arith, l.invariant.end, c.loop-k-test.true) in
    let is : get_or l.parts l.k [] ≡ part = sym (get_or_read l.parts l.k c.index-parts-k.result inside c.index-parts-k.is []) ∙ c.index-parts-k.is in
    let next = next_part l.k l.parts old part inside l.invariant.same is in
    underway_cut _ (g.K.Sink.state l.sink) (g.K.Sink.state c.put.new.sink) _ l.page _ _ part (concat (drop (l.k + 1) old)) _
    c.from_residual.result c.from_residual.ensures.0 l.invariant.underway next c.in_err-put.ensures

pub loop-k-preserved : goal.loop-k-preserved
loop-k-preserved g c =
    let l = c.loop-k in
    let old = c.args.parts.now in
    let part = get_or l.parts l.k c.index-parts-k.result in
    let inside : l.k < length l.parts = omega (arith, l.invariant.end, c.loop-k-test.true) in
    let is : get_or l.parts l.k [] ≡ part = sym (get_or_read l.parts l.k c.index-parts-k.result inside c.index-parts-k.is []) ∙ c.index-parts-k.is in
    let next = next_part l.k l.parts old part inside l.invariant.same is in
    let long = length-set l.parts l.k c.put.new.self in
    record {
      end = omega (arith, long, l.invariant.end);
      same = still_same l.k l.parts old c.put.new.self l.invariant.same;
      underway = underway_more _ (g.K.Sink.state l.sink) (g.K.Sink.state c.put.new.sink) _ l.page _ _ part (concat (drop (l.k + 1) old)) _
          l.invariant.underway next c.in_ok-put.ensures;
    }
