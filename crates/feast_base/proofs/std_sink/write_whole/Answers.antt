use Rattle.std.proofs.Common.{rules, take, sym, ap, length, ◌++◌, ◌∙◌, append_assoc, append-nil, [], arith}
use Rattle.std.proofs.lemmas.List.{take-append-drop}
use Rattle.std.proofs.lemmas.Slice.{between_to_end}
use Rattle.feast_base.proofs.Streams.{AppendsKnown-more}
use Rattle.feast_base.proofs.std_sink.write_whole.Goals as goal

pub loop-rest-preserved : goal.loop-rest-preserved
loop-rest-preserved g c =
    let invariant = c.loop-rest.invariant in
    let rest = c.loop-rest.rest.now in
    let n = c.in-Ok.count in
    let parts = ap (λ z. take n rest ++ z) (between_to_end rest n (length rest) (omega arith)) ∙ take-append-drop n rest in (
      invariant.0 ++ take n rest,
      invariant.1 ∙ ap (λ z. invariant.0 ++ z) (sym parts) ∙ sym (append_assoc invariant.0 (take n rest) _),
      AppendsKnown-more _ _ _ _ _ invariant.2 (search rules),
    )

pub returns-in-Ok-eq0 : goal.returns-in-Ok-eq0
returns-in-Ok-eq0 g c =
    let invariant = c.loop-rest.invariant in
    let rest = c.loop-rest.rest.now in (
      invariant.0 ++ [],
      rest,
      invariant.1 ∙ ap (λ z. z ++ rest) (sym (append-nil invariant.0)),
      AppendsKnown-more _ _ _ _ _ invariant.2 (search rules),
    )
