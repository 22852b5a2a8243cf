use Rattle.std.proofs.Common.{◌≡◌, ◌∙◌, sym, subst, ℕ, ◌+◌, List, [], ◌∷◌, ◌++◌, length, take, Option, arith}
use Rattle.ulam_heirs.specs.declared.heir.Heir.{Heir as CodeHeir}
use Rattle.ulam_heirs.specs.declared.spans.Span.{Span}
use Rattle.ulam_heirs.specs.Lines.{Heir}
use Rattle.ulam_heirs.specs.Spans.{span_by, members_span, IsSpan}
use Rattle.ulam_heirs.specs.Views.{heir_of, heirs_of}
use Rattle.ulam_heirs.proofs.Turns.{taken_on, taken_long}
use Rattle.ulam_heirs.proofs.Spanning.{span_on}
use Rattle.ulam_heirs.proofs.spans.all_spans.Goals as goal

pub loop-heir-preserved : goal.loop-heir-preserved
loop-heir-preserved c =
    let xs : List CodeHeir = c.args.line.now in
    let x : CodeHeir = c.heir-item.result in
    let i : ℕ = c.loop-heir.heir-index in
    let on : heirs_of (take (i + 1) xs) ≡ heirs_of (take i xs) ++ (heir_of x ∷ []) = taken_on xs i x c.loop-heir-test.true c.heir-item.is in
    let long : length (heirs_of (take i xs)) ≡ c.loop-heir.index = taken_long xs i c.loop-heir-test.true ∙ sym c.loop-heir.invariant.index in
    record {
      spans = λ name.
          subst (λ (o : Option Span). IsSpan (heirs_of (take (i + 1) xs)) name o) (sym (c.in_ok-add_class.ensures name))
          (subst (λ (l : List Heir). IsSpan l name (members_span (heir_of x) c.loop-heir.index name (heir_of x).class.members (span_by name c.loop-heir.spans.entries))) (sym on)
          (subst (λ n. IsSpan (heirs_of (take i xs) ++ (heir_of x ∷ [])) name (members_span (heir_of x) n name (heir_of x).class.members (span_by name c.loop-heir.spans.entries))) long
          (span_on (heirs_of (take i xs)) (heir_of x) name (span_by name c.loop-heir.spans.entries) (c.loop-heir.invariant.spans name))));
      index = omega (arith, c.loop-heir.invariant.index);
    }
