use Rattle.std.proofs.Common.{◌≡◌, [], ◌∷◌, Ok, Err, length, subst, sym, ap, ◌∙◌, arith, rules}
use Rattle.std.proofs.lemmas.List.{nil_from_length}
use Rattle.code_file.specs.Form.{ElementValue, elements}
use Rattle.code_file.specs.Judging.{Admits, right_elements}
use Rattle.code_file.proofs.Judges.{admit_stops, exit_answers, judged_on, verdict_of}
use Rattle.code_file.proofs.reading.judge.Goals as goal

pub loop-draft-init : goal.loop-draft-init
loop-draft-init c =
    let first : c.into_iter-draft-iterator.result.rest.items ≡ c.args.drafts.items = search rules in
    record {
      same = ap length c.new-names.ensures.items ∙ sym (ap length c.new-codes.ensures.items);
      left = (λ i. right_elements (elements (c.new-names.ensures.items i) (c.new-codes.ensures.items i)) (first i));
    }

pub loop-draft-preserved : goal.loop-draft-preserved
loop-draft-preserved c =
    let done = elements c.loop-draft.names.items c.loop-draft.codes.items in
    let all = elements c.admit.new.names.items c.admit.new.codes.items in
    record {
      same = c.in_ok-admit.ensures.same;
      left = sym (judged_on done c.in-Some.draft c.next.new.self.rest.items all (subst (λ (e : ElementValue). right_elements done (e ∷ []) ≡ Ok all) c.draft.view_is c.in_ok-admit.ensures.admits)) ∙ ap (right_elements done) (sym c.in-Some.ensures.steps.0) ∙ c.loop-draft.invariant.left;
    }

pub returns-in_err-admit : goal.returns-in_err-admit
returns-in_err-admit c =
    let done = elements c.loop-draft.names.items c.loop-draft.codes.items in
    let all = elements c.admit.new.names.items c.admit.new.codes.items in
    exit_answers (right_elements [] c.args.drafts.items) c.from_residual.result c.in_err-admit.field-0.0 c.from_residual.ensures.1
    (admit_stops (Unit {0}) done c.in-Some.draft c.next.new.self.rest.items all (right_elements [] c.args.drafts.items) c.in_err-admit.field-0.0 (subst (λ (e : ElementValue). Admits {T = Unit {0}} done e all (Err c.in_err-admit.field-0.0)) c.draft.view_is c.in_err-admit.ensures.admits) (ap (right_elements done) (sym c.in-Some.ensures.steps.0) ∙ c.loop-draft.invariant.left))

pub returns : goal.returns
returns c =
    let done = elements c.loop-draft.names.items c.loop-draft.codes.items in
    let none = c.in-None.ensures.steps.0 in
    let rest : length c.loop-draft.draft-iterator.rest.items ≡ c.loop-draft.draft-iterator.rest.len = search rules in
    let nil : c.loop-draft.draft-iterator.rest.items ≡ [] = nil_from_length c.loop-draft.draft-iterator.rest.items (omega (arith, none, rest)) in
    sym c.loop-draft.invariant.left ∙ ap (right_elements done) nil ∙ ap verdict_of (sym c.new.ensures)
