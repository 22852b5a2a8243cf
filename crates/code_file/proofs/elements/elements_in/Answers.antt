use Rattle.std.proofs.Common.{◌≡◌, ◌+◌, ◌-◌, ◌∷◌, [], List, ℕ, length, ap, sym, ◌∙◌, subst, arith, rules, length-append, Ok}
use Rattle.code_file.specs.Form.{ElementValue}
use Rattle.code_file.specs.Reading.{Fails, element_at, elements_from}
use Rattle.code_file.proofs.Loops.{stops_at, value_more, value_stops, values_done}
use Rattle.code_file.proofs.elements.elements_in.Goals as goal

pub loop-done-init : goal.loop-done-init
loop-done-init c =
    let k : c.args.count - 0 ≡ c.args.count = omega arith in
    let none : c.new-elements.result.items ≡ [] = search rules in
    record { many = ap length none; read = (λ i. elements_from c.args.count (k i) (none i) c.args.bytes.now) }

pub returns-in_err-element : goal.returns-in_err-element
returns-in_err-element c =
    let most = c.args.count in
    let item = λ (done : List ElementValue) (left : ℕ). element_at most (length done + 1) in
    let done = c.loop-done.elements.items in
    let h = subst (λ k. Fails c.in_err-element.field-0.0 (element_at most (k + 1) c.loop-done.rest.now)) (sym c.loop-done.invariant.many) c.in_err-element.ensures in
    stops_at (λ x. (x.0.items, x.1.now)) c.from_residual.result c.in_err-element.field-0.0 (elements_from most most [] c.args.bytes.now) c.from_residual.ensures.1
    (value_stops item c.in_err-element.field-0.0 most c.loop-done.done done c.loop-done.rest.now (elements_from most most [] c.args.bytes.now) c.loop-done-test.true h c.loop-done.invariant.read)

pub loop-done-preserved : goal.loop-done-preserved
loop-done-preserved c =
    let most = c.args.count in
    let item = λ (done : List ElementValue) (left : ℕ). element_at most (length done + 1) in
    let done = c.loop-done.elements.items in
    let h : element_at most (length done + 1) c.loop-done.rest.now ≡ Ok (c.in_ok-element.element, c.in_ok-element.after.now) = ap (λ k. element_at most (k + 1) c.loop-done.rest.now) c.loop-done.invariant.many ∙ c.in_ok-element.ensures in
    record {
      many = omega (arith, ap length c.in_ok-push.ensures.items, length-append done (c.in_ok-element.element ∷ []), c.loop-done.invariant.many);
      read = subst (λ es. elements_from most (most - (c.loop-done.done + 1)) es c.in_ok-element.after.now ≡ elements_from most most [] c.args.bytes.now) (sym c.in_ok-push.ensures.items)
          (value_more item most c.loop-done.done done c.loop-done.rest.now c.in_ok-element.element c.in_ok-element.after.now (elements_from most most [] c.args.bytes.now) c.loop-done-test.true h c.loop-done.invariant.read);
    }

pub returns : goal.returns
returns c = values_done (λ (done : List ElementValue) (left : ℕ). element_at c.args.count (length done + 1)) c.args.count c.loop-done.done c.loop-done.elements.items c.loop-done.rest.now (elements_from c.args.count c.args.count [] c.args.bytes.now) c.loop-done-test.false c.loop-done.invariant.read
