use Rattle.std.proofs.Common.{◌≡◌, ◌-◌, take, drop, length, sym, subst, List, ℕ, Some, None, if◌then◌else◌, arith}
use Rattle.std.specs.List.{list_all}
use Rattle.std.proofs.lemmas.List.{take_all, length-drop, take-append-drop}
use Rattle.text_lines.specs.Fields.{hex_worth, is_nibble}
use Rattle.text_lines.proofs.Digits.{state_parts}
use Rattle.text_lines.proofs.numbers.state.Goals as goal

pub returns-clause-value : goal.returns-clause-value
returns-clause-value c =
    let f = c.args.field.now in
    let long : length f ≡ 18 = omega (arith, c.if-field-ne18.false) in
    let size : length (drop 2 f) ≡ 16 = omega (arith, length-drop 2 f, long) in
    let rest : take (length f - 2) (drop 2 f) ≡ drop 2 f = take_all (length f - 2) (drop 2 f) (omega (arith, size, long)) in
    let low = subst (λ (ds : List ℕ). Some c.in_ok-low.low ≡ (if list_all is_nibble ds then Some (hex_worth ds) else None)) rest c.in_ok-low.ensures.value in
    state_parts f (take 2 f) (drop 2 f) c.in_ok-high.high c.in_ok-low.low (sym (take-append-drop 2 f)) long size c.in_ok-high.ensures.value low
