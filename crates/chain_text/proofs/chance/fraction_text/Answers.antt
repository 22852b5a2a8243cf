use Rattle.std.proofs.Common.{◌≡◌, ◌-◌, ◌+◌, ◌%◌, ◌++◌, ◌∷◌, ap, drop, refl, sym, arith, ◌∙◌}
use Rattle.std.proofs.Math.Nat.{div-one}
use Rattle.std.proofs.lemmas.List.{length-set, take-append-drop, take-set-le}
use Rattle.chain_text.specs.Printed.{places}
use Rattle.chain_text.proofs.Places.{places_before, places_none, tens_before}
use Rattle.chain_text.proofs.chance.fraction_text.Goals as goal

pub loop-i-init : goal.loop-i-init
loop-i-init c = record { low = omega arith; front = refl; done = sym (places_none c.args.billionths); left = sym (div-one c.args.billionths); size = refl }

pub loop-i-preserved : goal.loop-i-preserved
loop-i-preserved c =
    let h = c.loop-i.invariant in
    let i = c.loop-i.i in
    let digit = 48 + c.loop-i.left % 10 in
    record {
      low = omega (arith, c.loop-i-test.true);
      front = take-set-le 2 c.loop-i.text (i - 1) digit (omega (arith, c.loop-i-test.true)) ∙ h.front;
      done = places_before 11 i c.args.billionths c.loop-i.left digit c.loop-i.text (omega (arith, c.loop-i-test.true)) c.loop-i.auto.i h.size h.done h.left refl;
      left = tens_before 11 i c.args.billionths c.loop-i.left (omega (arith, c.loop-i-test.true)) c.loop-i.auto.i h.left;
      size = length-set c.loop-i.text _ _ ∙ h.size;
    }

pub returns : goal.returns
returns c =
    let h = c.loop-i.invariant in
    let last : c.loop-i.i ≡ 2 = omega (arith, c.loop-i-test.false, h.low) in
    let digits : drop 2 c.loop-i.text ≡ places 9 c.args.billionths = ap (λ i. drop i c.loop-i.text) (sym last) ∙ h.done ∙ ap (λ i. places (11 - i) c.args.billionths) last in
    sym (take-append-drop 2 c.loop-i.text) ∙ ap (λ z. z ++ drop 2 c.loop-i.text) h.front ∙ ap (λ z. 48 ∷ 46 ∷ z) digits
