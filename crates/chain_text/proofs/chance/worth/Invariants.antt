use Rattle.std.proofs.Common.{◌≡◌, ◌-◌, ◌+◌, ◌*◌, ◌^◌, ◌<◌, drop, fold, ℕ}
use Rattle.text_lines.specs.Fields.{worth}
use Rattle.chain_text.proofs.chance.worth.Given as goal

abbrev pub invariant-loop-digit : goal.invariant-loop-digit
invariant-loop-digit l = record {
  rest : fold (λ (v d : ℕ). v * 10 + (d - 48)) l.value (drop l.digit-index l.digits) ≡ worth l.digits;
  small : l.value < 10 ^ l.digit-index;
}
