use Rattle.std.proofs.Common.{sym, refl, arith, ◌∙◌}
use Rattle.std.proofs.Math.Nat.{div-one}
use Rattle.std.proofs.lemmas.List.{length-set}
use Rattle.feast_base.proofs.Digits.{hex_none}
use Rattle.text_lines.proofs.Hex.{hex_before, left_before}
use Rattle.text_lines.proofs.hexadecimal.seed_digits.Goals as goal

pub loop-i-init : goal.loop-i-init
loop-i-init c = record { done = sym (hex_none c.args.n); left = sym (div-one c.args.n); size = refl }

pub loop-i-preserved : goal.loop-i-preserved
loop-i-preserved c =
    let h = c.loop-i.invariant in
    record {
      done = hex_before 16 c.loop-i.i c.args.n c.loop-i.left c.digit.result c.loop-i.digits (omega arith) (omega arith) h.size h.done h.left c.digit.ensures;
      left = left_before 16 c.loop-i.i c.args.n c.loop-i.left (omega arith) (omega arith) h.left;
      size = length-set c.loop-i.digits _ _ ∙ h.size;
    }
