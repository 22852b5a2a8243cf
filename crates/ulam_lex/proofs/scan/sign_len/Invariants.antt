use Rattle.std.proofs.Common.{◌≡◌, ℕ, ◌<◌, ◌≤◌, length, take, false}
use Rattle.ulam_lex.specs.Bytes.{is_sign}
use Rattle.ulam_lex.proofs.scan.sign_len.Given as goal

abbrev pub invariant-loop-n : goal.invariant-loop-n
invariant-loop-n l = record {
  within : l.n ≤ length l.bytes;
  longest : (m : ℕ) → l.n < m → m ≤ 3 → m ≤ length l.bytes → is_sign (take m l.bytes) ≡ false;
}

abbrev pub decreases-loop-n : goal.decreases-loop-n
decreases-loop-n l = l.n
