-- Refusals whose line shows a place.
use Rattle.std.proofs.Common.{ℕ, ◌≡◌, ◌≤◌, ◌==◌, Bool, true, false, List, refl, arith, if◌then◌else◌}
use Rattle.std.proofs.Math.Nat.{le-min}
use Rattle.feast_base.specs.Refusals.{longer_line, placed_line, refusal_line, unreadable_line, usage_line}
use Rattle.feast_base.specs.declared.place.Refusal.{Refusal}
use Rattle.feast_run.specs.CodeFiles.{at_byte}
use Rattle.feast_run.specs.Naming.{IsPlacedLine}
use Rattle.feast_run.specs.Stages.{at_line, whole_file}

-- the first three codes are about no place; lines and columns are from 1
pub record HasPlace (r : Refusal) : Type 0 where
  pub code : 3 ≤ r.code
  pub line : 1 ≤ r.place.line
  pub column : 1 ≤ r.place.column

from_three : {A : Type 0} (n : ℕ) (a b c d : A) → 3 ≤ n → (if n == 0 then a else if n == 1 then b else if n == 2 then c else d) ≡ d
from_three {A = A} n a b c d h = by (n == 0) (n == 1) (n == 2) refl refl refl
  where
    by : (x y z : Bool) → (n == 0) ≡ x → (n == 1) ≡ y → (n == 2) ≡ z → (if x then a else if y then b else if z then c else d) ≡ d
    by true y z p q r = absurd (grind (arith, p, h))
    by false true z p q r = absurd (grind (arith, q, h))
    by false false true p q r = absurd (grind (arith, r, h))
    by false false false p q r = refl

shows_place : (word : List ℕ) (r : Refusal) → HasPlace r → refusal_line word r ≡ placed_line word r
unfolding refusal_line
shows_place word r h = from_three r.code usage_line (unreadable_line word) (longer_line word r.value) (placed_line word r) h.code

pub placed : (word : List ℕ) (r : Refusal) → HasPlace r → IsPlacedLine word (refusal_line word r)
placed word r h = record { refusal = r; row = h.line; column = h.column; shown = shows_place word r h }

-- a file that is too long
pub longer : (word : List ℕ) (limit : ℕ) → refusal_line word (whole_file 2 limit) ≡ longer_line word limit
unfolding refusal_line
longer word limit = refl

-- places in texts
pub line_placed : (code line value : ℕ) → 3 ≤ code → 1 ≤ line → HasPlace (at_line code line value)
line_placed code line value shown some = record { code = shown; line = le-min some (omega arith); column = omega arith }

pub byte_placed : (code column : ℕ) → 3 ≤ code → 1 ≤ column → HasPlace (at_byte code column)
byte_placed code column shown some = record { code = shown; line = omega arith; column = le-min some (omega arith) }

pub whole_placed : (code value : ℕ) → 3 ≤ code → HasPlace (whole_file code value)
whole_placed code value shown = record { code = shown; line = omega arith; column = omega arith }
