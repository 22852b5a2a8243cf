-- Steps that are counted.
use Rattle.std.specs.Prelude.{ℕ}

-- steps that were counted: their number, and the ledger that took a note of each
pub record Counted (L : Type 0) : Type 0 where
  pub count : ℕ
  pub ledger : L
