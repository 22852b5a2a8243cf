-- Steps that are counted, one after another.
use Rattle.std.specs.Prelude.{◌≡◌, ℕ, zero, suc}
use Rattle.feast_base.specs.Counting.{next_count}
use Rattle.event_machine.specs.Counting.{Counted}

module _ {L : Type 0} (noted : L → L → Type 0) where
  -- one step was counted, and noted once
  pub record IsTick (before after : Counted L) : Type 0 where
    pub count : after.count ≡ next_count before.count
    pub noted_once : noted before.ledger after.ledger

  -- so many steps were counted, and each of them noted once
  abbrev pub Ticks : ℕ → Counted L → Counted L → Type 0
  Ticks zero before after = before ≡ after
  Ticks (suc k) before after = (mid : Counted L) × Ticks k before mid × IsTick mid after
