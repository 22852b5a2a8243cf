-- The orders of entries chain.
use Rattle.std.proofs.Common.{arith, inl, inr}
use Rattle.cell_grid.specs.Records.{Precedes}
use Rattle.cell_grid.specs.declared.record.Record.{Record}
use Rattle.event_journal.specs.Logs.{ComesBefore}
use Rattle.event_journal.specs.declared.abandoned.Abandoned.{Abandoned}

pub precedes_chain : (r s t : Record) → Precedes r s → Precedes s t → Precedes r t
precedes_chain r s t (inl a) (inl b) = inl (omega (arith, a, b))
precedes_chain r s t (inl a) (inr b) = inl (omega (arith, a, b.0))
precedes_chain r s t (inr a) (inl b) = inl (omega (arith, a.0, b))
precedes_chain r s t (inr a) (inr b) = inr (omega (arith, a.0, b.0), omega (arith, a.1, b.1))

pub before_chain : (g h k : Abandoned) → ComesBefore g h → ComesBefore h k → ComesBefore g k
before_chain g h k (inl a) (inl b) = inl (omega (arith, a, b))
before_chain g h k (inl a) (inr b) = inl (omega (arith, a, b.0))
before_chain g h k (inr a) (inl b) = inl (omega (arith, a.0, b))
before_chain g h k (inr a) (inr b) = inr (omega (arith, a.0, b.0), omega (arith, a.1, b.1))
