use Rattle.std.proofs.Common.{ap, ◌∙◌}
use Rattle.edge_lock.specs.SharedRule.{slots_of}
use Rattle.edge_lock.proofs.PassSeats.{lends}
use Rattle.edge_lock.proofs.edge.Closed.word.Goals as goal

pub slot_mut-registers-requires : goal.slot_mut-registers-requires
slot_mut-registers-requires c = let keeps = c.self.invariant.1 in (c.self.invariant.0, lends _ _ (keeps.slots ∙ ap slots_of keeps.view))
