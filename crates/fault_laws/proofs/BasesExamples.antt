-- The examples have their faults.
use Rattle.std.proofs.Common.{refl}
use Rattle.ulam_tree.specs.Ways.{leads}
use Rattle.ulam_heirs.specs.Lines.{upward}
use Rattle.fault_laws.specs.BasesExample.{HasBaseExamples}

pub base_examples : HasBaseExamples
unfolding leads upward
base_examples = record { no_quark = refl; own_base = refl; no_match = refl }
