-- The legs of a chain that are run and put one after another.
use Rattle.std.specs.Prelude.{ℕ, ◌≡◌, Bool, true, false, List, Result, Ok, Err, length}
use Rattle.cell_grid.specs.Grid.{GridValue}
use Rattle.chain_run.specs.Chains.{first_grid, making}
use Rattle.chain_run.specs.Legs.{Leg}
use Rattle.chain_run.specs.Runs.{IsRunLeg, IsStepLeg, stepped_legs_from}
use Rattle.feast_base.specs.Loading.{IsPut}
use Rattle.feast_base.specs.Outside.{SinkState}
use Rattle.feast_run.specs.Changes.{Change}
use Rattle.feast_run.specs.Ending.{StopsBehind, StopsWithin}
use Rattle.feast_run.specs.Outputs.{LegsLeave}
use Rattle.feast_run.specs.Stages.{ReadyChainValue}
use Rattle.report_text.specs.declared.write_fault.WriteFault.{WriteFault}
use Rattle.report_text.specs.declared.write_fault.WriteFault.TheVariants.{Sink, NoMemory}
use Rattle.serial_order.specs.declared.outcome.Outcome.{Outcome}

-- a leg was run or stepped from a grid
abbrev pub IsLegMade : Bool → ReadyChainValue → ℕ → GridValue → Outcome → Type 0
IsLegMade true c k g o = IsStepLeg c.chain c.meaning k g o
IsLegMade false c k g o = IsRunLeg (making c.chain c.meaning) k g o

-- if legs are stepped, they are the first stepped ones
abbrev pub AreMade : Bool → ReadyChainValue → List Leg → Type 0
AreMade true c legs = legs ≡ stepped_legs_from c.chain c.meaning c.chain.first (first_grid c.chain) (length legs)
AreMade false c legs = Unit {0}

-- what putting the legs of a chain comes to
abbrev pub PutsLegs : {T : Type 0} → Bool → ReadyChainValue → Change SinkState → Result T WriteFault → Type 0
PutsLegs stepped c sink (Ok x) = (text : List ℕ) × LegsLeave stepped c text × IsPut sink.old sink.new text
PutsLegs stepped c sink (Err Sink) = StopsWithin c sink
PutsLegs stepped c sink (Err NoMemory) = StopsBehind c sink
