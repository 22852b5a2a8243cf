-- What is written.
use Rattle.std.specs.Prelude.{ℕ, ◌≡◌, Bool, true, false, List}
use Rattle.chain_run.specs.Chains.{AreLegsOf}
use Rattle.event_journal.specs.Logs.{abandoned_in, records_in}
use Rattle.feast_run.specs.Chains.{ReportsLegs, are_stepped, stepped_text}
use Rattle.feast_run.specs.Stages.{ReadyChainValue}
use Rattle.feast_run.specs.declared.output.Job.{Job}
use Rattle.feast_run.specs.declared.output.Job.TheVariants.{Legs, Write}
use Rattle.feast_run.specs.declared.output.LegsToRun.{LegsToRun}
use Rattle.feast_run.specs.declared.output.Output.{Output}
use Rattle.feast_run.specs.declared.output.Output.TheVariants.{Text, Grid, Report}
use Rattle.report_text.specs.Report.{AreNamed, grid_text, report}
use Rattle.feast_run.specs.Values.{IsReadyChain, elements_value, ready_chain_value}

-- the bytes of an output
abbrev pub output_text : Output → List ℕ
output_text (Text text) = text.items
output_text (Grid shown) = grid_text (elements_value shown.elements).names shown.grid
output_text (Report finished) = report (elements_value finished.ready.elements).names finished.grid (records_in finished.journal) (abandoned_in finished.journal)

-- it can be written: each atom is empty or its type has a name
abbrev pub IsWritable : Output → Type 0
IsWritable (Text text) = Unit {0}
IsWritable (Grid shown) = AreNamed (elements_value shown.elements).names shown.grid.atoms
IsWritable (Report finished) = AreNamed (elements_value finished.ready.elements).names finished.grid.atoms

-- a text is what the legs of a chain leave, run or stepped
abbrev pub LegsLeave : Bool → ReadyChainValue → List ℕ → Type 0
LegsLeave true c text = AreLegsOf c.chain c.meaning (are_stepped c) × (text ≡ stepped_text c)
LegsLeave false c text = ReportsLegs c text

-- a text is one that a job may write
abbrev pub MayWrite : Job → List ℕ → Type 0
MayWrite (Write output) text = text ≡ output_text output
MayWrite (Legs legs) text = LegsLeave legs.stepped (ready_chain_value legs.ready) text

-- a job can be done
abbrev pub CanBeDone : Job → Type 0
CanBeDone (Write output) = IsWritable output
CanBeDone (Legs legs) = IsReadyChain legs.ready
