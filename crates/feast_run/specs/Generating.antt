-- The run of a generated world.
use Rattle.std.specs.Prelude.{ℕ, List, Ok, Err}
use Rattle.element_set.specs.Sets.{SetValue, AcceptsFiles}
use Rattle.event_journal.specs.Logs.{abandoned_in, records_in}
use Rattle.feast_base.specs.Stages.{Stage, and_then, gives_known}
use Rattle.feast_run.specs.Halting.{HaltValue, misses, refuses}
use Rattle.feast_run.specs.Elements.{ElementsValue, source_elements}
use Rattle.feast_run.specs.Stages.{ReadyValue, ready_with}
use Rattle.feast_run.specs.Stepped.{IsSteppedRun, machine_of, stepped_logs}
use Rattle.feast_run.specs.GeneratedElements.{source_files}
use Rattle.generated_world.specs.Generated.{world_of_number}
use Rattle.generated_world.specs.Summary.{summary}

-- the set of the elements of generated worlds: no file is loaded for it, and nothing refuses it
abbrev pub own_set : Stage SetValue HaltValue
own_set (Ok set) = AcceptsFiles source_files set
own_set (Err (refuses r)) = ⊥
own_set (Err (misses w)) = ⊥

-- the world of a number with some elements, or with those of a set
abbrev pub generated_with : ℕ → ElementsValue → ReadyValue
generated_with number e = ready_with (world_of_number number) e

abbrev pub generated_ready : ℕ → SetValue → ReadyValue
generated_ready number set = generated_with number (source_elements set)

-- the summary of what the stepped machine of a world leaves
abbrev pub stepped_summary : ℕ → ReadyValue → List ℕ
stepped_summary number r = summary number (machine_of r).grid (records_in (stepped_logs r)) (abandoned_in (stepped_logs r))

-- the summary of the world of a number with some elements
abbrev pub summary_with : ℕ → ElementsValue → List ℕ
summary_with number e = stepped_summary number (generated_with number e)

-- that summary; what the machine left is known to be a run's
abbrev pub summarizes : ℕ → SetValue → Stage (List ℕ) HaltValue
summarizes number set = gives_known (IsSteppedRun (generated_ready number set)) (stepped_summary number (generated_ready number set))

abbrev pub generates : ℕ → Stage (List ℕ) HaltValue
generates number = and_then own_set (summarizes number)
