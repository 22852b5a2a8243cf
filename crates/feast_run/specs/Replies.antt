-- What the code answers to the words of a call, and what is written of it.
use Rattle.std.specs.Prelude.{◌≡◌, ◌⊎◌, List, MatchResult, Option, Result, Ok, Err, Some, ℕ}
use Rattle.element_set.specs.Sets.{Coded}
use Rattle.feast_base.specs.Loading.{IsCut, IsPut}
use Rattle.feast_base.specs.Outside.{File, ShelfState, SinkState}
use Rattle.feast_base.specs.Stages.{Stage}
use Rattle.feast_run.specs.Answer.{RunsChain, form_answer}
use Rattle.feast_run.specs.Changes.{Change}
use Rattle.feast_run.specs.Ending.{ComesTo, KeepsOrMisses, StopsRun}
use Rattle.call_form.specs.Forms.{FormValue}
use Rattle.feast_run.specs.Halting.{HaltValue, misses, refuses}
use Rattle.feast_run.specs.Outputs.{MayWrite, output_text}
use Rattle.feast_run.specs.Stages.{SettingValue, a_chain}
use Rattle.feast_run.specs.Tellings.{Keeps, Tells, refused_value}
use Rattle.feast_run.specs.Values.{ready_chain_value}
use Rattle.feast_run.specs.declared.halt.Halt.{Halt}
use Rattle.feast_run.specs.declared.halt.Halt.TheVariants.{Refused, Missing, NoMemory}
use Rattle.feast_run.specs.declared.output.Job.{Job}
use Rattle.feast_run.specs.declared.output.Job.TheVariants.{Legs, Write}
use Rattle.feast_run.specs.declared.output.Output.{Output}
use Rattle.feast_run.specs.declared.reply.Reply.{Reply}
use Rattle.report_text.specs.declared.write_fault.WriteFault.{WriteFault}
use Rattle.report_text.specs.declared.write_fault.WriteFault.TheVariants.{Sink, NoMemory as no_memory}
use Rattle.feast_run.specs.declared.status.Status.{Status}
use Rattle.feast_run.specs.declared.status.Status.TheVariants as how

-- an answer is an outcome of the stages of a form, over the files of a shelf, or memory ran out
abbrev pub TellsForm : ShelfState → FormValue → Result Output Halt → Type 0
TellsForm shelf form result = Tells output_text (form_answer shelf.files form) result

-- each text that a job may write is an outcome of the stage; or the answer is another outcome, or memory ran out
abbrev pub TellsJob : Stage (List ℕ) HaltValue → Result Job Halt → Type 0
TellsJob S (Ok job) = (text : List ℕ) → MayWrite job text → S (Ok text)
TellsJob S (Err (Refused r)) = S (Err (refuses (refused_value r))) × Coded r.refusal.code
TellsJob S (Err (Missing word)) = S (Err (misses word.now))
TellsJob S (Err NoMemory) = Unit {0}

-- an answer is the same as a job: its output is to be written, or the same cause
abbrev pub IsWrittenAs : Result Output Halt → Result Job Halt → Type 0
IsWrittenAs (Ok output) (Ok (Write other)) = other ≡ output
IsWrittenAs (Ok output) (Ok (Legs legs)) = ⊥
IsWrittenAs (Ok output) (Err halt) = ⊥
IsWrittenAs (Err halt) (Ok job) = ⊥
IsWrittenAs (Err halt) (Err other) = other ≡ halt

-- if legs are to be run, they are those of the setting
abbrev pub RunsSetting : SettingValue → Job → Type 0
RunsSetting s (Write output) = Unit {0}
RunsSetting s (Legs legs) = s ≡ a_chain (ready_chain_value legs.ready)

-- if legs are to be run, they are those of the chain that the form runs or steps
abbrev pub RunsForm : Option (List File) → FormValue → Job → Type 0
RunsForm files form (Write output) = Unit {0}
RunsForm files form (Legs legs) = RunsChain files form (ready_chain_value legs.ready)

-- a job writes this text
abbrev pub Writes : List ℕ → Job → Type 0
Writes text (Write output) = output_text output ≡ text
Writes text (Legs legs) = ⊥

-- a reply has this status, and this text is written with it
abbrev pub Says : Status → List ℕ → Reply → Type 0
Says status text reply = (reply.status ≡ status) × Writes text reply.job

-- legs are to be run: no name was noted, and they are of a chain that the form runs or steps
pub record IsToRun (form : Option FormValue) (shelf : Change ShelfState) (job : Job) : Type 0 where
  pub f : FormValue
  pub form_is : form ≡ Some f
  pub leaves : Keeps shelf.old shelf.new
  pub runs : RunsForm shelf.old.files f job

-- if legs are to be run
abbrev pub IfLegs : Job → Type 0 → Type 0
IfLegs (Write output) P = Unit {0}
IfLegs (Legs legs) P = P

-- each text that the reply's job may write is what a call comes to say
pub record ComesAsReply (form : Option FormValue) (shelf : Change ShelfState) (reply : Reply) : Type 0 where
  pub comes : (text : List ℕ) → MayWrite reply.job text → ComesTo form shelf reply.status text
  pub legs : IfLegs reply.job (IsToRun form shelf reply.job)

-- a reply is what a call comes to say, or memory ran out
abbrev pub Replies : {E : Type 0} → Option FormValue → Change ShelfState → Result Reply E → Type 0
Replies form shelf result =
    MatchResult result (λ reply. ComesAsReply form shelf reply) (λ e. KeepsOrMisses form shelf)

-- a text was written with a status: the answer is this status if all of it was put, otherwise SinkFault or NoMemory
abbrev pub PutWith : Status → List ℕ → Change SinkState → Status → Type 0
PutWith right text sink status =
    ((status ≡ right) × IsPut sink.old sink.new text) ⊎
    (((status ≡ how.SinkFault) × IsCut sink.old sink.new text) ⊎
    ((status ≡ how.NoMemory) × (sink.new.written ≡ sink.old.written) × (sink.new.faults ≡ sink.old.faults)))

-- the status of a call that had this one right, by what putting came to
abbrev pub status_after : {T : Type 0} → Status → Result T WriteFault → Status
status_after right (Ok x) = right
status_after right (Err Sink) = how.SinkFault
status_after right (Err no_memory) = how.NoMemory

-- a job was done with a status: a text that it may write was written, or a run of legs stopped
abbrev pub PutJob : Status → Job → Change SinkState → Status → Type 0
PutJob right (Write output) sink status = PutWith right (output_text output) sink status
PutJob right (Legs legs) sink status =
    ((text : List ℕ) × MayWrite (Legs legs) text × (status ≡ right) × IsPut sink.old sink.new text) ⊎ StopsRun (ready_chain_value legs.ready) sink status
