-- How a call ends.
use Rattle.std.specs.Prelude.{ℕ, ◌≡◌, ◌<◌, List, [], ◌∷◌, ◌++◌, length, Option, Some, None, ◌⊎◌, Ok, Err}
use Rattle.chain_run.specs.Legs.{Leg}
use Rattle.feast_base.specs.Loading.{IsCut, IsPut}
use Rattle.feast_base.specs.Outside.{Grows, ShelfState, SinkState}
use Rattle.feast_base.specs.Refusals.{refusal_line, usage_line, unreadable_line}
use Rattle.feast_run.specs.Answer.{RunsChain, form_answer}
use Rattle.feast_run.specs.Chains.{AreFirstLegs, first_text}
use Rattle.feast_run.specs.Changes.{Change}
use Rattle.feast_run.specs.Stages.{ReadyChainValue}
use Rattle.call_form.specs.Forms.{FormValue}
use Rattle.feast_base.specs.Stages.{Stage}
use Rattle.feast_run.specs.Halting.{FormOutcome, HaltValue, misses, refuses}
use Rattle.feast_run.specs.Tellings.{Keeps, Notes}
use Rattle.feast_run.specs.declared.status.Status.{Status}
use Rattle.feast_run.specs.declared.status.Status.TheVariants as how
use Rattle.feast_run.specs.declared.halt.Input.{Input}
use Rattle.feast_run.specs.declared.halt.Input.TheVariants as input

-- the status of a refusal, by the input that it is about
abbrev pub status_of_input : Input → Status
status_of_input input.File = how.Unreadable
status_of_input input.Elements = how.ElementRefused
status_of_input input.World = how.WorldRefused
status_of_input input.Journal = how.JournalRefused
status_of_input input.Codes = how.CodeRefused

-- the status of an outcome, and the text that is written with it
abbrev pub status_of : FormOutcome → Status
status_of (Ok text) = how.Done
status_of (Err (refuses r)) = status_of_input r.input
status_of (Err (misses word)) = how.Unreadable

abbrev pub text_of : FormOutcome → List ℕ
text_of (Ok text) = text
text_of (Err (refuses r)) = refusal_line r.word r.refusal
text_of (Err (misses word)) = unreadable_line word

-- what an outcome leaves on the shelf
abbrev pub Leaves : Change ShelfState → FormOutcome → Type 0
Leaves shelf (Ok text) = Keeps shelf.old shelf.new
Leaves shelf (Err (refuses r)) = Keeps shelf.old shelf.new
Leaves shelf (Err (misses word)) = Notes shelf.old shelf.new word

-- what the stages of a form come to say: the status and text of one of their outcomes
pub record Comes (S : Stage (List ℕ) HaltValue) (shelf : Change ShelfState) (status : Status) (text : List ℕ) : Type 0 where
  pub outcome : FormOutcome
  pub comes : S outcome
  pub leaves : Leaves shelf outcome
  pub status_is : status ≡ status_of outcome
  pub text_is : text ≡ text_of outcome

-- what words of no form come to say
pub record IsUsage (shelf : Change ShelfState) (status : Status) (text : List ℕ) : Type 0 where
  pub leaves : Keeps shelf.old shelf.new
  pub status_is : status ≡ how.Usage
  pub text_is : text ≡ usage_line

-- what a call comes to say
abbrev pub ComesTo : Option FormValue → Change ShelfState → Status → List ℕ → Type 0
ComesTo None shelf status text = IsUsage shelf status text
ComesTo (Some form) shelf status text = Comes (form_answer shelf.old.files form) shelf status text

-- the load of a word failed that the stages may miss
pub record Missed (S : Stage (List ℕ) HaltValue) (shelf : Change ShelfState) : Type 0 where
  pub word : List ℕ
  pub comes : S (Err (misses word))
  pub notes : Notes shelf.old shelf.new word

-- if memory ran out no name was noted, or one whose load failed
abbrev pub KeepsOrMisses : Option FormValue → Change ShelfState → Type 0
KeepsOrMisses None shelf = Keeps shelf.old shelf.new
KeepsOrMisses (Some form) shelf = Keeps shelf.old shelf.new ⊎ Missed (form_answer shelf.old.files form) shelf

-- a call that put its text whole
pub record Whole (form : Option FormValue) (shelf : Change ShelfState) (sink : Change SinkState) (status : Status) : Type 0 where
  pub text : List ℕ
  pub comes : ComesTo form shelf status text
  pub put : IsPut sink.old sink.new text

-- a call whose put failed: the sink has a first part of the text
pub record Broken (form : Option FormValue) (shelf : Change ShelfState) (sink : Change SinkState) (status : Status) : Type 0 where
  pub right : Status
  pub text : List ℕ
  pub comes : ComesTo form shelf right text
  pub cut : IsCut sink.old sink.new text
  pub status_is : status ≡ how.SinkFault

-- a call that ran out of memory: nothing was written
pub record OutOfMemory (form : Option FormValue) (shelf : Change ShelfState) (sink : Change SinkState) (status : Status) : Type 0 where
  pub leaves : KeepsOrMisses form shelf
  pub nothing : sink.new.written ≡ sink.old.written
  pub same : sink.new.faults ≡ sink.old.faults
  pub status_is : status ≡ how.NoMemory

-- a run of a chain whose memory ran out behind some legs, before the last: their reports were put whole
pub record StopsBehind (c : ReadyChainValue) (sink : Change SinkState) : Type 0 where
  pub legs : List Leg
  pub are : AreFirstLegs c legs
  pub fewer : length legs < c.chain.legs
  pub grows : Grows sink.old.written sink.new.written (first_text c legs)
  pub same : sink.new.faults ≡ sink.old.faults

-- a run of a chain whose put failed: the reports of some legs were put whole, and a first part of that of the next leg
pub record StopsWithin (c : ReadyChainValue) (sink : Change SinkState) : Type 0 where
  pub legs : List Leg
  pub leg : Leg
  pub are : AreFirstLegs c (legs ++ leg ∷ [])
  pub cut : IsCut sink.old sink.new (first_text c (legs ++ leg ∷ []))
  pub part : List ℕ
  pub behind : cut.front ≡ first_text c legs ++ part

-- a run of a chain that stops with this status
abbrev pub StopsRun : ReadyChainValue → Change SinkState → Status → Type 0
StopsRun c sink how.SinkFault = StopsWithin c sink
StopsRun c sink how.NoMemory = StopsBehind c sink
StopsRun c sink status = ⊥

-- a call that stopped in a leg of a chain
pub record Stopped (form : Option FormValue) (shelf : Change ShelfState) (sink : Change SinkState) (status : Status) : Type 0 where
  pub f : FormValue
  pub form_is : form ≡ Some f
  pub chain : ReadyChainValue
  pub runs : RunsChain shelf.old.files f chain
  pub leaves : Keeps shelf.old shelf.new
  pub stops : StopsRun chain sink status

-- how a call ends
abbrev pub Ends : Option FormValue → Change ShelfState → Change SinkState → Status → Type 0
Ends form shelf sink status = Whole form shelf sink status ⊎ (Broken form shelf sink status ⊎ (OutOfMemory form shelf sink status ⊎ Stopped form shelf sink status))
