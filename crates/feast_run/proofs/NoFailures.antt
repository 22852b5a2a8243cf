-- Over a shelf and a sink in memory that have no reason to fail, no count rises.
use Rattle.std.proofs.Common.{ℕ, ◌≡◌, ◌≢◌, ◌≤◌, List, [], ◌∷◌, ◌++◌, length, Option, Some, None, inl, inr, ap, ◌∙◌, sym, arith, Ok, Err}
use Rattle.feast_base.specs.Held.{LoadMayFail, PutMayFail, ShelfHeld, SinkHeld, room_left}
use Rattle.feast_base.specs.Outside.{ShelfState, file_of}
use Rattle.feast_run.proofs.Missing.{noted_of}
use Rattle.feast_run.specs.Changes.{Change}
use Rattle.chain_run.specs.Legs.{Leg}
use Rattle.feast_run.specs.Chains.{AreFirstLegs, first_text}
use Rattle.feast_run.specs.Ending.{ComesTo, StopsRun, status_of, status_of_input}
use Rattle.feast_run.specs.Stages.{ReadyChainValue}
use Rattle.call_form.specs.Forms.{FormValue}
use Rattle.feast_run.specs.Halting.{FormOutcome, misses, refuses}
use Rattle.feast_run.specs.Promises.{BothHeld, EndsInMemory, NothingFails, NothingMayFail, shelf_change, sink_change}
use Rattle.feast_run.specs.declared.status.Status.{Status}
use Rattle.feast_run.specs.declared.status.Status.TheVariants as how
use Rattle.feast_run.specs.declared.halt.Input.{Input}
use Rattle.feast_run.specs.declared.halt.Input.TheVariants as input

-- a load that may fail where none is listed and the file is there
load_not : (shelf : ShelfHeld) (word : List ℕ) → shelf.fail ≡ [] → file_of word shelf.files ≢ None → LoadMayFail shelf word → ⊥
load_not shelf word free there h = elim h [ inl listed ↦ absurd (omega (arith, listed, ap length free)) | inr missing ↦ there missing ]

put_not : (sink : SinkHeld) (size : ℕ) → sink.stops ≡ [] → size ≤ room_left sink → PutMayFail sink size → ⊥
put_not sink size free room h = elim h [ inl listed ↦ absurd (omega (arith, listed, ap length free)) | inr long ↦ absurd (omega (arith, long, room)) ]

-- where each file word is there, a call notes no name
kept_by : (form : Option FormValue) (old new : BothHeld) (status : Status) → NothingMayFail form old new → EndsInMemory form old new status → new.shelf.failed ≡ old.shelf.failed
kept_by form old new status may_not ends =
    elim (noted_of form (shelf_change old new) (sink_change old new) status ends) [
      | inl same ↦ same
      | inr n ↦ absurd (load_not old.shelf n.word may_not.unlisted (may_not.there n.f n.word n.form_is n.is_word) n.cause)
    ]

-- no outcome has the status SinkFault
not_fault : (i : Input) → status_of_input i ≡ how.SinkFault → ⊥
not_fault input.File e = cc
not_fault input.Elements e = cc
not_fault input.World e = cc
not_fault input.Journal e = cc
not_fault input.Codes e = cc

no_fault : (o : FormOutcome) (status : Status) → status ≡ status_of o → status ≡ how.SinkFault → ⊥
no_fault (Ok t) status s e = let x : how.SinkFault ≡ how.Done = sym e ∙ s in cc
no_fault (Err (refuses r)) status s e = not_fault r.input (sym s ∙ e)
no_fault (Err (misses w)) status s e = let x : how.SinkFault ≡ how.Unreadable = sym e ∙ s in cc

-- no call comes to say it
comes_no_fault : (form : Option FormValue) (shelf : Change ShelfState) (status : Status) (text : List ℕ) → ComesTo form shelf status text → status ≡ how.SinkFault → ⊥
comes_no_fault None shelf status text h e = let x : how.SinkFault ≡ how.Usage = sym e ∙ h.status_is in cc
comes_no_fault (Some f) shelf status text h e = no_fault h.outcome status h.status_is e

-- a run of a chain that stops, and whose legs have room, has no put that fails
stopped_whole : (old new : BothHeld) (c : ReadyChainValue) (status : Status) → old.sink.stops ≡ [] → ((legs : List Leg) → AreFirstLegs c legs → length (first_text c legs) ≤ room_left old.sink) → StopsRun c (sink_change old new) status →
    (new.sink.faults ≡ old.sink.faults) × (status ≢ how.SinkFault)
stopped_whole old new c how.Done free room h = absurd h
stopped_whole old new c how.Usage free room h = absurd h
stopped_whole old new c how.Unreadable free room h = absurd h
stopped_whole old new c how.ElementRefused free room h = absurd h
stopped_whole old new c how.WorldRefused free room h = absurd h
stopped_whole old new c how.JournalRefused free room h = absurd h
stopped_whole old new c how.CodeRefused free room h = absurd h
stopped_whole old new c how.SinkFault free room h =
    let text = first_text c (h.legs ++ h.leg ∷ []) in
    absurd (put_not old.sink (length text) free (room (h.legs ++ h.leg ∷ []) h.are) (h.cut.cause (length text) (omega arith)))
stopped_whole old new c how.NoMemory free room h = (h.same, λ e. cc e)

-- a call whose text has room has no put that fails
whole_by : (form : Option FormValue) (old new : BothHeld) (status : Status) → NothingMayFail form old new → EndsInMemory form old new status → (new.sink.faults ≡ old.sink.faults) × (status ≢ how.SinkFault)
whole_by form old new status may_not ends =
    elim ends [
      | inl whole ↦ (whole.put.same, comes_no_fault form (shelf_change old new) status whole.text whole.comes)
      | inr rest ↦ elim rest [
        | inl b ↦ absurd (put_not old.sink (length b.text) may_not.unstopped (may_not.room b.right b.text b.comes) (b.cut.cause (length b.text) (omega arith)))
        | inr last ↦ elim last [
          | inl w ↦ (w.same, λ e. let x : how.NoMemory ≡ how.SinkFault = sym w.status_is ∙ e in cc)
          | inr s ↦ stopped_whole old new s.chain status may_not.unstopped (λ legs are. may_not.legs s.f s.chain legs s.form_is s.runs are) s.stops
        ]
      ]
    ]

pub nothing_fails : (form : Option FormValue) (old new : BothHeld) (status : Status) → EndsInMemory form old new status → NothingFails form old new status
nothing_fails form old new status ends = λ may_not.
    let whole = whole_by form old new status may_not ends in
    record { loads = kept_by form old new status may_not ends; puts = whole.0; status_is_not = whole.1 }
