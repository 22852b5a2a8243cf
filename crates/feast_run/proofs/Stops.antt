-- A call that stopped in a leg of a chain.
use Rattle.std.proofs.Common.{ℕ, ◌≡◌, ◌<◌, ◌++◌, List, [], ◌∷◌, length, Option, ◌⊎◌, inl, inr, refl, sym, ◌∙◌, arith}
use Rattle.call_form.specs.Forms.{FormValue}
use Rattle.feast_base.specs.Outside.{ShelfState, SinkState}
use Rattle.feast_run.specs.Changes.{Change}
use Rattle.feast_run.specs.Ending.{Stopped, StopsRun}
use Rattle.feast_run.specs.Stages.{ReadyChainValue}
use Rattle.feast_run.specs.declared.status.Status.{Status}
use Rattle.feast_run.specs.declared.status.Status.TheVariants as how

-- its status
status_by : (c : ReadyChainValue) (sink : Change SinkState) (status : Status) → StopsRun c sink status → (status ≡ how.SinkFault) ⊎ (status ≡ how.NoMemory)
status_by c sink how.Done h = absurd h
status_by c sink how.Usage h = absurd h
status_by c sink how.Unreadable h = absurd h
status_by c sink how.ElementRefused h = absurd h
status_by c sink how.WorldRefused h = absurd h
status_by c sink how.JournalRefused h = absurd h
status_by c sink how.CodeRefused h = absurd h
status_by c sink how.SinkFault h = inl refl
status_by c sink how.NoMemory h = inr refl

pub stopped_by : {form : Option FormValue} {shelf : Change ShelfState} {sink : Change SinkState} {status : Status} → Stopped form shelf sink status → (status ≡ how.SinkFault) ⊎ (status ≡ how.NoMemory)
stopped_by {sink = sink} {status = status} s = status_by s.chain sink status s.stops

-- it is another one
pub not_stopped : {form : Option FormValue} {shelf : Change ShelfState} {sink : Change SinkState} {status other : Status} → Stopped form shelf sink status → (how.SinkFault ≡ other → ⊥) → (how.NoMemory ≡ other → ⊥) → status ≡ other → ⊥
not_stopped s fault memory is = elim (stopped_by s) [ inl e ↦ fault (sym e ∙ is) | inr e ↦ memory (sym e ∙ is) ]

-- if the sink did not fail, memory ran out
kept_by : (c : ReadyChainValue) (sink : Change SinkState) (status : Status) → StopsRun c sink status → sink.new.faults ≡ sink.old.faults → status ≡ how.NoMemory
kept_by c sink how.Done h same = absurd h
kept_by c sink how.Usage h same = absurd h
kept_by c sink how.Unreadable h same = absurd h
kept_by c sink how.ElementRefused h same = absurd h
kept_by c sink how.WorldRefused h same = absurd h
kept_by c sink how.JournalRefused h same = absurd h
kept_by c sink how.CodeRefused h same = absurd h
kept_by c sink how.SinkFault h same = absurd (omega (arith, h.cut.more, same))
kept_by c sink how.NoMemory h same = refl

pub stopped_kept : {form : Option FormValue} {shelf : Change ShelfState} {sink : Change SinkState} {status : Status} → Stopped form shelf sink status → sink.new.faults ≡ sink.old.faults → status ≡ how.NoMemory
stopped_kept {sink = sink} {status = status} s same = kept_by s.chain sink status s.stops same
