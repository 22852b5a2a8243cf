-- From what a call comes to say to how it ends.
use Rattle.std.proofs.Common.{ℕ, List, Option, Some, None, refl, sym, subst, inl, inr, ◌⊎◌, Ok, Err}
use Rattle.feast_base.specs.Outside.{ShelfState, SinkState}
use Rattle.feast_run.specs.Answer.{form_answer}
use Rattle.feast_run.specs.Changes.{Change}
use Rattle.feast_run.specs.Ending.{ComesTo, Ends, Leaves, Missed, KeepsOrMisses}
use Rattle.call_form.specs.Forms.{FormValue}
use Rattle.feast_run.specs.Halting.{FormOutcome, misses, refuses}
use Rattle.feast_run.specs.Outputs.{MayWrite, output_text}
use Rattle.feast_run.specs.Replies.{ComesAsReply, IfLegs, IsToRun, PutJob, PutWith}
use Rattle.feast_run.specs.Values.{ready_chain_value}
use Rattle.feast_run.specs.declared.output.Job.{Job}
use Rattle.feast_run.specs.declared.output.Job.TheVariants.{Legs, Write}
use Rattle.feast_run.specs.Tellings.{Keeps}
use Rattle.feast_run.specs.declared.reply.Reply.{Reply}
use Rattle.feast_run.specs.declared.status.Status.{Status}

-- what a call has left on the shelf that came to say something
keeps_or_misses : (form : Option FormValue) (shelf : Change ShelfState) (status : Status) (text : List ℕ) → ComesTo form shelf status text → KeepsOrMisses form shelf
keeps_or_misses None shelf status text comes = comes.leaves
keeps_or_misses (Some f) shelf status text comes = by_outcome comes.outcome comes.comes comes.leaves
  where
    by_outcome : (o : FormOutcome) → form_answer shelf.old.files f o → Leaves shelf o → Keeps shelf.old shelf.new ⊎ Missed (form_answer shelf.old.files f) shelf
    by_outcome (Ok t) h k = inl k
    by_outcome (Err (refuses r)) h k = inl k
    by_outcome (Err (misses w)) h k = inr (record { word = w; comes = h; notes = k })

-- a text was put with a status
with_text : (form : Option FormValue) (shelf : Change ShelfState) (sink : Change SinkState) (right status : Status) (text : List ℕ) → ComesTo form shelf right text → PutWith right text sink status → Ends form shelf sink status
with_text form shelf sink right status text comes put =
    elim put [
      | inl whole ↦ inl (record { text = text; comes = subst (λ (v : Status). ComesTo form shelf v text) (sym whole.0) comes; put = whole.1 })
      | inr rest ↦ inr (elim rest [
        | inl cut ↦ inl (record { right = right; text = text; comes = comes; cut = cut.1; status_is = cut.0 })
        | inr none ↦ inr (inl (record { leaves = keeps_or_misses form shelf right text comes; nothing = none.1; same = none.2; status_is = none.0 }))
      ])
    ]

-- a job was done with a status
with_job : (form : Option FormValue) (shelf : Change ShelfState) (sink : Change SinkState) (right status : Status) (job : Job) → ((text : List ℕ) → MayWrite job text → ComesTo form shelf right text) → IfLegs job (IsToRun form shelf job) →
    PutJob right job sink status → Ends form shelf sink status
with_job form shelf sink right status (Write output) comes legs put = with_text form shelf sink right status (output_text output) (comes (output_text output) refl) put
with_job form shelf sink right status (Legs l) comes legs put =
    elim put [
      | inl whole ↦ inl (record { text = whole.0; comes = subst (λ (v : Status). ComesTo form shelf v whole.0) (sym whole.2) (comes whole.0 whole.1); put = whole.3 })
      | inr stops ↦ inr (inr (inr (record { f = legs.f; form_is = legs.form_is; chain = ready_chain_value l.ready; runs = legs.runs; leaves = legs.leaves; stops = stops })))
    ]

-- a call that came to say something, which was written
pub ends_of : (form : Option FormValue) (shelf : Change ShelfState) (sink : Change SinkState) (reply : Reply) (status : Status) →
    ComesAsReply form shelf reply → PutJob reply.status reply.job sink status → Ends form shelf sink status
ends_of form shelf sink reply status h put = with_job form shelf sink reply.status status reply.job h.comes h.legs put
