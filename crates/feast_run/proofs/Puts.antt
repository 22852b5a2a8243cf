-- The status of a job, by what putting came to.
use Rattle.std.proofs.Common.{ℕ, ◌≡◌, List, Result, Ok, Err, inl, inr, subst, sym}
use Rattle.feast_base.specs.Outside.{SinkState}
use Rattle.feast_run.specs.Changes.{Change}
use Rattle.feast_run.specs.Ending.{StopsRun}
use Rattle.feast_run.specs.Legs.{PutsLegs}
use Rattle.feast_run.specs.Replies.{PutJob, PutWith, status_after}
use Rattle.feast_run.specs.Values.{ready_chain_value}
use Rattle.feast_run.specs.declared.output.Job.TheVariants.{Legs}
use Rattle.feast_run.specs.declared.output.LegsToRun.{LegsToRun}
use Rattle.feast_run.specs.declared.status.Status.{Status}
use Rattle.report_text.specs.Writing.{Writes}
use Rattle.report_text.specs.declared.write_fault.WriteFault.{WriteFault}
use Rattle.report_text.specs.declared.write_fault.WriteFault.TheVariants.{Sink, NoMemory}

-- a text that was written
pub text_with : {T : Type 0} (right status : Status) (text : List ℕ) (sink : Change SinkState) (r : Result T WriteFault) → Writes sink.old sink.new text r → status ≡ status_after right r → PutWith right text sink status
text_with right status text sink (Ok x) h is = inl (is, h)
text_with right status text sink (Err Sink) h is = inr (inl (is, h))
text_with right status text sink (Err NoMemory) h is = inr (inr (is, h.0, h.1))

-- legs that were put
pub legs_with : {T : Type 0} (right status : Status) (legs : LegsToRun) (sink : Change SinkState) (r : Result T WriteFault) → PutsLegs legs.stepped (ready_chain_value legs.ready) sink r → status ≡ status_after right r → PutJob right (Legs legs) sink status
legs_with right status legs sink (Ok x) h is = inl (h.0, h.1, is, h.2)
legs_with right status legs sink (Err Sink) h is = inr (subst (StopsRun (ready_chain_value legs.ready) sink) (sym is) h)
legs_with right status legs sink (Err NoMemory) h is = inr (subst (StopsRun (ready_chain_value legs.ready) sink) (sym is) h)
