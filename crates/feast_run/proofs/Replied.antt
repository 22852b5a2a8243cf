-- What a reply comes to say, by what the stages of its form came to.
use Rattle.std.proofs.Common.{ℕ, ◌≡◌, ◌∙◌, List, Some, None, Result, Ok, Err, inr, refl}
use Rattle.std.specs.Result.{IfOk}
use Rattle.call_form.specs.Forms.{FormValue}
use Rattle.feast_base.specs.Outside.{ShelfState}
use Rattle.feast_run.specs.Answer.{form_answer}
use Rattle.feast_run.specs.Changes.{Change}
use Rattle.feast_run.specs.Ending.{ComesTo, KeepsOrMisses, Leaves, status_of, text_of}
use Rattle.feast_run.specs.Halting.{FormOutcome, misses}
use Rattle.feast_run.specs.Outputs.{MayWrite}
use Rattle.feast_run.specs.Replies.{ComesAsReply, IfLegs, IsToRun, Replies, RunsForm, Says, TellsJob, Writes}
use Rattle.feast_run.specs.Tellings.{Keeps, Notes}
use Rattle.feast_run.specs.declared.output.Job.{Job}
use Rattle.feast_run.specs.declared.output.Job.TheVariants.{Legs, Write}
use Rattle.feast_run.specs.declared.reply.Reply.{Reply}
use Rattle.feast_run.specs.declared.status.Status.{Status}
use Rattle.feast_run.specs.declared.status.Status.TheVariants as how

-- the stages passed, and a job is left to do
job_runs : (f : FormValue) (shelf : Change ShelfState) (job : Job) → Keeps shelf.old shelf.new → RunsForm shelf.old.files f job → IfLegs job (IsToRun (Some f) shelf job)
job_runs f shelf (Write o) keeps runs = tt
job_runs f shelf (Legs l) keeps runs = record { f = f; form_is = refl; leaves = keeps; runs = runs }

pub job_replied : (f : FormValue) (shelf : Change ShelfState) (job : Job) → Keeps shelf.old shelf.new → TellsJob (form_answer shelf.old.files f) (Ok job) → RunsForm shelf.old.files f job →
    ComesAsReply (Some f) shelf (record { status = how.Done; job = job })
job_replied f shelf job keeps tells runs = record {
  comes = λ text may. record { outcome = Ok text; comes = tells text may; leaves = keeps; status_is = refl; text_is = refl };
  legs = job_runs f shelf job keeps runs;
}

-- a line is written, and nothing else
one_written : (job : Job) (text t : List ℕ) → Writes text job → MayWrite job t → t ≡ text
one_written (Write o) text t says may = may ∙ says
one_written (Legs l) text t says may = absurd says

no_legs : (job : Job) (text : List ℕ) (P : Type 0) → Writes text job → IfLegs job P
no_legs (Write o) text P says = tt
no_legs (Legs l) text P says = absurd says

pub line_replied : {E : Type 0} (f : FormValue) (shelf : Change ShelfState) (status : Status) (text : List ℕ) (o : FormOutcome) (r : Result Reply E) → form_answer shelf.old.files f o → Leaves shelf o → status ≡ status_of o → text ≡ text_of o →
    KeepsOrMisses (Some f) shelf → IfOk r (Says status text) → Replies (Some f) shelf r
line_replied f shelf status text o (Ok reply) comes leaves right is keeps says = record {
  comes = λ t may. record { outcome = o; comes = comes; leaves = leaves; status_is = says.0 ∙ right; text_is = one_written reply.job text t says.1 may ∙ is };
  legs = no_legs reply.job text (IsToRun (Some f) shelf reply.job) says.1;
}
line_replied f shelf status text o (Err e) comes leaves right is keeps says = keeps

-- the words have no form
pub usage_replied : {E : Type 0} (shelf : Change ShelfState) (status : Status) (text : List ℕ) (r : Result Reply E) → Keeps shelf.old shelf.new → ((t : List ℕ) → t ≡ text → ComesTo None shelf status t) → IfOk r (Says status text) → Replies None shelf r
usage_replied shelf status text (Ok reply) keeps comes says = record {
  comes = λ t may. usage_as reply.status status t says.0 (comes t (one_written reply.job text t says.1 may));
  legs = no_legs reply.job text (IsToRun None shelf reply.job) says.1;
}
  where
    usage_as : (told status : Status) (t : List ℕ) → told ≡ status → ComesTo None shelf status t → ComesTo None shelf told t
    usage_as told status t is h = record { leaves = h.leaves; status_is = is ∙ h.status_is; text_is = h.text_is }
usage_replied shelf status text (Err e) keeps comes says = keeps

-- a load failed
pub missed_keeps : (f : FormValue) (shelf : Change ShelfState) (word : List ℕ) → form_answer shelf.old.files f (Err (misses word)) → Notes shelf.old shelf.new word → KeepsOrMisses (Some f) shelf
missed_keeps f shelf word comes notes = inr (record { word = word; comes = comes; notes = notes })
