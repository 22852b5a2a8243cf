-- An audit of the report of a run comes to yes.
use Rattle.std.proofs.Common.{ℕ, ◌≡◌, List, ◌≤◌, Some, Ok, length, ap, sym, subst, refl, ◌∙◌, inr}
use Rattle.cell_grid.specs.Grid.{GridValue}
use Rattle.report_text.specs.Reading.{entries_said, read_report}
use Rattle.event_journal.specs.Serial.{OwesNothing}
use Rattle.feast_base.proofs.Stages.{went}
use Rattle.feast_base.specs.Outside.{File, file_of}
use Rattle.report_text.specs.Entries.{Entries}
use Rattle.feast_run.specs.Again.{SaysJournal}
use Rattle.feast_run.specs.Audited.{Audits, AuditsYes, audit_of, judged_course}
use Rattle.feast_run.specs.Owing.{IsRun}
use Rattle.feast_run.specs.Stages.{ReadyValue}
use Rattle.report_text.specs.Report.{report}
use Rattle.report_judge.specs.Judging.{Judges, NamedCourse, judgement_text, own_report}
use Rattle.report_judge.specs.declared.judgement.Judgement.{Judgement}
use Rattle.report_judge.specs.declared.judgement.Judgement.TheVariants.{Yes, NoAccounted, NoStamped, NoExcused, NoAtoms}
use Rattle.feast_run.specs.declared.loading.TheConstants.{JOURNAL_LIMIT}

-- where the journal owes nothing, and the bytes are the report of the journal, no other judgement is right
only_yes : (s : NamedCourse) (bytes : List ℕ) (j : Entries) (judgement : Judgement) → OwesNothing s.course.map s.course.plan j.records j.abandoned → bytes ≡ own_report s j → Judges s bytes j judgement → judgement ≡ Yes
only_yes s bytes j Yes owes own h = refl
only_yes s bytes j NoAccounted owes own h = absurd (h owes.accounted)
only_yes s bytes j (NoStamped line) owes own h = absurd (h.1.1.here (λ d. owes.stamped h.1.0 d h.1.1.within))
only_yes s bytes j (NoExcused line) owes own h = absurd (h.2.1.here (λ d. owes.excused h.2.0 d h.2.1.within))
only_yes s bytes j NoAtoms owes own h = absurd (h.1 own)

-- a text that says this journal, which owes nothing, and that is the report of the journal
record IsRight (r : ReadyValue) (text : List ℕ) (j : Entries) : Type 0 where
  pub says : SaysJournal r.world text j
  pub within : length text ≤ JOURNAL_LIMIT
  pub owes : OwesNothing r.world.plane r.world.plan j.records j.abandoned
  pub own : text ≡ own_report (judged_course r) j

comes : (r : ReadyValue) (text : List ℕ) (j : Entries) → IsRight r text j → (files : List File) (word : List ℕ) → file_of word files ≡ Some text → audit_of (Some files) word r (Ok (judgement_text Yes))
comes r text j h files word file =
    let audits : Audits r text j (judgement_text Yes) = record { judgement = Yes; judges = (h.owes, h.own); shown = refl } in
    inr (record { value = text; passed = (file, h.within); rest = inr (record { value = j; passed = h.says; rest = audits }) })

only : (r : ReadyValue) (text : List ℕ) (j : Entries) → IsRight r text j → (files : List File) (word line : List ℕ) → file_of word files ≡ Some text → audit_of (Some files) word r (Ok line) → line ≡ judgement_text Yes
only r text j h files word line file audited =
    let b = went _ _ line audited in
    let k = went _ _ line b.rest in
    let content : Some b.value ≡ Some text = sym b.passed.0 ∙ file in
    let bytes : b.value ≡ text = cc in
    let said : Ok k.value ≡ Ok j = sym k.passed ∙ ap (λ ns. entries_said (read_report r.world.plane r.world.plan.lists ns)) bytes ∙ h.says in
    let journal : k.value ≡ j = cc in
    let of_bytes = subst (λ ns. Judges (judged_course r) ns k.value k.rest.judgement) bytes k.rest.judges in
    let judges = subst (λ (v : Entries). Judges (judged_course r) text v k.rest.judgement) journal of_bytes in
    k.rest.shown ∙ ap judgement_text (only_yes (judged_course r) text j k.rest.judgement h.owes h.own judges)

-- the report of what a run left
pub audits_yes : (r : ReadyValue) (text : List ℕ) (grid : GridValue) (j : Entries) → SaysJournal r.world text j → length text ≤ JOURNAL_LIMIT → IsRun r grid j.records j.abandoned → text ≡ report r.names grid j.records j.abandoned → AuditsYes r text
audits_yes r text grid j says within run shown =
    let right : IsRight r text j = record {
      says = says;
      within = within;
      owes = run.owes;
      own = shown ∙ ap (λ (g : GridValue). report r.names g j.records j.abandoned) run.replayed;
    } in
    record { comes = comes r text j right; only = only r text j right }
