-- The judgement on a report.
use Rattle.std.specs.Prelude.{ℕ, ◌≡◌, List, Option, Some, Ok}
use Rattle.feast_base.specs.Outside.{File, file_of}
use Rattle.feast_base.specs.Stages.{Stage, and_then, gives_any}
use Rattle.report_text.specs.Entries.{Entries}
use Rattle.feast_run.specs.Halting.{HaltValue}
use Rattle.feast_run.specs.Owing.{course_of}
use Rattle.feast_run.specs.Stages.{ReadyValue, journal_in, load}
use Rattle.report_judge.specs.Judging.{Judges, NamedCourse, judgement_text, named_course}
use Rattle.report_judge.specs.declared.judgement.Judgement.{Judgement}
use Rattle.report_judge.specs.declared.judgement.Judgement.TheVariants.{Yes}
use Rattle.feast_run.specs.declared.loading.TheConstants.{JOURNAL_LIMIT}

-- the course of a world, with what its elements are called
abbrev pub judged_course : ReadyValue → NamedCourse
judged_course r = named_course (course_of r) r.names

-- a text is the line of the judgement on the bytes of a report with this journal
pub record Audits (r : ReadyValue) (bytes : List ℕ) (journal : Entries) (text : List ℕ) : Type 0 where
  pub judgement : Judgement
  pub judges : Judges (judged_course r) bytes journal judgement
  pub shown : text ≡ judgement_text judgement

abbrev pub audits : ReadyValue → List ℕ → Entries → Stage (List ℕ) HaltValue
audits r bytes journal = gives_any (Audits r bytes journal)

-- the stages of an audit after its world and elements
abbrev pub audit_with : List ℕ → ReadyValue → List ℕ → Stage (List ℕ) HaltValue
audit_with word r bytes = and_then (journal_in word r.world bytes) (audits r bytes)

abbrev pub audit_of : Option (List File) → List ℕ → ReadyValue → Stage (List ℕ) HaltValue
audit_of files word r = and_then (load files JOURNAL_LIMIT word) (audit_with word r)

-- in whatever file has this known text, an audit of it by these elements comes to the line `yes`,
-- and to no other line
pub record AuditsYes (r : ReadyValue) (text : List ℕ) : Type 0 where
  pub comes : (files : List File) (word : List ℕ) → file_of word files ≡ Some text → audit_of (Some files) word r (Ok (judgement_text Yes))
  pub only : (files : List File) (word line : List ℕ) → file_of word files ≡ Some text → audit_of (Some files) word r (Ok line) → line ≡ judgement_text Yes
