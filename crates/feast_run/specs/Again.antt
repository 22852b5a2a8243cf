-- Reports that are read again: they say their own journal, are audited with `yes`, rewind to the
-- atoms after their first events, and replay to their own atoms.
use Rattle.std.specs.Prelude.{ℕ, ◌≡◌, ◌≢◌, ◌≤◌, List, ◌++◌, Some, codes, length, Ok}
use Rattle.cell_grid.specs.Grid.{GridValue}
use Rattle.chain_run.specs.Audits.{AreSaidOf}
use Rattle.chain_run.specs.Chains.{first_grid}
use Rattle.chain_run.specs.Judging.{chain_judgement_text}
use Rattle.chain_run.specs.Legs.{Leg, grid_after}
use Rattle.chain_run.specs.Reading.{LegSaid, read_chain}
use Rattle.chain_run.specs.declared.judgement.ChainJudgement.TheVariants.{Yes}
use Rattle.chain_text.specs.Chain.{ChainValue}
use Rattle.chain_text.specs.declared.chain.Journal.TheVariants.{Counts}
use Rattle.report_text.specs.Reading.{entries_said, read_report}
use Rattle.feast_base.specs.Outside.{File, file_of}
use Rattle.report_text.specs.Entries.{Entries}
use Rattle.feast_run.specs.Answer.{AreFirstAtoms, replay_of, rewind_of}
use Rattle.feast_run.specs.Audited.{AuditsYes}
use Rattle.feast_run.specs.Chains.{AreAtomsAmid, audit_legs_of, replay_legs_of, rewind_legs_of}
use Rattle.feast_run.specs.Stages.{ReadyChainValue, ReadyValue}
use Rattle.report_text.specs.Report.{atoms_text, grid_text}
use Rattle.world_text.specs.Named.{WorldValue}
use Rattle.feast_run.specs.declared.loading.TheConstants.{JOURNAL_LIMIT}

-- a text, read as a report of the world, says this journal
abbrev pub SaysJournal : WorldValue → List ℕ → Entries → Type 0
SaysJournal world text journal = entries_said (read_report world.plane world.plan.lists text) ≡ Ok journal

-- in whatever file has this known text, a rewind of it by these elements to k events comes to the
-- atoms that the first k events of the journal leave, if it has that many, and to no other text
pub record RewindsTo (r : ReadyValue) (text : List ℕ) (journal : Entries) : Type 0 where
  pub comes : (files : List File) (word : List ℕ) (k : ℕ) (atoms : List ℕ) → file_of word files ≡ Some text → AreFirstAtoms r journal k atoms → rewind_of (Some files) word k r (Ok atoms)
  pub only : (files : List File) (word : List ℕ) (k : ℕ) (atoms : List ℕ) → file_of word files ≡ Some text → rewind_of (Some files) word k r (Ok atoms) → AreFirstAtoms r journal k atoms

-- the report of a run with this journal: it says this journal, an audit of it by these elements
-- comes to `yes`, and a rewind of it to the atoms after the journal's first events
pub record IsOwnReport (r : ReadyValue) (text : List ℕ) (journal : Entries) : Type 0 where
  pub says : SaysJournal r.world text journal
  pub audited : AuditsYes r text
  pub rewound : RewindsTo r text journal

-- in whatever file has this known text, it is a journal of the world, and a replay of it comes to
-- the header and the atoms of this grid
abbrev pub ReplaysTo : ReadyValue → List ℕ → GridValue → Type 0
ReplaysTo r text grid = (files : List File) (word : List ℕ) → file_of word files ≡ Some text → replay_of (Some files) word r (Ok (codes "feast 1\n" ++ atoms_text r.names grid))

-- in whatever file has this known text, an audit of it as the report of the chain comes to the line
-- `yes`, and to no other line
pub record AuditsLegsYes (c : ReadyChainValue) (text : List ℕ) : Type 0 where
  pub comes : (files : List File) (word : List ℕ) → file_of word files ≡ Some text → audit_legs_of (Some files) word c (Ok (chain_judgement_text Yes))
  pub only : (files : List File) (word line : List ℕ) → file_of word files ≡ Some text → audit_legs_of (Some files) word c (Ok line) → line ≡ chain_judgement_text Yes

-- a replay of it comes to the header and the atoms of this grid
abbrev pub ReplaysLegsTo : ReadyChainValue → List ℕ → GridValue → Type 0
ReplaysLegsTo c text grid = (files : List File) (word : List ℕ) → file_of word files ≡ Some text → replay_legs_of (Some files) word c (Ok (grid_text c.names grid))

-- and a rewind to k events comes to the atoms that the first k events of the reports leave, if they
-- have that many, and to no other text
pub record RewindsLegsTo (c : ReadyChainValue) (text : List ℕ) (said : List LegSaid) : Type 0 where
  pub comes : (files : List File) (word : List ℕ) (k : ℕ) (atoms : List ℕ) → file_of word files ≡ Some text → AreAtomsAmid c said k atoms → rewind_legs_of (Some files) word k c (Ok atoms)
  pub only : (files : List File) (word : List ℕ) (k : ℕ) (atoms : List ℕ) → file_of word files ≡ Some text → rewind_legs_of (Some files) word k c (Ok atoms) → AreAtomsAmid c said k atoms

-- the report of legs of a chain: it says these legs, an audit of it comes to `yes`, a replay of it to
-- the atoms that the last leg left, and a rewind of it to those after the first events
pub record IsOwnLegs (c : ReadyChainValue) (text : List ℕ) (legs : List Leg) : Type 0 where
  pub said : List LegSaid
  pub reads : read_chain c.chain text ≡ Ok said
  pub own : AreSaidOf legs said
  pub audited : AuditsLegsYes c text
  pub replayed : ReplaysLegsTo c text (grid_after (first_grid c.chain) legs)
  pub rewound : RewindsLegsTo c text said

-- if the chain's legs have whole or short reports, and the text is no longer than a report that is
-- read may be
abbrev pub IfReadable : ChainValue → List ℕ → Type 0 → Type 0
IfReadable c text P = ((period : ℕ) → c.journal ≢ Counts period) → length text ≤ JOURNAL_LIMIT → P
