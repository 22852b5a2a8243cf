-- What is known of the bytes that a form appended, if its files are known.
use Rattle.std.specs.Prelude.{ℕ, ◌≡◌, ◌≤◌, length, take, List, [], ◌∷◌, codes, false, true, Some, Ok, ◌⊎◌}
use Rattle.chain_run.specs.Audits.{AreLegsIn}
use Rattle.chain_run.specs.Chains.{AreLegsOf, making}
use Rattle.chain_run.specs.Judging.{chain_judgement_text}
use Rattle.chain_run.specs.Reading.{LegSaid, read_chain}
use Rattle.chain_run.specs.Replays.{events_in}
use Rattle.chain_run.specs.Runs.{AreAlone}
use Rattle.chain_run.specs.declared.judgement.ChainJudgement.TheVariants.{Yes}
use Rattle.chain_text.specs.Chain.{ChainValue}
use Rattle.chain_text.specs.Named.{ReadsChain}
use Rattle.chain_text.specs.Reading.{is_chain}
use Rattle.code_file.specs.Form.{CodesValue, IsFile}
use Rattle.code_file.specs.Right.{AreRight}
use Rattle.element_set.specs.Sets.{SetValue, AcceptsFiles, check_text, code_text, element_names}
use Rattle.report_text.specs.Reading.{entries_said, read_report}
use Rattle.feast_base.specs.Outside.{File, file_of}
use Rattle.report_text.specs.Entries.{Entries}
use Rattle.feast_run.specs.Again.{ReplaysTo}
use Rattle.feast_run.specs.Answer.{atoms_after}
use Rattle.feast_run.specs.Audited.{Audits}
use Rattle.feast_run.specs.Chains.{AuditsLegs, ReportsLegs, are_stepped, replayed, rewound, stepped_text}
use Rattle.call_form.specs.Forms.{FormValue, check, code, pack, run, step, replay, gen, audit, rewind, steppack, runpack}
use Rattle.feast_run.specs.Packed.{pack_text}
use Rattle.feast_run.specs.Generating.{generated_ready, stepped_summary}
use Rattle.feast_run.specs.Owing.{Reports}
use Rattle.feast_run.specs.Stepped.{IsSteppedRun, machine_of, stepped_report}
use Rattle.feast_run.specs.Elements.{ElementsValue, code_elements, source_elements}
use Rattle.feast_run.specs.Stages.{ReadyChainValue, chain_with, ready_of_set, ready_with}
use Rattle.feast_run.specs.GeneratedElements.{source_files}
use Rattle.report_text.specs.Report.{grid_text}
use Rattle.tile_map.specs.Plane.{tiles_of}
use Rattle.world_text.specs.Named.{ReadsWorld, WorldValue}
use Rattle.feast_run.specs.declared.loading.TheConstants.{CODE_LIMIT, ELEMENT_LIMIT, JOURNAL_LIMIT, WORLD_LIMIT}

-- the element files of some words, in order: for each word the first file of that name, within its
-- limit
abbrev pub AreFiles : List File → List (List ℕ) → List File → Type 0
AreFiles files [] [] = Unit {0}
AreFiles files [] (s ∷ ss) = ⊥
AreFiles files (w ∷ ws) [] = ⊥
AreFiles files (w ∷ ws) (s ∷ ss) = (s.0 ≡ w) × (file_of w files ≡ Some s.1) × (length s.1 ≤ ELEMENT_LIMIT) × AreFiles files ws ss

-- element files that are known, and the set that they are: no stage refuses them
pub record IsSet (files : List File) (words : List (List ℕ)) (set : SetValue) : Type 0 where
  pub sources : List File
  pub are_files : AreFiles files words sources
  pub accepted : AcceptsFiles sources set

-- a form of element files alone, whose files are known: the bytes appended are this text of their
-- set
pub record SetTold (text : SetValue → List ℕ) (files : List File) (words : List (List ℕ)) (appended : List ℕ) : Type 0 where
  pub set : SetValue
  pub is_set : IsSet files words set
  pub shown : appended ≡ text set

-- a code file that is known: it is the one spelling of these elements, no two of which have one
-- name, and each code is valid
pub record IsCodeFile (files : List File) (word : List ℕ) (es : CodesValue) : Type 0 where
  pub bytes : List ℕ
  pub file : file_of word files ≡ Some bytes
  pub within : length bytes ≤ CODE_LIMIT
  pub is_file : IsFile bytes es
  pub right : AreRight es

-- a world that is known, whose atoms are of elements with these names
pub record WorldTold (files : List File) (word : List ℕ) (names : List (List ℕ)) (world : WorldValue) : Type 0 where
  pub bytes : List ℕ
  pub file : file_of word files ≡ Some bytes
  pub within : length bytes ≤ WORLD_LIMIT
  pub plain : is_chain bytes ≡ false
  pub reads : ReadsWorld bytes names world

-- a chain that is known, whose atoms are of elements with these names
pub record ChainTold (files : List File) (word : List ℕ) (names : List (List ℕ)) (chain : ChainValue) : Type 0 where
  pub bytes : List ℕ
  pub file : file_of word files ≡ Some bytes
  pub within : length bytes ≤ WORLD_LIMIT
  pub begins : is_chain bytes ≡ true
  pub reads : ReadsChain bytes names chain

-- a run whose files are known, and what its elements were given as: the bytes appended are the
-- report of what it left, by what these elements do
pub record RanTold {X : Type 0} (elements : X → ElementsValue) (IsTold : X → Type 0) (files : List File) (word appended : List ℕ) : Type 0 where
  pub world : WorldValue
  pub given : X
  pub is_told : IsTold given
  pub told_world : WorldTold files word (elements given).names world
  pub reports : Reports (ready_with world (elements given)) appended
  -- a replay of the report by these elements comes to the report's own atoms
  pub replays : ReplaysTo (ready_with world (elements given)) appended reports.grid

-- a run of a chain whose files are known, and what its elements were given as: the bytes appended are the reports of legs that are
-- the chain's, by what these elements do
pub record ChainRanTold {X : Type 0} (elements : X → ElementsValue) (IsTold : X → Type 0) (files : List File) (word appended : List ℕ) : Type 0 where
  pub chain : ChainValue
  pub given : X
  pub is_told : IsTold given
  pub told_chain : ChainTold files word (elements given).names chain
  pub reports : ReportsLegs (chain_with chain (elements given)) appended
  -- on a plane of one tile they are those of the stepped legs, and each attempt of each leg is an event, in its order
  pub lone : tiles_of chain.plane ≡ 1 → appended ≡ stepped_text (chain_with chain (elements given))
  pub alone : tiles_of chain.plane ≡ 1 → AreAlone (making chain (elements given).meaning) chain.first reports.legs

-- a stepped run of a chain: the bytes appended are the reports of its stepped legs, and these are legs of the chain
pub record ChainSteppedTold {X : Type 0} (elements : X → ElementsValue) (IsTold : X → Type 0) (files : List File) (word appended : List ℕ) : Type 0 where
  pub chain : ChainValue
  pub given : X
  pub is_told : IsTold given
  pub told_chain : ChainTold files word (elements given).names chain
  pub run : AreLegsOf chain (elements given).meaning (are_stepped (chain_with chain (elements given)))
  pub shown : appended ≡ stepped_text (chain_with chain (elements given))

-- a stepped run whose files are known, and what its elements were given as: the bytes appended are
-- the report of the stepped machine of the world after the steps of its order, and what that
-- machine left is a run's, by what these elements do
pub record SteppedTold {X : Type 0} (elements : X → ElementsValue) (IsTold : X → Type 0) (files : List File) (word appended : List ℕ) : Type 0 where
  pub world : WorldValue
  pub given : X
  pub is_told : IsTold given
  pub told_world : WorldTold files word (elements given).names world
  pub run : IsSteppedRun (ready_with world (elements given))
  pub shown : appended ≡ stepped_report (ready_with world (elements given))
  -- a replay of the report by these elements comes to the report's own atoms
  pub replays : ReplaysTo (ready_with world (elements given)) appended (machine_of (ready_with world (elements given))).grid

-- a generated run: the bytes appended are the summary of the stepped machine of the world that a number gives, with the
-- elements of its own text, and what that machine left is a run's, by what that text means; type 1 is Wander, type 2 Stone
pub record GenTold (number : ℕ) (appended : List ℕ) : Type 0 where
  pub set : SetValue
  pub is_set : AcceptsFiles source_files set
  pub names : element_names set ≡ codes "Wander" ∷ codes "Stone" ∷ []
  pub run : IsSteppedRun (generated_ready number set)
  pub shown : appended ≡ stepped_summary number (generated_ready number set)

-- a report that is known, and the journal that it says, of a world that is known
pub record ReportTold (files : List File) (report_word : List ℕ) (world : WorldValue) (bytes : List ℕ) (journal : Entries) : Type 0 where
  pub file : file_of report_word files ≡ Some bytes
  pub within : length bytes ≤ JOURNAL_LIMIT
  pub reads : entries_said (read_report world.plane world.plan.lists bytes) ≡ Ok journal

-- the file words of a form that loads a report: those of the world, of the report, and of the
-- element files
pub record ReportWords : Type 0 where
  pub world : List ℕ
  pub report : List ℕ
  pub elements : List (List ℕ)

abbrev pub report_words : List ℕ → List ℕ → List (List ℕ) → ReportWords
report_words world report elements = record { world = world; report = report; elements = elements }

-- what such files say if they are known: a world with the elements of a set, and a report of it
pub record KnownReport (files : List File) (words : ReportWords) : Type 0 where
  pub world : WorldValue
  pub set : SetValue
  pub is_set : IsSet files words.elements set
  pub told_world : WorldTold files words.world (element_names set) world
  pub bytes : List ℕ
  pub journal : Entries
  pub told_report : ReportTold files words.report world bytes journal

-- a chain with the elements of a set, and the reports of its legs
pub record KnownLegs (files : List File) (words : ReportWords) : Type 0 where
  pub chain : ChainValue
  pub set : SetValue
  pub is_set : IsSet files words.elements set
  pub told_chain : ChainTold files words.world (element_names set) chain
  pub bytes : List ℕ
  pub said : List LegSaid
  pub file : file_of words.report files ≡ Some bytes
  pub within : length bytes ≤ JOURNAL_LIMIT
  pub reads : read_chain chain bytes ≡ Ok said

abbrev pub chain_of_set : ChainValue → SetValue → ReadyChainValue
chain_of_set chain set = chain_with chain (source_elements set)

-- a replay of a chain's report: the bytes appended are the atoms that its acts and the events of its legs make
pub record ReplayLegsTold (files : List File) (words : ReportWords) (appended : List ℕ) : Type 0 where
  pub known : KnownLegs files words
  pub shown : appended ≡ grid_text (element_names known.set) (replayed (chain_of_set known.chain known.set) known.said)

-- these bytes are the report of legs that are the chain's, by what the elements' source means
abbrev pub AreReportedLegs : ChainValue → SetValue → List ℕ → Type 0
AreReportedLegs chain set bytes = AreLegsIn (element_names set) chain (source_elements set).meaning bytes

-- an audit of a chain's report: the bytes appended are the line of the judgement on it. They are `yes` where the report's bytes are
-- those of legs that are the chain's, and nowhere else
pub record AuditLegsTold (files : List File) (words : ReportWords) (appended : List ℕ) : Type 0 where
  pub known : KnownLegs files words
  pub audits : AuditsLegs (chain_of_set known.chain known.set) known.said appended
  pub yes_if : AreReportedLegs known.chain known.set known.bytes → appended ≡ chain_judgement_text Yes
  pub only_if : appended ≡ chain_judgement_text Yes → AreReportedLegs known.chain known.set known.bytes

-- a rewind of a chain's report, which has this many events: the bytes appended are the atoms behind the first k
pub record RewindLegsTold (files : List File) (words : ReportWords) (k : ℕ) (appended : List ℕ) : Type 0 where
  pub known : KnownLegs files words
  pub enough : k ≤ events_in known.said
  pub shown : appended ≡ grid_text (element_names known.set) (rewound (chain_of_set known.chain known.set) known.said k)

-- a replay whose files are known: the bytes appended are the atoms that the events of the journal
-- make, one at a time, on one uncut grid that begins with the world's atoms, by what the elements'
-- source means
pub record ReplayTold (files : List File) (words : ReportWords) (appended : List ℕ) : Type 0 where
  pub known : KnownReport files words
  pub shown : appended ≡ atoms_after (ready_of_set known.world known.set) known.journal.records

-- an audit whose files are known: the bytes appended are the line of the judgement on the report,
-- by what the elements' source means
pub record AuditTold (files : List File) (words : ReportWords) (appended : List ℕ) : Type 0 where
  pub known : KnownReport files words
  pub audits : Audits (ready_of_set known.world known.set) known.bytes known.journal appended

-- a rewind whose files are known: the report has this many events, and the bytes appended are the
-- atoms that its first k events make, as for a replay
pub record RewindTold (files : List File) (words : ReportWords) (k : ℕ) (appended : List ℕ) : Type 0 where
  pub known : KnownReport files words
  pub enough : k ≤ length known.journal.records
  pub shown : appended ≡ atoms_after (ready_of_set known.world known.set) (take k known.journal.records)

-- of a world or of a chain
abbrev pub RunShown : {X : Type 0} → (X → ElementsValue) → (X → Type 0) → List File → List ℕ → List ℕ → Type 0
RunShown elements IsTold files word appended = RanTold elements IsTold files word appended ⊎ ChainRanTold elements IsTold files word appended

abbrev pub StepShown : {X : Type 0} → (X → ElementsValue) → (X → Type 0) → List File → List ℕ → List ℕ → Type 0
StepShown elements IsTold files word appended = SteppedTold elements IsTold files word appended ⊎ ChainSteppedTold elements IsTold files word appended

abbrev pub ReplayShown : List File → ReportWords → List ℕ → Type 0
ReplayShown files words appended = ReplayTold files words appended ⊎ ReplayLegsTold files words appended

abbrev pub AuditShown : List File → ReportWords → List ℕ → Type 0
AuditShown files words appended = AuditTold files words appended ⊎ AuditLegsTold files words appended

abbrev pub RewindShown : List File → ReportWords → ℕ → List ℕ → Type 0
RewindShown files words k appended = RewindTold files words k appended ⊎ RewindLegsTold files words k appended

-- the text that a form writes, if the files are known
abbrev pub Shows : List File → FormValue → List ℕ → Type 0
Shows files (check words) appended = SetTold check_text files words appended
Shows files (code words) appended = SetTold code_text files words appended
Shows files (pack words) appended = SetTold pack_text files words appended
Shows files (run world words) appended = RunShown source_elements (IsSet files words) files world appended
Shows files (step world words) appended = StepShown source_elements (IsSet files words) files world appended
Shows files (replay world journal words) appended = ReplayShown files (report_words world journal words) appended
Shows files (gen number) appended = GenTold number appended
Shows files (audit world report words) appended = AuditShown files (report_words world report words) appended
Shows files (rewind world report k words) appended = RewindShown files (report_words world report words) k appended
Shows files (steppack world file) appended = StepShown code_elements (IsCodeFile files file) files world appended
Shows files (runpack world file) appended = RunShown code_elements (IsCodeFile files file) files world appended
