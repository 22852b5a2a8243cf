-- What a call promises, in the caller's terms. Each follows from how a call ends.
use Rattle.std.specs.Prelude.{ℕ, ◌≡◌, ◌≢◌, ◌≤◌, length, List, [], ◌∷◌, ◌++◌, Option, Some, None, Ok, ◌⊎◌, Err}
use Rattle.std.proofs.Common.{inl, inr}
use Rattle.chain_run.specs.Legs.{Leg}
use Rattle.chain_run.specs.Reading.{LegSaid}
use Rattle.chain_run.specs.Replays.{events_in}
use Rattle.chain_text.specs.Chain.{ChainValue}
use Rattle.chain_text.specs.Named.{chain_with_names}
use Rattle.chain_text.specs.Drafts.{ChainDraft}
use Rattle.element_set.specs.Sets.{SetValue}
use Rattle.feast_base.specs.Held.{ShelfHeld, SinkHeld, mem_shelf_state, mem_sink_state, room_left}
use Rattle.feast_base.specs.Outside.{File, Grows, ShelfState, SinkState, file_of}
use Rattle.feast_base.specs.Refusals.{refusal_line, unreadable_line, usage_line}
use Rattle.report_text.specs.Entries.{Entries}
use Rattle.feast_run.specs.Again.{IfReadable, IsOwnLegs, IsOwnReport}
use Rattle.feast_run.specs.Answer.{AreFirstAtoms, RunsChain, form_answer}
use Rattle.feast_run.specs.Chains.{AreAtomsAmid, AreFirstLegs, are_stepped, first_text, legs_of}
use Rattle.feast_run.specs.Changes.{Change, change}
use Rattle.feast_run.specs.Ending.{ComesTo, Ends, status_of}
use Rattle.call_form.specs.Forms.{FormValue, check, code, pack, run, step, replay, gen, audit, rewind, steppack, runpack}
use Rattle.feast_run.specs.Halting.{FormOutcome, misses, refuses}
use Rattle.feast_run.specs.Owing.{entries_of}
use Rattle.feast_run.specs.Stepped.{stepped_journal}
use Rattle.feast_run.specs.Elements.{ElementsValue, code_elements, source_elements}
use Rattle.feast_run.specs.Stages.{ReadyChainValue, chain_draft, chain_with, draft_of, journal_of, ready_of_codes, ready_of_set, world_draft}
use Rattle.feast_run.specs.declared.status.Status.{Status}
use Rattle.feast_run.specs.declared.status.Status.TheVariants as how
use Rattle.report_judge.specs.Judging.{judgement_text}
use Rattle.report_judge.specs.declared.judgement.Judgement.TheVariants.{Yes}
use Rattle.world_text.specs.Drafts.{DraftValue}
use Rattle.world_text.specs.Named.{WorldValue, world_with_names}
use Rattle.feast_run.specs.Told.{AuditShown, IsCodeFile, IsSet, ReportWords, RewindShown, RunShown, Shows, StepShown, chain_of_set, report_words}

-- these words have the files that they had
abbrev pub HaveSame : List File → List File → List (List ℕ) → Type 0
HaveSame files others [] = Unit {0}
HaveSame files others (w ∷ ws) = (file_of w others ≡ file_of w files) × HaveSame files others ws

-- the files of a later call: the world and the element files are what they were, and some file has
-- this text
pub record IsLater (files : List File) (world : List ℕ) (words : List (List ℕ)) (text : List ℕ) : Type 0 where
  pub others : List File
  pub report : List ℕ
  pub world_same : file_of world others ≡ file_of world files
  pub elements_same : HaveSame files others words
  pub report_is : file_of report others ≡ Some text

-- a later audit of this text, with the same world and the same element files: it may come to `yes`,
-- and any line that it shows is `yes`
pub record IsAuditedLater (files : List File) (world : List ℕ) (words : List (List ℕ)) (text : List ℕ) : Type 0 where
  pub comes : (later : IsLater files world words text) → form_answer (Some later.others) (audit world later.report words) (Ok (judgement_text Yes))
  pub only : (later : IsLater files world words text) (line : List ℕ) → AuditShown later.others (report_words world later.report words) line → line ≡ judgement_text Yes

-- a later rewind of this text, with the same world and the same element files: it may come to each
-- text that is right for the number of events that remain, and any text that it shows is right
pub record IsRewoundLater (files : List File) (world : List ℕ) (words : List (List ℕ)) (text : List ℕ) (IsRight : ℕ → List ℕ → Type 0) : Type 0 where
  pub comes : (later : IsLater files world words text) (k : ℕ) (atoms : List ℕ) → IsRight k atoms → form_answer (Some later.others) (rewind world later.report k words) (Ok atoms)
  pub only : (later : IsLater files world words text) (k : ℕ) (atoms : List ℕ) → RewindShown later.others (report_words world later.report words) k atoms → IsRight k atoms

-- what is known of the text of a run of a world or of a chain, by element files
abbrev pub IsRunAgain : (files : List File) (world : List ℕ) (words : List (List ℕ)) (text : List ℕ) → RunShown source_elements (IsSet files words) files world text → Type 0
IsRunAgain files world words text (inl told) =
    IsOwnReport (ready_of_set told.world told.given) text (entries_of told.reports) × IsAuditedLater files world words text ×
    IsRewoundLater files world words text (AreFirstAtoms (ready_of_set told.world told.given) (entries_of told.reports))
IsRunAgain files world words text (inr told) = IfReadable told.chain text
    ((own : IsOwnLegs (chain_of_set told.chain told.given) text told.reports.legs) × IsAuditedLater files world words text ×
    IsRewoundLater files world words text (AreAtomsAmid (chain_of_set told.chain told.given) own.said))

abbrev pub IsStepAgain : (files : List File) (world : List ℕ) (words : List (List ℕ)) (text : List ℕ) → StepShown source_elements (IsSet files words) files world text → Type 0
IsStepAgain files world words text (inl told) =
    IsOwnReport (ready_of_set told.world told.given) text (stepped_journal (ready_of_set told.world told.given)) × IsAuditedLater files world words text ×
    IsRewoundLater files world words text (AreFirstAtoms (ready_of_set told.world told.given) (stepped_journal (ready_of_set told.world told.given)))
IsStepAgain files world words text (inr told) = IfReadable told.chain text
    ((own : IsOwnLegs (chain_of_set told.chain told.given) text (are_stepped (chain_of_set told.chain told.given))) × IsAuditedLater files world words text ×
    IsRewoundLater files world words text (AreAtomsAmid (chain_of_set told.chain told.given) own.said))

-- and by a code file, which no audit takes
abbrev pub IsRunPackAgain : (files : List File) (world file text : List ℕ) → RunShown code_elements (IsCodeFile files file) files world text → Type 0
IsRunPackAgain files world file text (inl told) = IsOwnReport (ready_of_codes told.world told.given) text (entries_of told.reports)
IsRunPackAgain files world file text (inr told) = IfReadable told.chain text (IsOwnLegs (chain_with told.chain (code_elements told.given)) text told.reports.legs)

abbrev pub IsStepPackAgain : (files : List File) (world file text : List ℕ) → StepShown code_elements (IsCodeFile files file) files world text → Type 0
IsStepPackAgain files world file text (inl told) = IsOwnReport (ready_of_codes told.world told.given) text (stepped_journal (ready_of_codes told.world told.given))
IsStepPackAgain files world file text (inr told) = IfReadable told.chain text (IsOwnLegs (chain_with told.chain (code_elements told.given)) text (are_stepped (chain_with told.chain (code_elements told.given))))

-- the bytes of a run or a stepped run determine its journal: what they say when they are read as a
-- report of its world are its own events and abandoned attempts. An audit of them comes to `yes`, and
-- a rewind of them to the atoms after the journal's first events. Of a chain the same holds, leg by leg,
-- if its report can be read; a replay then comes to the atoms that the last leg left
abbrev pub IsReadAgain : (files : List File) (form : FormValue) (appended : List ℕ) → Shows files form appended → Type 0
IsReadAgain files (check words) appended told = Unit {0}
IsReadAgain files (code words) appended told = Unit {0}
IsReadAgain files (pack words) appended told = Unit {0}
IsReadAgain files (run world words) appended told = IsRunAgain files world words appended told
IsReadAgain files (step world words) appended told = IsStepAgain files world words appended told
IsReadAgain files (replay world journal words) appended told = Unit {0}
IsReadAgain files (gen number) appended told = Unit {0}
IsReadAgain files (audit world report words) appended told = Unit {0}
IsReadAgain files (rewind world report k words) appended told = Unit {0}
IsReadAgain files (steppack world file) appended told = IsStepPackAgain files world file appended told
IsReadAgain files (runpack world file) appended told = IsRunPackAgain files world file appended told

-- the words have a form, and its text was appended to what was written before
pub record HasShown (form : Option FormValue) (files : List File) (before : List ℕ) (sink : SinkState) : Type 0 where
  pub f : FormValue
  pub form_is : form ≡ Some f
  pub appended : List ℕ
  pub written : sink.written ≡ Some (before ++ appended)
  pub shows : Shows files f appended
  pub again : IsReadAgain files f appended shows

-- the headline: if the shelf reveals its files and the sink what was written, and the status is
-- Done, this was appended
abbrev pub Headline : Option FormValue → ShelfState → Change SinkState → Status → Type 0
Headline form shelf sink status =
    (files : List File) (before : List ℕ) → shelf.files ≡ Some files → sink.old.written ≡ Some before → status ≡ how.Done →
    HasShown form files before sink.new

-- Usage comes exactly when the words have no form, unless memory runs out or the sink fails
pub record UsageExactly (form : Option FormValue) (status : Status) : Type 0 where
  pub only_where : status ≡ how.Usage → form ≡ None
  pub wherever : form ≡ None → (status ≡ how.Usage) ⊎ ((status ≡ how.SinkFault) ⊎ (status ≡ how.NoMemory))

-- the words have a form, and the shelf reveals its files
pub record IsKnown (form : Option FormValue) (shelf : ShelfState) : Type 0 where
  pub f : FormValue
  pub form_is : form ≡ Some f
  pub files : List File
  pub files_are : shelf.files ≡ Some files

-- no name was noted
abbrev pub NoneNoted : Change ShelfState → Type 0
NoneNoted shelf = shelf.new.failed ≡ shelf.old.failed

-- the sink did not fail
abbrev pub NoFault : Change SinkState → Type 0
NoFault sink = sink.new.faults ≡ sink.old.faults

-- the names that were noted agree with an outcome
abbrev pub Agrees : Change ShelfState → FormOutcome → Type 0
Agrees shelf (Ok text) = NoneNoted shelf
Agrees shelf (Err (refuses r)) = NoneNoted shelf
Agrees shelf (Err (misses word)) = shelf.new.failed ≡ shelf.old.failed ++ word ∷ []

-- this was appended, if the sink reveals what was written
abbrev pub Gains : Change SinkState → List ℕ → Type 0
Gains sink appended = Grows sink.old.written sink.new.written appended

-- an outcome that is no text has a line, and it was appended; what is appended for a text is said by the headline
abbrev pub GainsLine : Change SinkState → FormOutcome → Type 0
GainsLine sink (Ok text) = Unit {0}
GainsLine sink (Err (refuses r)) = Gains sink (refusal_line r.word r.refusal)
GainsLine sink (Err (misses word)) = Gains sink (unreadable_line word)

-- the answer is the one that is due. Words of no form get the usage line. If the form and the files
-- are known, each outcome that the stages may have, and that agrees with the names noted, gives its
-- status and its line
pub record IsDue (form : Option FormValue) (shelf : Change ShelfState) (sink : Change SinkState) (status : Status) : Type 0 where
  pub usage : form ≡ None → (status ≡ how.Usage) × Gains sink usage_line
  pub stages : (k : IsKnown form shelf.old) (o : FormOutcome) → form_answer (Some k.files) k.f o → Agrees shelf o →
      (status ≡ status_of o) × GainsLine sink o

-- if the sink did not fail, the answer is the one that is due, or memory ran out
abbrev pub Exactly : Option FormValue → Change ShelfState → Change SinkState → Status → Type 0
Exactly form shelf sink status = NoFault sink → IsDue form shelf sink status ⊎ (status ≡ how.NoMemory)

-- a world whose atoms are of elements with these names, and of which nothing is refused
pub record IsGoodWorld (files : List File) (word : List ℕ) (names : List (List ℕ)) (world : WorldValue) : Type 0 where
  pub draft : DraftValue
  pub has_draft : draft_of (Some files) word (Ok (world_draft draft))
  pub has_names : world_with_names names draft ≡ Ok world

-- a world with its elements of which nothing is refused
pub record IsGoodReady {X : Type 0} (elements : X → ElementsValue) (IsTold : X → Type 0) (files : List File) (word : List ℕ) (world : WorldValue) : Type 0 where
  pub given : X
  pub is_told : IsTold given
  pub good : IsGoodWorld files word (elements given).names world

-- a world with the elements of a set, and a report of it, of which nothing is refused
pub record HasGoodReport (files : List File) (words : ReportWords) : Type 0 where
  pub world : WorldValue
  pub journal : Entries
  pub ready : IsGoodReady source_elements (IsSet files words.elements) files words.world world
  pub has_journal : journal_of (Some files) words.report world (Ok journal)

-- the same of a chain: with its elements, and with its elements and a report
pub record IsGoodChain (files : List File) (word : List ℕ) (names : List (List ℕ)) (chain : ChainValue) : Type 0 where
  pub draft : ChainDraft
  pub has_draft : draft_of (Some files) word (Ok (chain_draft draft))
  pub has_names : chain_with_names names draft ≡ Ok chain

pub record IsGoodReadyChain {X : Type 0} (elements : X → ElementsValue) (IsTold : X → Type 0) (files : List File) (word : List ℕ) (chain : ChainValue) : Type 0 where
  pub given : X
  pub is_told : IsTold given
  pub good : IsGoodChain files word (elements given).names chain

pub record HasGoodLegs (files : List File) (words : ReportWords) : Type 0 where
  pub chain : ChainValue
  pub said : List LegSaid
  pub ready : IsGoodReadyChain source_elements (IsSet files words.elements) files words.world chain
  pub has_legs : legs_of (Some files) words.report (chain_with chain (source_elements ready.given)) (Ok said)

-- a good world or a good chain, with its elements, and with a report
abbrev pub IsGoodSetting : {X : Type 0} → (X → ElementsValue) → (X → Type 0) → List File → List ℕ → Type 0
IsGoodSetting elements IsTold files word = ((w : WorldValue) × IsGoodReady elements IsTold files word w) ⊎ ((c : ChainValue) × IsGoodReadyChain elements IsTold files word c)

abbrev pub IsGoodReport : List File → ReportWords → Type 0
IsGoodReport files words = HasGoodReport files words ⊎ HasGoodLegs files words

abbrev pub IsGoodRewind : List File → ReportWords → ℕ → Type 0
IsGoodRewind files words k = ((good : HasGoodReport files words) × (k ≤ length good.journal.records)) ⊎ ((good : HasGoodLegs files words) × (k ≤ events_in good.said))

-- files of a form of which nothing is refused
abbrev pub IsGood : List File → FormValue → Type 0
IsGood files (check words) = (set : SetValue) × IsSet files words set
IsGood files (code words) = (set : SetValue) × IsSet files words set
IsGood files (pack words) = (set : SetValue) × IsSet files words set
IsGood files (run world words) = IsGoodSetting source_elements (IsSet files words) files world
IsGood files (step world words) = IsGoodSetting source_elements (IsSet files words) files world
IsGood files (replay world journal words) = IsGoodReport files (report_words world journal words)
IsGood files (gen number) = Unit {0}
IsGood files (audit world report words) = IsGoodReport files (report_words world report words)
IsGood files (rewind world report k words) = IsGoodRewind files (report_words world report words) k
IsGood files (steppack world file) = IsGoodSetting code_elements (IsCodeFile files file) files world
IsGood files (runpack world file) = IsGoodSetting code_elements (IsCodeFile files file) files world

-- completeness: good files of a form, and counts that stay, give Done, or running out of memory
abbrev pub Complete : Option FormValue → Change ShelfState → Change SinkState → Status → Type 0
Complete form shelf sink status =
    (k : IsKnown form shelf.old) → IsGood k.files k.f → NoneNoted shelf → NoFault sink →
    (status ≡ how.Done) ⊎ (status ≡ how.NoMemory)

-- the file words of a form
abbrev pub file_words : FormValue → List (List ℕ)
file_words (check words) = words
file_words (code words) = words
file_words (pack words) = words
file_words (run world words) = world ∷ words
file_words (step world words) = world ∷ words
file_words (replay world journal words) = world ∷ journal ∷ words
file_words (gen number) = []
file_words (audit world report words) = world ∷ report ∷ words
file_words (rewind world report k words) = world ∷ report ∷ words
file_words (steppack world file) = world ∷ file ∷ []
file_words (runpack world file) = world ∷ file ∷ []

-- it is one of the words
abbrev pub IsWordOf : List (List ℕ) → List ℕ → Type 0
IsWordOf [] word = ⊥
IsWordOf (w ∷ words) word = (word ≡ w) ⊎ IsWordOf words word

-- one name was noted: a file word of the form, whose load might fail, and the status is one of three
pub record NotedOne (form : Option FormValue) (shelf : Change ShelfState) (status : Status) : Type 0 where
  pub f : FormValue
  pub form_is : form ≡ Some f
  pub word : List ℕ
  pub is_word : IsWordOf (file_words f) word
  pub noted : shelf.new.failed ≡ shelf.old.failed ++ word ∷ []
  pub cause : shelf.old.may_fail word
  pub status_is : (status ≡ how.Unreadable) ⊎ ((status ≡ how.SinkFault) ⊎ (status ≡ how.NoMemory))

-- no name was noted, or one
abbrev pub Noted : Option FormValue → Change ShelfState → Status → Type 0
Noted form shelf status = NoneNoted shelf ⊎ NotedOne form shelf status

-- what a shelf and a sink in memory hold
pub record BothHeld : Type 0 where
  pub shelf : ShelfHeld
  pub sink : SinkHeld

abbrev pub both_held : ShelfHeld → SinkHeld → BothHeld
both_held shelf sink = record { shelf = shelf; sink = sink }

-- what a call changes of them, as of any shelf and of any sink
abbrev pub shelf_change : BothHeld → BothHeld → Change ShelfState
shelf_change old new = change mem_shelf_state old.shelf new.shelf

abbrev pub sink_change : BothHeld → BothHeld → Change SinkState
sink_change old new = change mem_sink_state old.sink new.sink

-- how a call over them ends
abbrev pub EndsInMemory : Option FormValue → BothHeld → BothHeld → Status → Type 0
EndsInMemory form old new status = Ends form (shelf_change old new) (sink_change old new) status

-- nothing that may fail: no load and no put is listed, each file word has a file, and there is room
-- for whatever text the call comes to, and for whatever the first legs of a chain leave
pub record NothingMayFail (form : Option FormValue) (old new : BothHeld) : Type 0 where
  pub unlisted : old.shelf.fail ≡ []
  pub unstopped : old.sink.stops ≡ []
  pub there : (f : FormValue) (word : List ℕ) → form ≡ Some f → IsWordOf (file_words f) word → file_of word old.shelf.files ≢ None
  pub room : (right : Status) (text : List ℕ) → ComesTo form (shelf_change old new) right text → length text ≤ room_left old.sink
  pub legs : (f : FormValue) (c : ReadyChainValue) (legs : List Leg) → form ≡ Some f → RunsChain (Some old.shelf.files) f c → AreFirstLegs c legs → length (first_text c legs) ≤ room_left old.sink

-- no load and no put failed
pub record NoneFailed (old new : BothHeld) (status : Status) : Type 0 where
  pub loads : new.shelf.failed ≡ old.shelf.failed
  pub puts : new.sink.faults ≡ old.sink.faults
  pub status_is_not : status ≢ how.SinkFault

-- over a shelf and a sink in memory of which nothing may fail, nothing fails
abbrev pub NothingFails : Option FormValue → BothHeld → BothHeld → Status → Type 0
NothingFails form old new status = NothingMayFail form old new → NoneFailed old new status
