-- The stages that the forms are made of. A setting is what a call is about: a world, or a chain of runs of one.
use Rattle.std.specs.Prelude.{ℕ, ◌≡◌, ◌≤◌, List, [], ◌∷◌, ◌++◌, All, length, min, Option, Result, Ok, Err, slice_index_or, ◌^◌, ◌-◌, if◌then◌else◌}
use Rattle.cell_grid.specs.declared.record.Record.{Record}
use Rattle.chain_text.specs.Chain.{ChainValue}
use Rattle.chain_text.specs.Drafts.{ChainDraft}
use Rattle.chain_text.specs.Named.{chain_with_names}
use Rattle.chain_text.specs.Reading.{is_chain, read_text as read_chain_text}
use Rattle.code_file.specs.Form.{CodesValue}
use Rattle.element_set.specs.Sets.{SetValue, AcceptsFiles, RefusesFiles}
use Rattle.event_journal.specs.declared.abandoned.Abandoned.{Abandoned}
use Rattle.report_text.specs.declared.journal_fault.LineFault.{LineFault}
use Rattle.report_text.specs.declared.journal_fault.LineFault.TheVariants.{BadForm, OutOfTurn, ElsewhereThanTile, OtherThanAttempt}
use Rattle.report_text.specs.Reading.{entries_said, read_report}
use Rattle.feast_base.specs.Outside.{File, TellsBytes, TellsLonger, file_bytes}
use Rattle.feast_base.specs.declared.place.Refusal.{Refusal}
use Rattle.report_text.specs.Entries.{Entries}
use Rattle.feast_run.specs.Elements.{ElementsValue, source_elements, code_elements}
use Rattle.feast_base.specs.Stages.{Stage, and_then, gives}
use Rattle.feast_run.specs.Halting.{HaltValue, RefusedValue, decides, misses, refusal_of, refuses}
use Rattle.feast_run.specs.declared.halt.Input.TheVariants as input
use Rattle.window_sites.specs.Window.{WindowValue}
use Rattle.world_text.specs.Drafts.{DraftValue}
use Rattle.world_text.specs.Named.{WorldValue, world_with_names}
use Rattle.world_text.specs.Reading.{read_text}
use Rattle.feast_run.specs.declared.loading.TheConstants.{ELEMENT_LIMIT, JOURNAL_LIMIT, WORLD_LIMIT}

-- each of these files is no longer than an element file may be
abbrev pub AreWithin : List File → Type 0
AreWithin files = All (λ (f : File). length (file_bytes f) ≤ ELEMENT_LIMIT) files

-- a refusal of a whole file, with its place at the file's first byte
abbrev pub whole_file : ℕ → ℕ → Refusal
whole_file code value = record { code = code; place = record { file = 0; line = 1; column = 1 }; value = value }

-- a refusal of a line; places number lines up to 2^32 - 1, and no file that is loaded has more
abbrev pub at_line : ℕ → ℕ → ℕ → Refusal
at_line code line value = record { code = code; place = record { file = 0; line = min line (2 ^ 32 - 1); column = 1 }; value = value }

-- the refusal of a file that is longer than its limit
abbrev pub too_long : List ℕ → ℕ → RefusedValue
too_long word limit = refusal_of input.File word (whole_file 2 limit)

-- the refusal of a world, by its first fault's code and line
abbrev pub world_refused : List ℕ → ℕ × ℕ → RefusedValue
world_refused word fault = refusal_of input.World word (at_line fault.0 fault.1 0)

-- what is wrong with a line of a report, as a refusal of that line
abbrev pub line_refusal : ℕ → LineFault → Refusal
line_refusal line BadForm = at_line 80 line 0
line_refusal line (OutOfTurn previous) = at_line 81 line previous
line_refusal line ElsewhereThanTile = at_line 82 line 0
line_refusal line OtherThanAttempt = at_line 83 line 0

-- the refusal of a journal, by its first fault and that fault's line
abbrev pub journal_refused : List ℕ → ℕ × LineFault → RefusedValue
journal_refused word fault = refusal_of input.Journal word (line_refusal fault.0 fault.1)

-- the load of one file: its bytes, if files are known those of the first file of that name
abbrev pub load : Option (List File) → ℕ → List ℕ → Stage (List ℕ) HaltValue
load files limit word (Ok bytes) = TellsBytes files word bytes × (length bytes ≤ limit)
load files limit word (Err (refuses r)) = TellsLonger files word limit × (r ≡ too_long word limit)
load files limit word (Err (misses w)) = w ≡ word

-- the loads of the words that are left, after the files that are loaded
abbrev pub load_more : Option (List File) → List File → List (List ℕ) → Stage (List File) HaltValue
load_more files done [] = gives done
load_more files done (word ∷ words) = and_then (load files ELEMENT_LIMIT word) (λ bytes. load_more files (done ++ (word, bytes) ∷ []) words)

-- the loads of element files, in order
abbrev pub load_all : Option (List File) → List (List ℕ) → Stage (List File) HaltValue
load_all files words = load_more files [] words

-- the building of loaded element files; the word of a refusal is that of the file it is in
abbrev pub builds : List (List ℕ) → List File → Stage SetValue HaltValue
builds words sources (Ok set) = AcceptsFiles sources set
builds words sources (Err (refuses r)) = RefusesFiles sources r.refusal × (r ≡ refusal_of input.Elements (slice_index_or words r.refusal.place.file []) r.refusal)
builds words sources (Err (misses w)) = ⊥

-- the set of some element files: all are loaded before the first is read
abbrev pub set_of : Option (List File) → List (List ℕ) → Stage SetValue HaltValue
set_of files words = and_then (load_all files words) (builds words)

-- what the text of a setting says, before its atoms have types
pub data SettingDraft : Type 0 where
  world_draft : DraftValue → SettingDraft
  chain_draft : ChainDraft → SettingDraft

abbrev pub as_world : Result DraftValue (ℕ × ℕ) → Result SettingDraft (ℕ × ℕ)
as_world (Ok d) = Ok (world_draft d)
as_world (Err fault) = Err fault

abbrev pub as_chain : Result ChainDraft (ℕ × ℕ) → Result SettingDraft (ℕ × ℕ)
as_chain (Ok d) = Ok (chain_draft d)
as_chain (Err fault) = Err fault

-- what a text says, or the code of its first fault and the number of its line: its first line tells a chain from a world
abbrev pub read_setting : List ℕ → Result SettingDraft (ℕ × ℕ)
read_setting bytes = if is_chain bytes then as_chain (read_chain_text bytes) else as_world (read_text bytes)

abbrev pub draft_of : Option (List File) → List ℕ → Stage SettingDraft HaltValue
draft_of files word = and_then (load files WORLD_LIMIT word) (λ bytes. decides (world_refused word) (read_setting bytes))

-- a world, and what the elements of its atoms are called, by type number from 1, and do
pub record ReadyValue : Type 0 where
  pub world : WorldValue
  pub names : List (List ℕ)
  pub meaning : WindowValue → ℕ → WindowValue

-- a chain, and what the elements of its atoms are called, and do
pub record ReadyChainValue : Type 0 where
  pub chain : ChainValue
  pub names : List (List ℕ)
  pub meaning : WindowValue → ℕ → WindowValue

-- a setting with its elements
pub data SettingValue : Type 0 where
  a_world : ReadyValue → SettingValue
  a_chain : ReadyChainValue → SettingValue

-- a chain with elements
abbrev pub chain_with : ChainValue → ElementsValue → ReadyChainValue
chain_with c e = record { chain = c; names = e.names; meaning = e.meaning }

-- a world with elements
abbrev pub ready_with : WorldValue → ElementsValue → ReadyValue
ready_with world e = record { world = world; names = e.names; meaning = e.meaning }

-- a world with the elements of a set, which do what their source means
abbrev pub ready_of_set : WorldValue → SetValue → ReadyValue
ready_of_set world set = ready_with world (source_elements set)

-- a world with the elements of a code file, which do what their codes do
abbrev pub ready_of_codes : WorldValue → CodesValue → ReadyValue
ready_of_codes world es = ready_with world (code_elements es)

-- the names of a setting's atoms, which are of these elements
abbrev pub named_by : List ℕ → SettingDraft → ElementsValue → Stage SettingValue HaltValue
named_by word (world_draft d) e = and_then (decides (world_refused word) (world_with_names e.names d)) (λ (world : WorldValue). gives (a_world (ready_with world e)))
named_by word (chain_draft d) e = and_then (decides (world_refused word) (chain_with_names e.names d)) (λ (chain : ChainValue). gives (a_chain (chain_with chain e)))

-- the elements of a setting, which a stage gives
abbrev pub with_elements : {X : Type 0} → (X → ElementsValue) → Stage X HaltValue → List ℕ → SettingDraft → Stage SettingValue HaltValue
with_elements value S word draft = and_then S (λ x. named_by word draft (value x))

-- the elements of a setting, which are those of element files
abbrev pub with_sources : Option (List File) → List (List ℕ) → List ℕ → SettingDraft → Stage SettingValue HaltValue
with_sources files words word draft = with_elements source_elements (set_of files words) word draft

-- a setting with the elements that a stage gives
abbrev pub ready_by : {X : Type 0} → (X → ElementsValue) → Stage X HaltValue → Option (List File) → List ℕ → Stage SettingValue HaltValue
ready_by value S files word = and_then (draft_of files word) (with_elements value S word)

-- a setting with the elements of files
abbrev pub ready : Option (List File) → List ℕ → List (List ℕ) → Stage SettingValue HaltValue
ready files word words = ready_by source_elements (set_of files words) files word

-- the journal of a world in the bytes of a report
abbrev pub journal_in : List ℕ → WorldValue → List ℕ → Stage Entries HaltValue
journal_in word world bytes = decides (journal_refused word) (entries_said (read_report world.plane world.plan.lists bytes))

-- the refusal of a report that has too few events, by how many it has
abbrev pub records_refused : List ℕ → ℕ → RefusedValue
records_refused word count = refusal_of input.Journal word (whole_file 84 count)

-- the journal of a world in the text of a report
abbrev pub journal_of : Option (List File) → List ℕ → WorldValue → Stage Entries HaltValue
journal_of files word world = and_then (load files JOURNAL_LIMIT word) (journal_in word world)
