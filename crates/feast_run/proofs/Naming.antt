-- The line of a refusal names a file word of the form.
use Rattle.std.proofs.Common.{ℕ, zero, suc, ◌≡◌, ◌≤◌, ◌<◌, ◌+◌, Bool, true, false, List, [], ◌∷◌, ◌++◌, length, Option, Some, None, Result, Ok, Err, refl, sym, ap, subst, inl, inr, arith}
use Rattle.std.specs.Prelude.{if◌then◌else◌, slice_index_or}
use Rattle.std.proofs.lemmas.List.{length-append}
use Rattle.feast_base.proofs.Stages.{went}
use Rattle.feast_base.specs.Outside.{File, ShelfState, SinkState}
use Rattle.feast_base.specs.Refusals.{refusal_line, unreadable_line}
use Rattle.feast_base.specs.Stages.{Stage, and_then}
use Rattle.feast_base.specs.declared.place.Refusal.{Refusal}
use Rattle.feast_run.proofs.Missing.{form_misses}
use Rattle.feast_run.proofs.Placed.{HasPlace, line_placed, longer, placed, whole_placed}
use Rattle.feast_run.proofs.RefusedElements.{files_placed}
use Rattle.feast_run.proofs.RefusedChains.{AreChainLined, chain_lined, chain_named_refused, chain_refused, legs_refused_at}
use Rattle.feast_run.proofs.RefusedTexts.{codes_refused, journal_refused_at, line_refused}
use Rattle.feast_run.proofs.RefusedWorlds.{AreLined, IsLined, named_refused, text_lined, text_refused}
use Rattle.feast_run.proofs.SettingTexts.{is_chain_text, is_world_text}
use Rattle.feast_run.proofs.Stops.{stopped_by}
use Rattle.chain_run.specs.Reading.{LegSaid}
use Rattle.chain_run.specs.Replays.{events_in}
use Rattle.chain_text.specs.Drafts.{ChainDraft}
use Rattle.chain_text.specs.Reading.{is_chain, read_text as read_chain_text}
use Rattle.feast_run.specs.Answer.{audits_setting, form_answer, replay_of, replays_setting, rewind_of, rewinds, rewinds_setting, runs_setting, steps_setting}
use Rattle.feast_run.specs.Chains.{legs_in, rewinds_legs}
use Rattle.feast_run.specs.Audited.{audit_of}
use Rattle.feast_run.specs.Changes.{Change}
use Rattle.feast_run.specs.CodeFiles.{codes_from, codes_in, ready_packed}
use Rattle.feast_run.specs.Elements.{ElementsValue, code_elements, source_elements}
use Rattle.feast_run.specs.Ending.{Ends, Stopped, Whole, status_of, status_of_input, text_of}
use Rattle.call_form.specs.Forms.{FormValue, check, code, pack, run, step, replay, gen, audit, rewind, steppack, runpack}
use Rattle.feast_run.specs.Generating.{own_set, summarizes}
use Rattle.feast_run.specs.Halting.{FormOutcome, HaltValue, RefusedValue, misses, refusal_of, refuses}
use Rattle.feast_run.specs.Naming.{IsAboutFile, Names, NamesFile, NamesIt, words_at}
use Rattle.feast_run.specs.Promises.{Gains, IsWordOf}
use Rattle.feast_run.specs.Stages.{ReadyChainValue, ReadyValue, SettingDraft, SettingValue, a_chain, a_world, as_chain, as_world, at_line, builds, chain_draft, draft_of, journal_in, journal_of, line_refusal, load, load_more, named_by, read_setting, ready, ready_by, set_of, whole_file, with_elements, world_draft}
use Rattle.feast_run.specs.declared.halt.Input.{Input}
use Rattle.feast_run.specs.declared.halt.Input.TheVariants as input
use Rattle.feast_run.specs.declared.status.Status.{Status}
use Rattle.world_text.specs.Drafts.{DraftValue}
use Rattle.world_text.specs.Named.{WorldValue}
use Rattle.world_text.specs.Reading.{read_text}
use Rattle.feast_run.specs.declared.loading.TheConstants.{CODE_LIMIT, ELEMENT_LIMIT, JOURNAL_LIMIT, WORLD_LIMIT}

-- which words are those of files that may be refused, by what is refused
abbrev MayName : Type 1
MayName = Input → List ℕ → Type 0

-- a refusal whose line names such a word
abbrev IsNamed : MayName → RefusedValue → Type 0
IsNamed W r = W r.input r.word × NamesIt (status_of_input r.input) r.word (refusal_line r.word r.refusal)

-- each refusal of a stage is such a one
abbrev AllNamed : {A : Type 0} → MayName → Stage A HaltValue → Type 0
AllNamed W S = (r : RefusedValue) → S (Err (refuses r)) → IsNamed W r

-- a stage, and then one for each value that it may pass with
then_named : {A B : Type 0} (W : MayName) (S : Stage A HaltValue) (T : A → Stage B HaltValue) → AllNamed W S → ((a : A) → S (Ok a) → AllNamed W (T a)) → AllNamed W (and_then S T)
then_named W S T f g = λ r p. elim p [ inl halt ↦ f r halt | inr k ↦ g k.value k.passed r k.rest ]

-- what is refused at a place
abbrev IsAtPlace : Input → Type 0
IsAtPlace input.File = ⊥
IsAtPlace i = Unit {0}

named_at : (W : MayName) (i : Input) (word : List ℕ) (e : Refusal) → IsAtPlace i → W i word → HasPlace e → IsNamed W (refusal_of i word e)
named_at W input.File word e never w h = absurd never
named_at W input.Elements word e is w h = (w, placed word e h)
named_at W input.World word e is w h = (w, placed word e h)
named_at W input.Journal word e is w h = (w, placed word e h)
named_at W input.Codes word e is w h = (w, placed word e h)

-- A load

load_named : (W : MayName) (files : Option (List File)) (limit : ℕ) (word : List ℕ) → W input.File word → AllNamed W (load files limit word)
load_named W files limit word w = λ r h. subst (IsNamed W) (sym h.1) (w, inr (limit, longer word limit))

-- Element files

-- each of these words may be named
abbrev AllMay : MayName → Input → List (List ℕ) → Type 0
AllMay W i words = (word : List ℕ) → IsWordOf words word → W i word

loads_named : (W : MayName) (files : Option (List File)) (done : List File) (words : List (List ℕ)) → AllMay W input.File words → AllNamed W (load_more files done words)
loads_named W files done [] may = λ r h. absurd h
loads_named W files done (word ∷ words) may =
    then_named W (load files ELEMENT_LIMIT word) (λ bytes. load_more files (done ++ (word, bytes) ∷ []) words) (load_named W files ELEMENT_LIMIT word (may word (inl refl)))
    (λ bytes h. loads_named W files (done ++ (word, bytes) ∷ []) words (λ w is. may w (inr is)))

loads_many : (files : Option (List File)) (done : List File) (words : List (List ℕ)) (sources : List File) → load_more files done words (Ok sources) → length sources ≡ length done + length words
loads_many files done [] sources h = omega (arith, ap length h)
loads_many files done (word ∷ words) sources h =
    let g = went (load files ELEMENT_LIMIT word) (λ bytes. load_more files (done ++ (word, bytes) ∷ []) words) sources h in
    let rest = loads_many files (done ++ (word, g.value) ∷ []) words sources g.rest in
    omega (arith, rest, length-append done ((word, g.value) ∷ []))

word_there : (words : List (List ℕ)) (k : ℕ) → k < length words → IsWordOf words (slice_index_or words k [])
word_there [] k h = absurd (omega (arith, h))
word_there (w ∷ words) zero h = inl refl
word_there (w ∷ words) (suc k) h = inr (word_there words k (omega (arith, h)))

builds_named : (W : MayName) (words : List (List ℕ)) (sources : List File) → length sources ≡ length words → AllMay W input.Elements words → AllNamed W (builds words sources)
builds_named W words sources many may = λ r h.
    let is = files_placed sources r.refusal h.0 in
    let there = word_there words r.refusal.place.file (omega (arith, is.file, many)) in
    subst (IsNamed W) (sym h.1) (named_at W input.Elements (slice_index_or words r.refusal.place.file []) r.refusal tt (may _ there) is.has)

set_named : (W : MayName) (files : Option (List File)) (words : List (List ℕ)) → AllMay W input.File words → AllMay W input.Elements words → AllNamed W (set_of files words)
set_named W files words load_may may =
    then_named W (load_more files [] words) (builds words) (loads_named W files [] words load_may)
    (λ sources h. builds_named W words sources (omega (arith, loads_many files [] words sources h)) may)

-- A code file

codes_in_named : (W : MayName) (word bytes : List ℕ) → W input.Codes word → AllNamed W (codes_in word bytes)
codes_in_named W word bytes w = λ r h.
    let is = codes_refused word bytes h.0 r h.1 h.2 in
    subst (IsNamed W) (sym is.is) (named_at W input.Codes word is.refusal tt w is.place)

codes_named : (W : MayName) (files : Option (List File)) (word : List ℕ) → W input.File word → W input.Codes word → AllNamed W (codes_from files word)
codes_named W files word load_may may = then_named W (load files CODE_LIMIT word) (codes_in word) (load_named W files CODE_LIMIT word load_may) (λ bytes h. codes_in_named W word bytes may)

-- A world

line_named : (W : MayName) (word : List ℕ) (r : RefusedValue) (number line : ℕ) → W input.World word → 3 ≤ number → 1 ≤ line → r ≡ refusal_of input.World word (at_line number line 0) → IsNamed W r
line_named W word r number line w shown some is = subst (IsNamed W) (sym is) (named_at W input.World word (at_line number line 0) tt w (line_placed number line 0 shown some))

-- the fault of a setting's text, by which of the two it is
setting_refused : (bytes : List ℕ) (f : ℕ × ℕ) → read_setting bytes ≡ Err f → IsLined f
setting_refused bytes f h = on (is_chain bytes) h
  where
    world : (r : Result DraftValue (ℕ × ℕ)) → read_text bytes ≡ r → as_world r ≡ Err f → IsLined f
    world (Ok d) is g = cc
    world (Err e) is g = let same : e ≡ f = cc in subst IsLined same (text_refused bytes e is)

    chain : (r : Result ChainDraft (ℕ × ℕ)) → read_chain_text bytes ≡ r → as_chain r ≡ Err f → IsLined f
    chain (Ok d) is g = cc
    chain (Err e) is g = let same : e ≡ f = cc in subst IsLined same (chain_refused bytes e is)

    on : (b : Bool) → if◌then◌else◌ {A = Result SettingDraft (ℕ × ℕ)} b (as_chain (read_chain_text bytes)) (as_world (read_text bytes)) ≡ Err f → IsLined f
    on true g = chain (read_chain_text bytes) refl g
    on false g = world (read_text bytes) refl g

draft_named : (W : MayName) (files : Option (List File)) (word : List ℕ) → W input.File word → W input.World word → AllNamed W (draft_of files word)
draft_named W files word load_may may =
    then_named W (load files WORLD_LIMIT word) _ (load_named W files WORLD_LIMIT word load_may)
    (λ bytes loaded r h. let at = setting_refused bytes h.0 h.1 in line_named W word r h.0.0 h.0.1 may at.code at.line h.2)

-- the lines of a draft's atoms and acts
abbrev IsLinedDraft : SettingDraft → Type 0
IsLinedDraft (world_draft d) = AreLined d
IsLinedDraft (chain_draft d) = AreChainLined d

setting_lined : (bytes : List ℕ) (d : SettingDraft) → read_setting bytes ≡ Ok d → IsLinedDraft d
setting_lined bytes (world_draft d) h = text_lined bytes d (is_world_text bytes d h).1
setting_lined bytes (chain_draft d) h = chain_lined bytes d (is_chain_text bytes d h).1

draft_lined : (files : Option (List File)) (word : List ℕ) (d : SettingDraft) → draft_of files word (Ok d) → IsLinedDraft d
draft_lined files word d h = let g = went (load files WORLD_LIMIT word) _ d h in setting_lined g.value d g.rest

named_named : (W : MayName) (word : List ℕ) (d : SettingDraft) (e : ElementsValue) → IsLinedDraft d → W input.World word → AllNamed W (named_by word d e)
named_named W word (world_draft d) e lined may =
    then_named W _ _ (λ r h. let at = named_refused e.names d h.0 lined h.1 in line_named W word r h.0.0 h.0.1 may at.code at.line h.2) (λ world is r h. absurd h)
named_named W word (chain_draft d) e lined may =
    then_named W _ _ (λ r h. let at = chain_named_refused e.names d h.0 lined h.1 in line_named W word r h.0.0 h.0.1 may at.code at.line h.2) (λ chain is r h. absurd h)

with_named : {X : Type 0} (W : MayName) (elements : X → ElementsValue) (S : Stage X HaltValue) (word : List ℕ) (d : SettingDraft) → IsLinedDraft d → W input.World word → AllNamed W S → AllNamed W (with_elements elements S word d)
with_named W elements S word d lined may all = then_named W S (λ x. named_by word d (elements x)) all (λ x passed. named_named W word d (elements x) lined may)

ready_named : {X : Type 0} (W : MayName) (elements : X → ElementsValue) (S : Stage X HaltValue) (files : Option (List File)) (word : List ℕ) → W input.File word → W input.World word → AllNamed W S → AllNamed W (ready_by elements S files word)
ready_named W elements S files word load_may may all =
    then_named W (draft_of files word) (with_elements elements S word) (draft_named W files word load_may may)
    (λ d h. with_named W elements S word d (draft_lined files word d h) may all)

packed_named : (W : MayName) (files : Option (List File)) (world file : List ℕ) → W input.File world → W input.World world → AllNamed W (codes_from files file) → AllNamed W (ready_packed files world file)
packed_named W files world file load_may may all = ready_named W code_elements (codes_from files file) files world load_may may all

-- the words of a world and of its element files may be named
record SourcesMay (W : MayName) (world : List ℕ) (words : List (List ℕ)) : Type 0 where
  load : W input.File world
  own : W input.World world
  loads : AllMay W input.File words
  elements : AllMay W input.Elements words

sources_named : (W : MayName) (files : Option (List File)) (world : List ℕ) (words : List (List ℕ)) → SourcesMay W world words → AllNamed W (ready files world words)
sources_named W files world words may = ready_named W source_elements (set_of files words) files world may.load may.own (set_named W files words may.loads may.elements)

-- A journal

journal_in_named : (W : MayName) (word : List ℕ) (world : WorldValue) (bytes : List ℕ) → W input.Journal word → AllNamed W (journal_in word world bytes)
journal_in_named W word world bytes may = λ r h.
    let some = journal_refused_at world.plane world.plan.lists bytes h.0 h.1 in
    subst (IsNamed W) (sym h.2) (named_at W input.Journal word (line_refusal h.0.0 h.0.1) tt may (line_refused h.0.0 h.0.1 some))

journal_named : (W : MayName) (files : Option (List File)) (word : List ℕ) (world : WorldValue) → W input.File word → W input.Journal word → AllNamed W (journal_of files word world)
journal_named W files word world load_may may =
    then_named W (load files JOURNAL_LIMIT word) (journal_in word world) (load_named W files JOURNAL_LIMIT word load_may) (λ bytes h. journal_in_named W word world bytes may)

replay_named : (W : MayName) (files : Option (List File)) (word : List ℕ) (r : ReadyValue) → W input.File word → W input.Journal word → AllNamed W (replay_of files word r)
replay_named W files word r load_may may = then_named W (journal_of files word r.world) _ (journal_named W files word r.world load_may may) (λ j h s never. absurd never)

audit_named : (W : MayName) (files : Option (List File)) (word : List ℕ) (r : ReadyValue) → W input.File word → W input.Journal word → AllNamed W (audit_of files word r)
audit_named W files word r load_may may =
    then_named W (load files JOURNAL_LIMIT word) _ (load_named W files JOURNAL_LIMIT word load_may)
    (λ bytes h. then_named W (journal_in word r.world bytes) _ (journal_in_named W word r.world bytes may) (λ j is s never. absurd never))

rewind_named : (W : MayName) (files : Option (List File)) (word : List ℕ) (k : ℕ) (r : ReadyValue) → W input.File word → W input.Journal word → AllNamed W (rewind_of files word k r)
rewind_named W files word k r load_may may =
    then_named W (journal_of files word r.world) (rewinds word k r) (journal_named W files word r.world load_may may)
    (λ j h s is. subst (IsNamed W) (sym is.1) (named_at W input.Journal word (whole_file 84 (length j.records)) tt may (whole_placed 84 (length j.records) (omega arith))))

-- The reports of legs

legs_in_named : (W : MayName) (word : List ℕ) (c : ReadyChainValue) (bytes : List ℕ) → W input.Journal word → AllNamed W (legs_in word c bytes)
legs_in_named W word c bytes may = λ r h.
    let some = legs_refused_at c.chain bytes h.0 h.1 in
    subst (IsNamed W) (sym h.2) (named_at W input.Journal word (line_refusal h.0.0 h.0.1) tt may (line_refused h.0.0 h.0.1 some))

-- loaded, and then a stage of what they say
legs_named : (W : MayName) (files : Option (List File)) (word : List ℕ) (c : ReadyChainValue) (T : List LegSaid → Stage (List ℕ) HaltValue) → W input.File word → W input.Journal word → ((said : List LegSaid) → AllNamed W (T said)) →
    AllNamed W (and_then (load files JOURNAL_LIMIT word) (λ bytes. and_then (legs_in word c bytes) T))
legs_named W files word c T load_may may all =
    then_named W (load files JOURNAL_LIMIT word) _ (load_named W files JOURNAL_LIMIT word load_may)
    (λ bytes h. then_named W (legs_in word c bytes) T (legs_in_named W word c bytes may) (λ said is. all said))

-- What is done with a setting

runs_named : (W : MayName) (v : SettingValue) → AllNamed W (runs_setting v)
runs_named W (a_world r) = λ s never. absurd never
runs_named W (a_chain c) = λ s never. absurd never

steps_named : (W : MayName) (v : SettingValue) → AllNamed W (steps_setting v)
steps_named W (a_world r) = λ s never. absurd never
steps_named W (a_chain c) = λ s never. absurd never

replays_named : (W : MayName) (files : Option (List File)) (word : List ℕ) (v : SettingValue) → W input.File word → W input.Journal word → AllNamed W (replays_setting files word v)
replays_named W files word (a_world r) load_may may = replay_named W files word r load_may may
replays_named W files word (a_chain c) load_may may = legs_named W files word c _ load_may may (λ said s never. absurd never)

audits_named : (W : MayName) (files : Option (List File)) (word : List ℕ) (v : SettingValue) → W input.File word → W input.Journal word → AllNamed W (audits_setting files word v)
audits_named W files word (a_world r) load_may may = audit_named W files word r load_may may
audits_named W files word (a_chain c) load_may may = legs_named W files word c _ load_may may (λ said s never. absurd never)

rewinds_named : (W : MayName) (files : Option (List File)) (word : List ℕ) (k : ℕ) (v : SettingValue) → W input.File word → W input.Journal word → AllNamed W (rewinds_setting files word k v)
rewinds_named W files word k (a_world r) load_may may = rewind_named W files word k r load_may may
rewinds_named W files word k (a_chain c) load_may may =
    legs_named W files word c (rewinds_legs word k c) load_may may
    (λ said s is. subst (IsNamed W) (sym is.1) (named_at W input.Journal word (whole_file 84 (events_in said)) tt may (whole_placed 84 (events_in said) (omega arith))))

-- Each form

-- the words that a form may name
abbrev MayNameOf : FormValue → MayName
MayNameOf form i word = IsWordOf (words_at (status_of_input i) form) word

run_may : (world : List ℕ) (words : List (List ℕ)) → SourcesMay (MayNameOf (run world words)) world words
run_may world words = record { load = inl refl; own = inl refl; loads = λ w h. inr h; elements = λ w h. h }

step_may : (world : List ℕ) (words : List (List ℕ)) → SourcesMay (MayNameOf (step world words)) world words
step_may world words = record { load = inl refl; own = inl refl; loads = λ w h. inr h; elements = λ w h. h }

replay_may : (world journal : List ℕ) (words : List (List ℕ)) → SourcesMay (MayNameOf (replay world journal words)) world words
replay_may world journal words = record { load = inl refl; own = inl refl; loads = λ w h. inr (inr h); elements = λ w h. h }

audit_may : (world report : List ℕ) (words : List (List ℕ)) → SourcesMay (MayNameOf (audit world report words)) world words
audit_may world report words = record { load = inl refl; own = inl refl; loads = λ w h. inr (inr h); elements = λ w h. h }

rewind_may : (world report : List ℕ) (k : ℕ) (words : List (List ℕ)) → SourcesMay (MayNameOf (rewind world report k words)) world words
rewind_may world report k words = record { load = inl refl; own = inl refl; loads = λ w h. inr (inr h); elements = λ w h. h }

form_named : (files : Option (List File)) (form : FormValue) → AllNamed (MayNameOf form) (form_answer files form)
form_named files (check words) = then_named (MayNameOf (check words)) (set_of files words) _ (set_named _ files words (λ w h. h) (λ w h. h)) (λ set h r never. absurd never)
form_named files (code words) = then_named (MayNameOf (code words)) (set_of files words) _ (set_named _ files words (λ w h. h) (λ w h. h)) (λ set h r never. absurd never)
form_named files (pack words) = then_named (MayNameOf (pack words)) (set_of files words) _ (set_named _ files words (λ w h. h) (λ w h. h)) (λ set h r never. absurd never)
form_named files (run world words) =
    let W = MayNameOf (run world words) in
    then_named W (ready files world words) runs_setting (sources_named W files world words (run_may world words)) (λ v h. runs_named W v)
form_named files (step world words) =
    let W = MayNameOf (step world words) in
    then_named W (ready files world words) steps_setting (sources_named W files world words (step_may world words)) (λ v h. steps_named W v)
form_named files (replay world journal words) =
    let W = MayNameOf (replay world journal words) in
    then_named W (ready files world words) (replays_setting files journal) (sources_named W files world words (replay_may world journal words)) (λ v h. replays_named W files journal v (inr (inl refl)) (inl refl))
form_named files (gen number) = then_named (MayNameOf (gen number)) own_set (summarizes number) (λ r never. absurd never) (λ set h r never. absurd never)
form_named files (audit world report words) =
    let W = MayNameOf (audit world report words) in
    then_named W (ready files world words) (audits_setting files report) (sources_named W files world words (audit_may world report words)) (λ v h. audits_named W files report v (inr (inl refl)) (inl refl))
form_named files (rewind world report k words) =
    let W = MayNameOf (rewind world report k words) in
    then_named W (ready files world words) (rewinds_setting files report k) (sources_named W files world words (rewind_may world report k words)) (λ v h. rewinds_named W files report k v (inr (inl refl)) (inl refl))
form_named files (steppack world file) =
    let W = MayNameOf (steppack world file) in
    then_named W (ready_packed files world file) steps_setting (packed_named W files world file (inl refl) (inl refl) (codes_named W files file (inr (inl refl)) (inl refl))) (λ v h. steps_named W v)
form_named files (runpack world file) =
    let W = MayNameOf (runpack world file) in
    then_named W (ready_packed files world file) runs_setting (packed_named W files world file (inl refl) (inl refl) (codes_named W files file (inr (inl refl)) (inl refl))) (λ v h. runs_named W v)

-- a call that put its text whole
outcome_names : (f : FormValue) (shelf : Change ShelfState) (sink : Change SinkState) (o : FormOutcome) (status : Status) (text : List ℕ) → form_answer shelf.old.files f o → status ≡ status_of o → text ≡ text_of o → Gains sink text →
    IsAboutFile status → NamesFile (Some f) sink status
outcome_names f shelf sink (Ok t) status text h s e put about = absurd (subst IsAboutFile s about)
outcome_names f shelf sink (Err (refuses r)) status text h s e put about =
    let named = form_named shelf.old.files f r h in
    let is = sym s in
    record {
      f = f;
      form_is = refl;
      word = r.word;
      is_word = subst (λ (v : Status). IsWordOf (words_at v f) r.word) is named.0;
      line = refusal_line r.word r.refusal;
      names = subst (λ (v : Status). NamesIt v r.word (refusal_line r.word r.refusal)) is named.1;
      put = subst (λ (v : List ℕ). Gains sink v) e put;
    }
outcome_names f shelf sink (Err (misses w)) status text h s e put about =
    let is = sym s in
    record {
      f = f;
      form_is = refl;
      word = w;
      is_word = subst (λ (v : Status). IsWordOf (words_at v f) w) is (form_misses shelf.old.files f w h);
      line = unreadable_line w;
      names = subst (λ (v : Status). NamesIt v w (unreadable_line w)) is (inl refl);
      put = subst (λ (v : List ℕ). Gains sink v) e put;
    }

whole_names : (form : Option FormValue) (shelf : Change ShelfState) (sink : Change SinkState) (status : Status) → Whole form shelf sink status → Names form sink status
whole_names None shelf sink status whole = λ about. absurd (subst IsAboutFile whole.comes.status_is about)
whole_names (Some f) shelf sink status whole = λ about. outcome_names f shelf sink whole.comes.outcome status whole.text whole.comes.comes whole.comes.status_is whole.comes.text_is whole.put.grows about

not_about : {form : Option FormValue} {shelf : Change ShelfState} {sink : Change SinkState} {status : Status} → Stopped form shelf sink status → IsAboutFile status → ⊥
not_about s about = elim (stopped_by s) [ inl e ↦ subst IsAboutFile e about | inr e ↦ subst IsAboutFile e about ]

-- which file a refusal names, from how a call ends
pub names_of : (form : Option FormValue) (shelf : Change ShelfState) (sink : Change SinkState) (status : Status) → Ends form shelf sink status → Names form sink status
names_of form shelf sink status ends =
    elim ends [
      | inl whole ↦ whole_names form shelf sink status whole
      | inr rest ↦ elim rest [
        | inl b ↦ (λ about. absurd (subst IsAboutFile b.status_is about))
        | inr last ↦ elim last [ inl w ↦ (λ about. absurd (subst IsAboutFile w.status_is about)) | inr s ↦ (λ about. absurd (not_about s about)) ]
      ]
    ]
