-- What a form that showed a text is known to have shown.
use Rattle.std.proofs.Common.{ℕ, ◌≡◌, List, Some, ap, subst, ◌∙◌, inl, inr, Ok}
use Rattle.element_set.specs.Sets.{SetValue, check_text, code_text}
use Rattle.feast_base.specs.Outside.{File}
use Rattle.event_journal.specs.Logs.{abandoned_in, records_in}
use Rattle.report_text.specs.Entries.{Entries}
use Rattle.feast_run.proofs.Again.{replays_to}
use Rattle.feast_run.proofs.CodeStages.{codes_are}
use Rattle.feast_run.proofs.LegsAgain.{lone_events, lone_text, only_if, yes_if}
use Rattle.feast_base.proofs.Stages.{went}
use Rattle.feast_run.proofs.Runs.{ReadyChainTold, ReadyTold, SettingTold, ready_told, set_is}
use Rattle.feast_run.proofs.Sound.{AreSound, codes_sound, set_sound}
use Rattle.chain_run.specs.Chains.{AreLegsOf}
use Rattle.chain_run.specs.Reading.{LegSaid, read_chain}
use Rattle.feast_run.specs.Answer.{audits_setting, form_answer, replay_of, replays_setting, rewind_of, rewinds_setting, runs_setting, shows, steps_setting}
use Rattle.feast_run.specs.Chains.{ReportsLegs, are_stepped, audit_legs_of, replay_legs_of, rewind_legs_of, stepped_text}
use Rattle.feast_run.specs.Audited.{audit_of}
use Rattle.feast_run.specs.CodeFiles.{codes_from}
use Rattle.feast_run.specs.Elements.{ElementsValue, code_elements, source_elements}
use Rattle.feast_run.specs.Packed.{pack_text}
use Rattle.call_form.specs.Forms.{FormValue, check, code, pack, run, step, replay, gen, audit, rewind, steppack, runpack}
use Rattle.feast_run.specs.Generating.{generates}
use Rattle.feast_base.specs.Stages.{Stage, and_then}
use Rattle.feast_run.specs.Halting.{HaltValue}
use Rattle.feast_run.specs.Told.{AuditShown, GenTold, IsCodeFile, IsSet, KnownLegs, KnownReport, ReplayShown, ReportWords, RewindShown, RunShown, SetTold, Shows, StepShown, report_words}
use Rattle.feast_run.specs.Owing.{Reports}
use Rattle.feast_run.specs.Stages.{ReadyChainValue, ReadyValue, SettingValue, a_chain, a_world, journal_in, load, ready_by, ready_with, set_of}
use Rattle.feast_run.specs.Stepped.{IsSteppedRun, machine_of, stepped_logs, stepped_report}
use Rattle.feast_run.proofs.GeneratedSource.Accepted.{two_names}
use Rattle.feast_run.specs.declared.loading.TheConstants.{JOURNAL_LIMIT}

-- a form of element files that showed a text, part by part
set_told : (text : SetValue → List ℕ) (files : List File) (words : List (List ℕ)) (appended : List ℕ) → and_then (set_of (Some files) words) (shows text) (Ok appended) → SetTold text files words appended
set_told text files words appended h =
    let s = went _ _ appended h in
    record { set = s.value; is_set = set_is files words s.value s.passed; shown = s.rest }

-- elements that are told come of a stage, and what they do is right
pub record AreTold {X : Type 0} (elements : X → ElementsValue) (S : Stage X HaltValue) (IsTold : X → Type 0) : Type 0 where
  pub told : (x : X) → S (Ok x) → IsTold x
  pub sound : (x : X) → IsTold x → AreSound (elements x)

sources_told : (files : List File) (words : List (List ℕ)) → AreTold source_elements (set_of (Some files) words) (IsSet files words)
sources_told files words = record { told = set_is files words; sound = set_sound files words }

codes_told : (files : List File) (file : List ℕ) → AreTold code_elements (codes_from (Some files) file) (IsCodeFile files file)
codes_told files file = record { told = codes_are files file; sound = codes_sound files file }

-- a run that showed a text, part by part
ran_told : {X : Type 0} (elements : X → ElementsValue) (S : Stage X HaltValue) (IsTold : X → Type 0) (files : List File) (world text : List ℕ) (v : SettingValue) → AreTold elements S IsTold → SettingTold elements S files world v → runs_setting v (Ok text) → RunShown elements IsTold files world text
ran_told elements S IsTold files world text (a_world r) are s h =
    let is_told = are.told s.given s.passed in
    let reports = subst (λ (v : ReadyValue). Reports v text) s.is h in
    inl (record {
      world = s.world;
      given = s.given;
      is_told = is_told;
      told_world = s.told;
      reports = reports;
      replays = replays_to files world s.world (elements s.given) reports.grid reports.records reports.abandoned text (are.sound s.given is_told) s.told reports.run reports.shown;
    })
ran_told elements S IsTold files world text (a_chain c) are s h =
    let reports = subst (λ (v : ReadyChainValue). ReportsLegs v text) s.is h in
    inr (record {
      chain = s.chain;
      given = s.given;
      is_told = are.told s.given s.passed;
      told_chain = s.told;
      reports = reports;
      lone = lone_text files world text s.chain (elements s.given) reports.legs s.told reports.are reports.shown;
      alone = lone_events files world s.chain (elements s.given) reports.legs s.told reports.are;
    })

run_told : {X : Type 0} (elements : X → ElementsValue) (S : Stage X HaltValue) (IsTold : X → Type 0) (files : List File) (world text : List ℕ) → AreTold elements S IsTold → and_then (ready_by elements S (Some files) world) runs_setting (Ok text) → RunShown elements IsTold files world text
run_told elements S IsTold files world text are h =
    let v = went _ _ text h in
    ran_told elements S IsTold files world text v.value are (ready_told elements S files world v.value v.passed) v.rest

-- a stepped run that showed a text, part by part
stepped_told : {X : Type 0} (elements : X → ElementsValue) (S : Stage X HaltValue) (IsTold : X → Type 0) (files : List File) (world text : List ℕ) (v : SettingValue) → AreTold elements S IsTold → SettingTold elements S files world v → steps_setting v (Ok text) → StepShown elements IsTold files world text
stepped_told elements S IsTold files world text (a_world r) are s h =
    let is_told = are.told s.given s.passed in
    let run = subst IsSteppedRun s.is h.0 in
    let shown = h.1 ∙ ap stepped_report s.is in
    let ready = ready_with s.world (elements s.given) in
    inl (record {
      world = s.world;
      given = s.given;
      is_told = is_told;
      told_world = s.told;
      run = run;
      shown = shown;
      replays = replays_to files world s.world (elements s.given) (machine_of ready).grid (records_in (stepped_logs ready)) (abandoned_in (stepped_logs ready)) text (are.sound s.given is_told) s.told run shown;
    })
stepped_told elements S IsTold files world text (a_chain c) are s h = inr (record {
  chain = s.chain;
  given = s.given;
  is_told = are.told s.given s.passed;
  told_chain = s.told;
  run = subst (λ (v : ReadyChainValue). AreLegsOf v.chain v.meaning (are_stepped v)) s.is h.0;
  shown = h.1 ∙ ap stepped_text s.is;
})

step_told : {X : Type 0} (elements : X → ElementsValue) (S : Stage X HaltValue) (IsTold : X → Type 0) (files : List File) (world text : List ℕ) → AreTold elements S IsTold → and_then (ready_by elements S (Some files) world) steps_setting (Ok text) → StepShown elements IsTold files world text
step_told elements S IsTold files world text are h =
    let v = went _ _ text h in
    stepped_told elements S IsTold files world text v.value are (ready_told elements S files world v.value v.passed) v.rest

-- a world with the elements of a set, and the journal that its report says
abbrev report_known : (files : List File) (words : ReportWords) (r : ReadyValue) (s : ReadyTold source_elements (set_of (Some files) words.elements) files words.world r) (bytes : List ℕ) (journal : Entries) →
    load (Some files) JOURNAL_LIMIT words.report (Ok bytes) → journal_in words.report s.world bytes (Ok journal) → KnownReport files words
report_known files words r s bytes journal loaded read = record {
  world = s.world;
  set = s.given;
  is_set = set_is files words.elements s.given s.passed;
  told_world = s.told;
  bytes = bytes;
  journal = journal;
  told_report = record { file = loaded.0; within = loaded.1; reads = read };
}

-- a chain with the elements of a set, and the reports of its legs
abbrev legs_known : (files : List File) (words : ReportWords) (c : ReadyChainValue) (s : ReadyChainTold source_elements (set_of (Some files) words.elements) files words.world c) (bytes : List ℕ) (said : List LegSaid) →
    load (Some files) JOURNAL_LIMIT words.report (Ok bytes) → read_chain s.chain bytes ≡ Ok said → KnownLegs files words
legs_known files words c s bytes said loaded reads = record {
  chain = s.chain;
  set = s.given;
  is_set = set_is files words.elements s.given s.passed;
  told_chain = s.told;
  bytes = bytes;
  said = said;
  file = loaded.0;
  within = loaded.1;
  reads = reads;
}

-- a replay that showed a text, part by part
replay_by : (files : List File) (world journal : List ℕ) (words : List (List ℕ)) (text : List ℕ) (v : SettingValue) → SettingTold source_elements (set_of (Some files) words) files world v → replays_setting (Some files) journal v (Ok text) →
    ReplayShown files (report_words world journal words) text
replay_by files world journal words text (a_world r) s h =
    let rest = subst (λ (v : ReadyValue). replay_of (Some files) journal v (Ok text)) s.is h in
    let j = went _ _ text rest in
    let b = went _ _ j.value j.passed in
    inl (record { known = report_known files (report_words world journal words) r s b.value j.value b.passed b.rest; shown = j.rest })
replay_by files world journal words text (a_chain c) s h =
    let rest = subst (λ (v : ReadyChainValue). replay_legs_of (Some files) journal v (Ok text)) s.is h in
    let b = went _ _ text rest in
    let l = went _ _ text b.rest in
    inr (record { known = legs_known files (report_words world journal words) c s b.value l.value b.passed l.passed; shown = l.rest })

replay_told : (files : List File) (world journal : List ℕ) (words : List (List ℕ)) (text : List ℕ) → form_answer (Some files) (replay world journal words) (Ok text) → ReplayShown files (report_words world journal words) text
replay_told files world journal words text h =
    let v = went _ _ text h in
    replay_by files world journal words text v.value (ready_told source_elements (set_of (Some files) words) files world v.value v.passed) v.rest

-- a generated run that showed a text, part by part
gen_told : (number : ℕ) (text : List ℕ) → generates number (Ok text) → GenTold number text
gen_told number text h =
    let s = went _ _ text h in
    record { set = s.value; is_set = s.passed; names = two_names s.value s.passed; run = s.rest.0; shown = s.rest.1 }

-- an audit that showed a text, part by part
audit_by : (files : List File) (world report : List ℕ) (words : List (List ℕ)) (text : List ℕ) (v : SettingValue) → SettingTold source_elements (set_of (Some files) words) files world v → audits_setting (Some files) report v (Ok text) →
    AuditShown files (report_words world report words) text
audit_by files world report words text (a_world r) s h =
    let rest = subst (λ (v : ReadyValue). audit_of (Some files) report v (Ok text)) s.is h in
    let b = went _ _ text rest in
    let j = went _ _ text b.rest in
    inl (record { known = report_known files (report_words world report words) r s b.value j.value b.passed j.passed; audits = j.rest })
audit_by files world report words text (a_chain c) s h =
    let rest = subst (λ (v : ReadyChainValue). audit_legs_of (Some files) report v (Ok text)) s.is h in
    let b = went _ _ text rest in
    let l = went _ _ text b.rest in
    let known = legs_known files (report_words world report words) c s b.value l.value b.passed l.passed in
    let sound = set_sound files words s.given known.is_set in
    inr (record {
      known = known;
      audits = l.rest;
      yes_if = yes_if files world b.value s.chain (source_elements s.given) l.value text sound s.told l.passed l.rest;
      only_if = only_if files world b.value s.chain (source_elements s.given) l.value text sound s.told l.passed l.rest;
    })

audit_told : (files : List File) (world report : List ℕ) (words : List (List ℕ)) (text : List ℕ) → form_answer (Some files) (audit world report words) (Ok text) → AuditShown files (report_words world report words) text
audit_told files world report words text h =
    let v = went _ _ text h in
    audit_by files world report words text v.value (ready_told source_elements (set_of (Some files) words) files world v.value v.passed) v.rest

-- a rewind that showed a text, part by part
rewind_by : (files : List File) (world report : List ℕ) (k : ℕ) (words : List (List ℕ)) (text : List ℕ) (v : SettingValue) → SettingTold source_elements (set_of (Some files) words) files world v → rewinds_setting (Some files) report k v (Ok text) →
    RewindShown files (report_words world report words) k text
rewind_by files world report k words text (a_world r) s h =
    let rest = subst (λ (v : ReadyValue). rewind_of (Some files) report k v (Ok text)) s.is h in
    let j = went _ _ text rest in
    let b = went _ _ j.value j.passed in
    inl (record { known = report_known files (report_words world report words) r s b.value j.value b.passed b.rest; enough = j.rest.0; shown = j.rest.1 })
rewind_by files world report k words text (a_chain c) s h =
    let rest = subst (λ (v : ReadyChainValue). rewind_legs_of (Some files) report k v (Ok text)) s.is h in
    let b = went _ _ text rest in
    let l = went _ _ text b.rest in
    inr (record { known = legs_known files (report_words world report words) c s b.value l.value b.passed l.passed; enough = l.rest.0; shown = l.rest.1 })

rewind_told : (files : List File) (world report : List ℕ) (k : ℕ) (words : List (List ℕ)) (text : List ℕ) → form_answer (Some files) (rewind world report k words) (Ok text) → RewindShown files (report_words world report words) k text
rewind_told files world report k words text h =
    let v = went _ _ text h in
    rewind_by files world report k words text v.value (ready_told source_elements (set_of (Some files) words) files world v.value v.passed) v.rest

pub shows_of : (files : List File) (form : FormValue) (text : List ℕ) → form_answer (Some files) form (Ok text) → Shows files form text
shows_of files (check words) text h = set_told check_text files words text h
shows_of files (code words) text h = set_told code_text files words text h
shows_of files (pack words) text h = set_told pack_text files words text h
shows_of files (run world words) text h = run_told source_elements (set_of (Some files) words) (IsSet files words) files world text (sources_told files words) h
shows_of files (step world words) text h = step_told source_elements (set_of (Some files) words) (IsSet files words) files world text (sources_told files words) h
shows_of files (replay world journal words) text h = replay_told files world journal words text h
shows_of files (gen number) text h = gen_told number text h
shows_of files (audit world report words) text h = audit_told files world report words text h
shows_of files (rewind world report k words) text h = rewind_told files world report k words text h
shows_of files (steppack world file) text h = step_told code_elements (codes_from (Some files) file) (IsCodeFile files file) files world text (codes_told files file) h
shows_of files (runpack world file) text h = run_told code_elements (codes_from (Some files) file) (IsCodeFile files file) files world text (codes_told files file) h
