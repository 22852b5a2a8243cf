-- The stages of the forms have one outcome apart from loads that fail, where files are told.
use Rattle.std.proofs.Common.{ℕ, ◌≡◌, List, [], ◌∷◌, ◌++◌, length, Some, slice_index_or, refl, sym, ap, ◌∙◌, inl, inr, arith, Ok, Err}
use Rattle.list_laws.proofs.Options.{some_once}
use Rattle.element_set.proofs.OneSet.{set_one as built_one}
use Rattle.element_set.specs.Sets.{SetValue, check_text, code_text}
use Rattle.report_text.specs.Reading.{entries_said, read_report}
use Rattle.feast_base.specs.Outside.{File}
use Rattle.report_text.specs.Entries.{Entries}
use Rattle.feast_run.proofs.CodeStages.{codes_in_one, codes_pass}
use Rattle.feast_run.proofs.Loads.{files_load}
use Rattle.feast_base.proofs.Stages.{then_sure, then_one, any_sure, gives_one, known_one, went}
use Rattle.feast_run.proofs.Laws.{decides_one, sure_by, then_accepts}
use Rattle.chain_run.specs.Reading.{LegSaid, read_chain}
use Rattle.chain_text.specs.Chain.{ChainValue}
use Rattle.chain_text.specs.Named.{chain_with_names}
use Rattle.chain_run.specs.Chains.{AreLegsOf}
use Rattle.feast_run.specs.Answer.{atoms_after, audits_setting, form_answer, replays_setting, rewinds, rewinds_setting, runs_setting, steps_setting}
use Rattle.feast_run.specs.Chains.{AuditsLegs, ReportsLegs, are_stepped, legs_in, replayed, rewinds_legs, stepped_text}
use Rattle.report_text.specs.Report.{grid_text}
use Rattle.feast_run.specs.Packed.{pack_text}
use Rattle.call_form.specs.Forms.{FormValue, check, code, pack, run, step, replay, gen, audit, rewind, steppack, runpack}
use Rattle.feast_run.specs.Generating.{generated_ready, own_set, stepped_summary}
use Rattle.feast_run.specs.Audited.{Audits}
use Rattle.feast_run.specs.Elements.{ElementsValue, code_elements, source_elements}
use Rattle.feast_base.specs.Stages.{Stage, IsSure, IsOne, and_then}
use Rattle.feast_run.specs.Halting.{Accepts, HaltValue, IsRefusal, RefusedValue, refusal_of, refuses}
use Rattle.feast_run.specs.Owing.{Reports}
use Rattle.feast_run.specs.Promises.{IsGood, IsGoodChain, IsGoodReady, IsGoodReadyChain, IsGoodReport, IsGoodRewind, IsGoodSetting, IsGoodWorld}
use Rattle.feast_run.specs.Told.{IsCodeFile, IsSet, report_words}
use Rattle.feast_run.specs.Stages.{ReadyChainValue, ReadyValue, SettingDraft, SettingValue, a_chain, a_world, builds, chain_draft, chain_with, draft_of, journal_in, journal_of, journal_refused, load, load_more, named_by, read_setting, ready, ready_by, ready_with, set_of, world_draft, world_refused}
use Rattle.feast_run.specs.CodeFiles.{codes_from, ready_packed}
use Rattle.feast_run.specs.Stepped.{IsSteppedRun, stepped_report}
use Rattle.feast_run.specs.declared.halt.Input.TheVariants as input
use Rattle.feast_run.proofs.GeneratedSource.Accepted.{accepted}
use Rattle.feast_run.specs.GeneratedElements.{source_files}
use Rattle.world_text.specs.Named.{WorldValue, world_with_names}
use Rattle.feast_run.specs.declared.loading.TheConstants.{CODE_LIMIT, ELEMENT_LIMIT, JOURNAL_LIMIT, WORLD_LIMIT}

load_one : (files : List File) (limit : ℕ) (word : List ℕ) → IsOne IsRefusal (load (Some files) limit word)
load_one files limit word = record {
  sure = sure_by (load (Some files) limit word) (λ a r p q. let e = ap length (some_once _ a q.0.0 p.0 q.0.1) in absurd (omega (arith, e, p.1, q.0.2))) (λ r s p q. p.1 ∙ sym q.1);
  one_value = λ a b p q. some_once _ a b p.0 q.0;
}

loads_one : (files : List File) (done : List File) (words : List (List ℕ)) → IsOne IsRefusal (load_more (Some files) done words)
loads_one files done [] = gives_one done
loads_one files done (word ∷ words) = then_one _ _ (load_one files ELEMENT_LIMIT word) (λ bytes. loads_one files (done ++ (word, bytes) ∷ []) words)

refused_one : (words : List (List ℕ)) (sources : List File) (r s : RefusedValue) → builds words sources (Err (refuses r)) → builds words sources (Err (refuses s)) → r ≡ s
refused_one words sources r s p q =
    let e = (built_one sources).sure.one_halt r.refusal s.refusal tt tt p.0 q.0 in
    p.1 ∙ ap (λ v. refusal_of input.Elements (slice_index_or words v.place.file []) v) e ∙ sym q.1

builds_one : (words : List (List ℕ)) (sources : List File) → IsOne IsRefusal (builds words sources)
builds_one words sources = record {
  sure = sure_by (builds words sources) (λ a r p q. (built_one sources).sure.apart a r.refusal tt p q.0) (refused_one words sources);
  one_value = λ a b p q. (built_one sources).one_value a b p q;
}

pub set_one : (files : List File) (words : List (List ℕ)) → IsOne IsRefusal (set_of (Some files) words)
set_one files words = then_one _ _ (loads_one files [] words) (builds_one words)

draft_one : (files : List File) (word : List ℕ) → IsOne IsRefusal (draft_of (Some files) word)
draft_one files word = then_one _ _ (load_one files WORLD_LIMIT word) (λ bytes. decides_one (world_refused word) (read_setting bytes))

named_one : (word : List ℕ) (draft : SettingDraft) (e : ElementsValue) → IsOne IsRefusal (named_by word draft e)
named_one word (world_draft d) e = then_one _ _ (decides_one (world_refused word) (world_with_names e.names d)) (λ (world : WorldValue). gives_one (a_world (ready_with world e)))
named_one word (chain_draft d) e = then_one _ _ (decides_one (world_refused word) (chain_with_names e.names d)) (λ (chain : ChainValue). gives_one (a_chain (chain_with chain e)))

ready_one : {X : Type 0} (elements : X → ElementsValue) (S : Stage X HaltValue) (files : List File) (word : List ℕ) → IsOne IsRefusal S → IsOne IsRefusal (ready_by elements S (Some files) word)
ready_one elements S files word one = then_one _ _ (draft_one files word) (λ draft. then_one S (λ x. named_by word draft (elements x)) one (λ x. named_one word draft (elements x)))

pub sources_one : (files : List File) (word : List ℕ) (words : List (List ℕ)) → IsOne IsRefusal (ready (Some files) word words)
sources_one files word words = ready_one source_elements (set_of (Some files) words) files word (set_one files words)

pub codes_one : (files : List File) (word : List ℕ) → IsOne IsRefusal (codes_from (Some files) word)
codes_one files word = then_one _ _ (load_one files CODE_LIMIT word) (codes_in_one word)

packed_one : (files : List File) (word file : List ℕ) → IsOne IsRefusal (ready_packed (Some files) word file)
packed_one files word file = ready_one code_elements (codes_from (Some files) file) files word (codes_one files file)

journal_one : (files : List File) (word : List ℕ) (world : WorldValue) → IsOne IsRefusal (journal_of (Some files) word world)
journal_one files word world = then_one _ _ (load_one files JOURNAL_LIMIT word) (λ bytes. decides_one (journal_refused word) (entries_said (read_report world.plane world.plan.lists bytes)))

own_one : IsOne IsRefusal own_set
own_one = record {
  sure = sure_by own_set (λ a r p q. absurd q) (λ r s p q. absurd p);
  one_value = λ a b p q. (built_one source_files).one_value a b p q;
}

-- each form
rewinds_sure : (word : List ℕ) (k : ℕ) (r : ReadyValue) (j : Entries) → IsSure IsRefusal (rewinds word k r j)
rewinds_sure word k r j = sure_by (rewinds word k r j) (λ a x p q. absurd (omega (arith, p.0, q.0))) (λ x y p q. p.1 ∙ sym q.1)

in_one : (word : List ℕ) (world : WorldValue) (bytes : List ℕ) → IsOne IsRefusal (journal_in word world bytes)
in_one word world bytes = decides_one (journal_refused word) (entries_said (read_report world.plane world.plan.lists bytes))

pub legs_in_one : (word : List ℕ) (c : ReadyChainValue) (bytes : List ℕ) → IsOne IsRefusal (legs_in word c bytes)
legs_in_one word c bytes = decides_one (journal_refused word) (read_chain c.chain bytes)

rewinds_legs_sure : (word : List ℕ) (k : ℕ) (c : ReadyChainValue) (said : List LegSaid) → IsSure IsRefusal (rewinds_legs word k c said)
rewinds_legs_sure word k c said = sure_by (rewinds_legs word k c said) (λ a x p q. absurd (omega (arith, p.0, q.0))) (λ x y p q. p.1 ∙ sym q.1)

-- what is done with a setting

runs_sure : (v : SettingValue) → IsSure IsRefusal (runs_setting v)
runs_sure (a_world r) = any_sure (Reports r)
runs_sure (a_chain c) = any_sure (ReportsLegs c)

steps_sure : (v : SettingValue) → IsSure IsRefusal (steps_setting v)
steps_sure (a_world r) = (known_one (IsSteppedRun r) (stepped_report r)).sure
steps_sure (a_chain c) = (known_one (AreLegsOf c.chain c.meaning (are_stepped c)) (stepped_text c)).sure

replays_sure : (files : List File) (word : List ℕ) (v : SettingValue) → IsSure IsRefusal (replays_setting (Some files) word v)
replays_sure files word (a_world r) = then_sure _ _ (journal_one files word r.world) (λ j. (gives_one (atoms_after r j.records)).sure)
replays_sure files word (a_chain c) =
    then_sure _ _ (load_one files JOURNAL_LIMIT word) (λ bytes. then_sure _ _ (legs_in_one word c bytes) (λ said. (gives_one (grid_text c.names (replayed c said))).sure))

audits_sure : (files : List File) (word : List ℕ) (v : SettingValue) → IsSure IsRefusal (audits_setting (Some files) word v)
audits_sure files word (a_world r) = then_sure _ _ (load_one files JOURNAL_LIMIT word) (λ bytes. then_sure _ _ (in_one word r.world bytes) (λ j. any_sure (Audits r bytes j)))
audits_sure files word (a_chain c) = then_sure _ _ (load_one files JOURNAL_LIMIT word) (λ bytes. then_sure _ _ (legs_in_one word c bytes) (λ said. any_sure (AuditsLegs c said)))

rewound_sure : (files : List File) (word : List ℕ) (k : ℕ) (v : SettingValue) → IsSure IsRefusal (rewinds_setting (Some files) word k v)
rewound_sure files word k (a_world r) = then_sure _ _ (journal_one files word r.world) (λ j. rewinds_sure word k r j)
rewound_sure files word k (a_chain c) = then_sure _ _ (load_one files JOURNAL_LIMIT word) (λ bytes. then_sure _ _ (legs_in_one word c bytes) (λ said. rewinds_legs_sure word k c said))

pub form_sure : (files : List File) (form : FormValue) → IsSure IsRefusal (form_answer (Some files) form)
form_sure files (check words) = then_sure _ _ (set_one files words) (λ set. (gives_one (check_text set)).sure)
form_sure files (code words) = then_sure _ _ (set_one files words) (λ set. (gives_one (code_text set)).sure)
form_sure files (pack words) = then_sure _ _ (set_one files words) (λ set. (gives_one (pack_text set)).sure)
form_sure files (run world words) = then_sure _ _ (sources_one files world words) runs_sure
form_sure files (step world words) = then_sure _ _ (sources_one files world words) steps_sure
form_sure files (replay world journal words) = then_sure _ _ (sources_one files world words) (replays_sure files journal)
form_sure files (gen number) = then_sure _ _ own_one (λ set. (known_one (IsSteppedRun (generated_ready number set)) (stepped_summary number (generated_ready number set))).sure)
form_sure files (audit world report words) = then_sure _ _ (sources_one files world words) (audits_sure files report)
form_sure files (rewind world report k words) = then_sure _ _ (sources_one files world words) (rewound_sure files report k)
form_sure files (steppack world file) = then_sure _ _ (packed_one files world file) steps_sure
form_sure files (runpack world file) = then_sure _ _ (packed_one files world file) runs_sure

-- the set of good files
set_passes : (files : List File) (words : List (List ℕ)) (set : SetValue) → IsSet files words set → set_of (Some files) words (Ok set)
set_passes files words set s = inr (record { value = s.sources; passed = files_load files words s.sources s.are_files; rest = s.accepted })

-- a good world with its elements, and a good chain
ready_passes : {X : Type 0} (elements : X → ElementsValue) (S : Stage X HaltValue) (files : List File) (word : List ℕ) (w : WorldValue) (x : X) → S (Ok x) → IsGoodWorld files word (elements x).names w → ready_by elements S (Some files) word (Ok (a_world (ready_with w (elements x))))
ready_passes elements S files word w x p g =
    let named = inr (record { value = w; passed = g.has_names; rest = refl }) in
    inr (record { value = world_draft g.draft; passed = g.has_draft; rest = inr (record { value = x; passed = p; rest = named }) })

chain_passes : {X : Type 0} (elements : X → ElementsValue) (S : Stage X HaltValue) (files : List File) (word : List ℕ) (c : ChainValue) (x : X) → S (Ok x) → IsGoodChain files word (elements x).names c → ready_by elements S (Some files) word (Ok (a_chain (chain_with c (elements x))))
chain_passes elements S files word c x p g =
    let named = inr (record { value = c; passed = g.has_names; rest = refl }) in
    inr (record { value = chain_draft g.draft; passed = g.has_draft; rest = inr (record { value = x; passed = p; rest = named }) })

pub sources_pass : (files : List File) (word : List ℕ) (words : List (List ℕ)) (w : WorldValue) (h : IsGoodReady source_elements (IsSet files words) files word w) → ready (Some files) word words (Ok (a_world (ready_with w (source_elements h.given))))
sources_pass files word words w h = ready_passes source_elements (set_of (Some files) words) files word w h.given (set_passes files words h.given h.is_told) h.good

pub chain_sources_pass : (files : List File) (word : List ℕ) (words : List (List ℕ)) (c : ChainValue) (h : IsGoodReadyChain source_elements (IsSet files words) files word c) → ready (Some files) word words (Ok (a_chain (chain_with c (source_elements h.given))))
chain_sources_pass files word words c h = chain_passes source_elements (set_of (Some files) words) files word c h.given (set_passes files words h.given h.is_told) h.good

-- a good setting refuses nothing, if what is done with it doesn't
sources_accept : (files : List File) (world : List ℕ) (words : List (List ℕ)) (T : SettingValue → Stage (List ℕ) HaltValue) → ((v : SettingValue) → Accepts (T v)) → IsGoodSetting source_elements (IsSet files words) files world → Accepts (and_then (ready (Some files) world words) T)
sources_accept files world words T accepts good = elim good [
  | inl g ↦ then_accepts _ _ (sources_one files world words) (a_world (ready_with g.0 (source_elements g.1.given))) (sources_pass files world words g.0 g.1) (accepts _)
  | inr g ↦ then_accepts _ _ (sources_one files world words) (a_chain (chain_with g.0 (source_elements g.1.given))) (chain_sources_pass files world words g.0 g.1) (accepts _)
]

packed_accept : (files : List File) (world file : List ℕ) (T : SettingValue → Stage (List ℕ) HaltValue) → ((v : SettingValue) → Accepts (T v)) → IsGoodSetting code_elements (IsCodeFile files file) files world → Accepts (and_then (ready_packed (Some files) world file) T)
packed_accept files world file T accepts good = elim good [
  | inl g ↦ then_accepts _ _ (packed_one files world file) (a_world (ready_with g.0 (code_elements g.1.given))) (ready_passes code_elements (codes_from (Some files) file) files world g.0 g.1.given (codes_pass files file g.1.given g.1.is_told) g.1.good) (accepts _)
  | inr g ↦ then_accepts _ _ (packed_one files world file) (a_chain (chain_with g.0 (code_elements g.1.given))) (chain_passes code_elements (codes_from (Some files) file) files world g.0 g.1.given (codes_pass files file g.1.given g.1.is_told) g.1.good) (accepts _)
]

runs_accept : (v : SettingValue) → Accepts (runs_setting v)
runs_accept (a_world r) = λ s p. absurd p
runs_accept (a_chain c) = λ s p. absurd p

steps_accept : (v : SettingValue) → Accepts (steps_setting v)
steps_accept (a_world r) = λ s p. absurd p
steps_accept (a_chain c) = λ s p. absurd p

replay_accepts : (files : List File) (world journal : List ℕ) (words : List (List ℕ)) → IsGoodReport files (report_words world journal words) → Accepts (and_then (ready (Some files) world words) (replays_setting (Some files) journal))
replay_accepts files world journal words good = elim good [
  | inl h ↦ then_accepts _ _ (sources_one files world words) (a_world (ready_with h.world (source_elements h.ready.given))) (sources_pass files world words h.world h.ready)
      (then_accepts _ _ (journal_one files journal h.world) h.journal h.has_journal (λ s p. absurd p))
  | inr h ↦
      let b = went _ _ h.said h.has_legs in
      let c = chain_with h.chain (source_elements h.ready.given) in
      then_accepts _ _ (sources_one files world words) (a_chain c) (chain_sources_pass files world words h.chain h.ready)
      (then_accepts _ _ (load_one files JOURNAL_LIMIT journal) b.value b.passed (then_accepts _ _ (legs_in_one journal c b.value) h.said b.rest (λ s p. absurd p)))
]

audit_accepts : (files : List File) (world report : List ℕ) (words : List (List ℕ)) → IsGoodReport files (report_words world report words) → Accepts (and_then (ready (Some files) world words) (audits_setting (Some files) report))
audit_accepts files world report words good = elim good [
  | inl h ↦
      let b = went _ _ h.journal h.has_journal in
      then_accepts _ _ (sources_one files world words) (a_world (ready_with h.world (source_elements h.ready.given))) (sources_pass files world words h.world h.ready)
      (then_accepts _ _ (load_one files JOURNAL_LIMIT report) b.value b.passed (then_accepts _ _ (in_one report h.world b.value) h.journal b.rest (λ s p. absurd p)))
  | inr h ↦
      let b = went _ _ h.said h.has_legs in
      let c = chain_with h.chain (source_elements h.ready.given) in
      then_accepts _ _ (sources_one files world words) (a_chain c) (chain_sources_pass files world words h.chain h.ready)
      (then_accepts _ _ (load_one files JOURNAL_LIMIT report) b.value b.passed (then_accepts _ _ (legs_in_one report c b.value) h.said b.rest (λ s p. absurd p)))
]

rewind_accepts : (files : List File) (world report : List ℕ) (k : ℕ) (words : List (List ℕ)) → IsGoodRewind files (report_words world report words) k → Accepts (and_then (ready (Some files) world words) (rewinds_setting (Some files) report k))
rewind_accepts files world report k words good = elim good [
  | inl g ↦
      let h = g.0 in
      then_accepts _ _ (sources_one files world words) (a_world (ready_with h.world (source_elements h.ready.given))) (sources_pass files world words h.world h.ready)
      (then_accepts _ _ (journal_one files report h.world) h.journal h.has_journal (λ s p. absurd (omega (arith, p.0, g.1))))
  | inr g ↦
      let h = g.0 in
      let b = went _ _ h.said h.has_legs in
      let c = chain_with h.chain (source_elements h.ready.given) in
      then_accepts _ _ (sources_one files world words) (a_chain c) (chain_sources_pass files world words h.chain h.ready)
      (then_accepts _ _ (load_one files JOURNAL_LIMIT report) b.value b.passed (then_accepts _ _ (legs_in_one report c b.value) h.said b.rest (λ s p. absurd (omega (arith, p.0, g.1)))))
]

-- good files of a form refuse nothing
pub form_accepts : (files : List File) (form : FormValue) → IsGood files form → Accepts (form_answer (Some files) form)
form_accepts files (check words) h = then_accepts _ _ (set_one files words) h.0 (set_passes files words h.0 h.1) (λ r p. absurd p)
form_accepts files (code words) h = then_accepts _ _ (set_one files words) h.0 (set_passes files words h.0 h.1) (λ r p. absurd p)
form_accepts files (pack words) h = then_accepts _ _ (set_one files words) h.0 (set_passes files words h.0 h.1) (λ r p. absurd p)
form_accepts files (run world words) h = sources_accept files world words runs_setting runs_accept h
form_accepts files (step world words) h = sources_accept files world words steps_setting steps_accept h
form_accepts files (replay world journal words) h = replay_accepts files world journal words h
form_accepts files (gen number) h = then_accepts _ _ own_one accepted.0 accepted.1 (λ s p. absurd p)
form_accepts files (audit world report words) h = audit_accepts files world report words h
form_accepts files (rewind world report k words) h = rewind_accepts files world report k words h
form_accepts files (steppack world file) h = packed_accept files world file steps_setting steps_accept h
form_accepts files (runpack world file) h = packed_accept files world file runs_setting runs_accept h
