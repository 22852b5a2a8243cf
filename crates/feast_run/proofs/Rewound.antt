-- A rewind of the report of a run, and a later one by the same world and the same element files.
use Rattle.std.proofs.Common.{ℕ, ◌≡◌, ◌≤◌, List, Some, Ok, length, ap, sym, subst, ◌∙◌, inl, inr}
use Rattle.element_set.specs.Sets.{SetValue, element_names}
use Rattle.report_text.specs.Reading.{entries_said, read_report}
use Rattle.feast_base.proofs.Stages.{went}
use Rattle.feast_base.specs.Outside.{File, file_of}
use Rattle.report_text.specs.Entries.{Entries}
use Rattle.feast_run.proofs.AuditedLater.{asked, chain_passes, passes, passes_later}
use Rattle.feast_run.specs.Again.{RewindsTo, SaysJournal}
use Rattle.feast_run.specs.Answer.{AreFirstAtoms, rewind_of, rewinds_setting}
use Rattle.feast_run.specs.Promises.{IsRewoundLater}
use Rattle.feast_run.specs.Told.{IsSet, RewindShown, WorldTold, chain_of_set, report_words}
use Rattle.feast_run.specs.Stages.{ReadyValue, SettingValue, a_chain, a_world, ready, ready_of_set}
use Rattle.world_text.specs.Named.{WorldValue}
use Rattle.feast_run.specs.declared.loading.TheConstants.{JOURNAL_LIMIT}

only : (r : ReadyValue) (text : List ℕ) (j : Entries) → SaysJournal r.world text j → (files : List File) (word : List ℕ) (k : ℕ) (atoms : List ℕ) → file_of word files ≡ Some text → rewind_of (Some files) word k r (Ok atoms) → AreFirstAtoms r j k atoms
only r text j says files word k atoms file h =
    let g = went _ _ atoms h in
    let b = went _ _ g.value g.passed in
    let content : Some b.value ≡ Some text = sym b.passed.0 ∙ file in
    let bytes : b.value ≡ text = cc in
    let said : Ok g.value ≡ Ok j = sym b.rest ∙ ap (λ ns. entries_said (read_report r.world.plane r.world.plan.lists ns)) bytes ∙ says in
    let journal : g.value ≡ j = cc in
    subst (λ (v : Entries). AreFirstAtoms r v k atoms) journal g.rest

-- a text that says this journal, and is no longer than a journal may be
pub rewinds_to : (r : ReadyValue) (text : List ℕ) (j : Entries) → SaysJournal r.world text j → length text ≤ JOURNAL_LIMIT → RewindsTo r text j
rewinds_to r text j says within = record {
  comes = λ files word k atoms file right. inr (record { value = j; passed = inr (record { value = text; passed = (file, within); rest = says }); rest = right });
  only = only r text j says;
}

-- a told rewind is one of the setting that passed
pub rewind_asked : (files : List File) (world report : List ℕ) (words : List (List ℕ)) (v : SettingValue) (k : ℕ) (atoms : List ℕ) → ready (Some files) world words (Ok v) → RewindShown files (report_words world report words) k atoms → rewinds_setting (Some files) report k v (Ok atoms)
rewind_asked files world report words v k atoms passed (inl h) =
    let n = h.known in
    asked files world words (rewinds_setting (Some files) report k) v atoms passed (record {
      value = a_world (ready_of_set n.world n.set);
      passed = passes files world words n.world n.set n.told_world n.is_set;
      rest = inr (record { value = n.journal; passed = inr (record { value = n.bytes; passed = (n.told_report.file, n.told_report.within); rest = n.told_report.reads }); rest = (h.enough, h.shown) });
    })
rewind_asked files world report words v k atoms passed (inr h) =
    let n = h.known in
    asked files world words (rewinds_setting (Some files) report k) v atoms passed (record {
      value = a_chain (chain_of_set n.chain n.set);
      passed = chain_passes files world words n.chain n.set n.told_chain n.is_set;
      rest = inr (record { value = n.bytes; passed = (n.file, n.within); rest = inr (record { value = n.said; passed = n.reads; rest = (h.enough, h.shown) }) });
    })

pub rewound_later : (files : List File) (world : List ℕ) (words : List (List ℕ)) (text : List ℕ) (w : WorldValue) (set : SetValue) (j : Entries) → IsSet files words set → WorldTold files world (element_names set) w → RewindsTo (ready_of_set w set) text j →
    IsRewoundLater files world words text (AreFirstAtoms (ready_of_set w set) j)
rewound_later files world words text w set j is_set told rewinds = record {
  comes = λ later k atoms right. inr (record { value = a_world (ready_of_set w set); passed = passes_later files world words text w set is_set told later; rest = rewinds.comes later.others later.report k atoms later.report_is right });
  only = λ later k atoms h. rewinds.only later.others later.report k atoms later.report_is (rewind_asked later.others world later.report words (a_world (ready_of_set w set)) k atoms (passes_later files world words text w set is_set told later) h);
}
