-- A later audit of the report of a run, by the same world and the same element files.
use Rattle.std.proofs.Common.{ℕ, List, [], ◌∷◌, ◌∙◌, Some, Ok, inl, inr}
use Rattle.chain_text.specs.Chain.{ChainValue}
use Rattle.element_set.specs.Sets.{SetValue, element_names}
use Rattle.feast_base.proofs.Stages.{goes_at}
use Rattle.feast_base.specs.Outside.{File}
use Rattle.feast_base.specs.Stages.{Goes, Stage}
use Rattle.feast_run.proofs.SettingTexts.{chain_drafted, world_drafted}
use Rattle.feast_run.proofs.Sure.{chain_sources_pass, sources_one, sources_pass}
use Rattle.feast_run.specs.Answer.{audits_setting}
use Rattle.feast_run.specs.Audited.{AuditsYes}
use Rattle.feast_run.specs.Halting.{HaltValue}
use Rattle.feast_run.specs.Promises.{HaveSame, IsAuditedLater, IsGoodChain, IsGoodWorld, IsLater}
use Rattle.feast_run.specs.Told.{AreFiles, AuditShown, ChainTold, IsSet, WorldTold, chain_of_set, report_words}
use Rattle.feast_run.specs.Stages.{SettingValue, a_chain, a_world, ready, ready_of_set}
use Rattle.world_text.specs.Named.{WorldValue}

good_world : (files : List File) (word : List ℕ) (names : List (List ℕ)) (w : WorldValue) → WorldTold files word names w → IsGoodWorld files word names w
good_world files word names w h = record {
  draft = h.reads.0;
  has_draft = inr (record { value = h.bytes; passed = (h.file, h.within); rest = world_drafted h.bytes h.reads.0 h.plain h.reads.1 });
  has_names = h.reads.2;
}

-- a told world with a set passes
pub passes : (files : List File) (world : List ℕ) (words : List (List ℕ)) (w : WorldValue) (set : SetValue) → WorldTold files world (element_names set) w → IsSet files words set → ready (Some files) world words (Ok (a_world (ready_of_set w set)))
passes files world words w set told is_set = sources_pass files world words w (record { given = set; is_told = is_set; good = good_world files world (element_names set) w told })

same_files : (files others : List File) (words : List (List ℕ)) (sources : List File) → HaveSame files others words → AreFiles files words sources → AreFiles others words sources
same_files files others [] [] same h = tt
same_files files others [] (s ∷ ss) same h = absurd h
same_files files others (w ∷ ws) [] same h = absurd h
same_files files others (w ∷ ws) (s ∷ ss) same h = (h.0, same.0 ∙ h.1, h.2, same_files files others ws ss same.1 h.3)

-- and so does the same world with the same set later
pub passes_later : (files : List File) (world : List ℕ) (words : List (List ℕ)) (text : List ℕ) (w : WorldValue) (set : SetValue) → IsSet files words set → WorldTold files world (element_names set) w → (later : IsLater files world words text) →
    ready (Some later.others) world words (Ok (a_world (ready_of_set w set)))
passes_later files world words text w set is_set told later =
    let others = later.others in
    let told_later : WorldTold others world (element_names set) w = record { bytes = told.bytes; file = later.world_same ∙ told.file; within = told.within; plain = told.plain; reads = told.reads } in
    let set_later : IsSet others words set = record { sources = is_set.sources; are_files = same_files files others words is_set.sources later.elements_same is_set.are_files; accepted = is_set.accepted } in
    passes others world words w set told_later set_later

-- what was asked of the setting that passed
pub asked : (files : List File) (world : List ℕ) (words : List (List ℕ)) (T : SettingValue → Stage (List ℕ) HaltValue) (v : SettingValue) (text : List ℕ) → ready (Some files) world words (Ok v) → Goes (ready (Some files) world words) T (Ok text) → T v (Ok text)
asked files world words T v text passed goes = goes_at _ _ (sources_one files world words) v passed (Ok text) goes

-- a told chain with a set passes
good_chain : (files : List File) (word : List ℕ) (names : List (List ℕ)) (c : ChainValue) → ChainTold files word names c → IsGoodChain files word names c
good_chain files word names c h = record {
  draft = h.reads.0;
  has_draft = inr (record { value = h.bytes; passed = (h.file, h.within); rest = chain_drafted h.bytes h.reads.0 h.begins h.reads.1 });
  has_names = h.reads.2;
}

pub chain_passes : (files : List File) (world : List ℕ) (words : List (List ℕ)) (c : ChainValue) (set : SetValue) → ChainTold files world (element_names set) c → IsSet files words set → ready (Some files) world words (Ok (a_chain (chain_of_set c set)))
chain_passes files world words c set told is_set = chain_sources_pass files world words c (record { given = set; is_told = is_set; good = good_chain files world (element_names set) c told })

pub chain_passes_later : (files : List File) (world : List ℕ) (words : List (List ℕ)) (text : List ℕ) (c : ChainValue) (set : SetValue) → IsSet files words set → ChainTold files world (element_names set) c → (later : IsLater files world words text) →
    ready (Some later.others) world words (Ok (a_chain (chain_of_set c set)))
chain_passes_later files world words text c set is_set told later =
    let others = later.others in
    let told_later : ChainTold others world (element_names set) c = record { bytes = told.bytes; file = later.world_same ∙ told.file; within = told.within; begins = told.begins; reads = told.reads } in
    let set_later : IsSet others words set = record { sources = is_set.sources; are_files = same_files files others words is_set.sources later.elements_same is_set.are_files; accepted = is_set.accepted } in
    chain_passes others world words c set told_later set_later

-- a told audit is one of the setting that passed
pub audit_asked : (files : List File) (world report : List ℕ) (words : List (List ℕ)) (v : SettingValue) (line : List ℕ) → ready (Some files) world words (Ok v) → AuditShown files (report_words world report words) line → audits_setting (Some files) report v (Ok line)
audit_asked files world report words v line passed (inl h) =
    let k = h.known in
    asked files world words (audits_setting (Some files) report) v line passed (record {
      value = a_world (ready_of_set k.world k.set);
      passed = passes files world words k.world k.set k.told_world k.is_set;
      rest = inr (record { value = k.bytes; passed = (k.told_report.file, k.told_report.within); rest = inr (record { value = k.journal; passed = k.told_report.reads; rest = h.audits }) });
    })
audit_asked files world report words v line passed (inr h) =
    let k = h.known in
    asked files world words (audits_setting (Some files) report) v line passed (record {
      value = a_chain (chain_of_set k.chain k.set);
      passed = chain_passes files world words k.chain k.set k.told_chain k.is_set;
      rest = inr (record { value = k.bytes; passed = (k.file, k.within); rest = inr (record { value = k.said; passed = k.reads; rest = h.audits }) });
    })

pub audited_later : (files : List File) (world : List ℕ) (words : List (List ℕ)) (text : List ℕ) (w : WorldValue) (set : SetValue) → IsSet files words set → WorldTold files world (element_names set) w → AuditsYes (ready_of_set w set) text →
    IsAuditedLater files world words text
audited_later files world words text w set is_set told audits = record {
  comes = λ later. inr (record { value = a_world (ready_of_set w set); passed = passes_later files world words text w set is_set told later; rest = audits.comes later.others later.report later.report_is });
  only = λ later line h. audits.only later.others later.report line later.report_is (audit_asked later.others world later.report words (a_world (ready_of_set w set)) line (passes_later files world words text w set is_set told later) h);
}
