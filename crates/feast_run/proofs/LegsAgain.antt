-- The report of a chain's legs is their own: it says them, is audited with yes, and leads to their atoms.
use Rattle.std.proofs.Common.{ℕ, ◌≡◌, ◌≢◌, ◌≤◌, List, Some, Ok, length, ap, sym, subst, refl, ◌∙◌, inr}
use Rattle.chain_run.proofs.Audits.{report_if_yes, yes_if_report}
use Rattle.chain_run.proofs.LoneLegs.{legs_lone, lone_are_stepped}
use Rattle.chain_run.proofs.Own.{own_grid, readable_if_read, yes_alone}
use Rattle.chain_run.specs.Audits.{AreLegsIn, IsAuditable, IsJudgedYes}
use Rattle.chain_run.specs.Chains.{AreLegsOf, first_grid, making}
use Rattle.chain_run.specs.Judging.{JudgesChain, chain_judgement_text}
use Rattle.chain_run.specs.Legs.{Leg, grid_after}
use Rattle.chain_run.specs.Reading.{LegSaid, read_chain}
use Rattle.chain_run.specs.Reports.{chain_report}
use Rattle.chain_run.specs.Runs.{AreAlone}
use Rattle.chain_run.specs.declared.judgement.ChainJudgement.TheVariants.{Yes}
use Rattle.chain_text.proofs.Valid.{chain_valid}
use Rattle.chain_text.proofs.Kept.{read_kept}
use Rattle.chain_text.specs.Chain.{ChainValue, IsChain}
use Rattle.chain_text.specs.declared.chain.Journal.TheVariants.{Counts}
use Rattle.feast_base.proofs.Stages.{went}
use Rattle.feast_base.specs.Outside.{File, file_of}
use Rattle.feast_run.proofs.Sound.{AreSound}
use Rattle.feast_run.specs.Again.{AuditsLegsYes, IfReadable, IsOwnLegs, ReplaysLegsTo, RewindsLegsTo}
use Rattle.feast_run.specs.Chains.{AreAtomsAmid, AuditsLegs, audit_legs_of, replay_legs_of, rewind_legs_of, stepped_text}
use Rattle.feast_run.specs.Elements.{ElementsValue}
use Rattle.feast_run.specs.Told.{ChainTold}
use Rattle.feast_run.specs.Stages.{ReadyChainValue, chain_with}
use Rattle.feast_run.specs.declared.loading.TheConstants.{JOURNAL_LIMIT}
use Rattle.report_text.specs.Report.{grid_text}
use Rattle.tile_map.specs.Plane.{tiles_of}

-- the names of its elements give a told chain
pub named : (files : List File) (word : List ℕ) (c : ChainValue) (names : List (List ℕ)) → ChainTold files word names c → IsChain names c
named files word c names told = chain_valid names told.reads.0 c (read_kept told.bytes told.reads.0 told.reads.1) told.reads.2

-- a told chain with sound elements, whose reports can be read
pub auditable : (files : List File) (word : List ℕ) (c : ChainValue) (e : ElementsValue) → AreSound e → ChainTold files word e.names c → ((period : ℕ) → c.journal ≢ Counts period) → IsAuditable e.names c e.meaning
auditable files word c e sound told readable = record { chain = named files word c e.names told; formed = sound.named; brings = sound.brings; readable = readable }

-- a text that is the report of legs, and no longer than a report that is read may be
record IsReport (c : ReadyChainValue) (text : List ℕ) (legs : List Leg) : Type 0 where
  judged : IsJudgedYes c.names c.chain c.meaning legs
  are : AreLegsOf c.chain c.meaning legs
  shown : text ≡ chain_report c.chain c.names legs
  within : length text ≤ JOURNAL_LIMIT

module _ (c : ReadyChainValue) (text : List ℕ) (legs : List Leg) (h : IsReport c text legs) where
  reads : read_chain c.chain text ≡ Ok h.judged.said
  reads = ap (read_chain c.chain) h.shown ∙ h.judged.reads

  -- what a file with this text says, once it is read
  one : (files : List File) (word bytes : List ℕ) (said : List LegSaid) → file_of word files ≡ Some text → file_of word files ≡ Some bytes → read_chain c.chain bytes ≡ Ok said → said ≡ h.judged.said
  one files word bytes said file loaded is =
      let content : Some bytes ≡ Some text = sym loaded ∙ file in
      let same : bytes ≡ text = cc in
      let both : Ok said ≡ Ok h.judged.said = sym is ∙ ap (read_chain c.chain) same ∙ reads in
      cc

  audited : AuditsLegsYes c text
  audited = record {
    comes = λ files word file. inr (record { value = text; passed = (file, h.within); rest = inr (record { value = h.judged.said; passed = reads; rest = record { judgement = Yes; judges = h.judged.judged; shown = refl } }) });
    only = λ files word line file asked.
        let b = went _ _ line asked in
        let l = went _ _ line b.rest in
        let judges = subst (λ (v : List LegSaid). JudgesChain c.chain c.meaning c.names v l.rest.judgement) (one files word b.value l.value file b.passed.0 l.passed) l.rest.judges in
        l.rest.shown ∙ ap chain_judgement_text (h.judged.only l.rest.judgement judges);
  }

  replayed : ReplaysLegsTo c text (grid_after (first_grid c.chain) legs)
  replayed = λ files word file.
      inr (record {
        value = text;
        passed = (file, h.within);
        rest = inr (record {
          value = h.judged.said;
          passed = reads;
          rest = sym (ap (grid_text c.names) (own_grid (making c.chain c.meaning) c.chain.first (first_grid c.chain) legs h.judged.said h.are.follow h.judged.own));
        });
      })

  rewound : RewindsLegsTo c text h.judged.said
  rewound = record {
    comes = λ files word k atoms file right. inr (record { value = text; passed = (file, h.within); rest = inr (record { value = h.judged.said; passed = reads; rest = right }) });
    only = λ files word k atoms file asked.
        let b = went _ _ atoms asked in
        let l = went _ _ atoms b.rest in
        subst (λ (v : List LegSaid). AreAtomsAmid c v k atoms) (one files word b.value l.value file b.passed.0 l.passed) l.rest;
  }

  own : IsOwnLegs c text legs
  own = record { said = h.judged.said; reads = reads; own = h.judged.own; audited = audited; replayed = replayed; rewound = rewound }

pub own_legs : (files : List File) (word text : List ℕ) (c : ChainValue) (e : ElementsValue) (legs : List Leg) → AreSound e → ChainTold files word e.names c → AreLegsOf c e.meaning legs → text ≡ chain_report c e.names legs →
    IfReadable c text (IsOwnLegs (chain_with c e) text legs)
own_legs files word text c e legs sound told are shown = λ readable within.
    let judged = yes_if_report e.names c e.meaning (auditable files word c e sound told readable) legs are in
    own (chain_with c e) text legs (record { judged = judged; are = are; shown = shown; within = within })

-- a judgement on what the bytes of a report say is yes where they are the report of legs, and nowhere else
pub yes_if : (files : List File) (word bytes : List ℕ) (c : ChainValue) (e : ElementsValue) (said : List LegSaid) (line : List ℕ) → AreSound e → ChainTold files word e.names c → read_chain c bytes ≡ Ok said → AuditsLegs (chain_with c e) said line →
    AreLegsIn e.names c e.meaning bytes → line ≡ chain_judgement_text Yes
yes_if files word bytes c e said line sound told is audits found =
    let can = auditable files word c e sound told (readable_if_read c bytes said is) in
    let judged = yes_if_report e.names c e.meaning can found.0 found.1 in
    let both : Ok said ≡ Ok judged.said = sym is ∙ ap (read_chain c) found.2 ∙ judged.reads in
    let same : said ≡ judged.said = cc in
    audits.shown ∙ ap chain_judgement_text (judged.only audits.judgement (subst (λ (v : List LegSaid). JudgesChain c e.meaning e.names v audits.judgement) same audits.judges))

pub only_if : (files : List File) (word bytes : List ℕ) (c : ChainValue) (e : ElementsValue) (said : List LegSaid) (line : List ℕ) → AreSound e → ChainTold files word e.names c → read_chain c bytes ≡ Ok said → AuditsLegs (chain_with c e) said line →
    line ≡ chain_judgement_text Yes → AreLegsIn e.names c e.meaning bytes
only_if files word bytes c e said line sound told is audits affirmed =
    let can = auditable files word c e sound told (readable_if_read c bytes said is) in
    let judgement : audits.judgement ≡ Yes = yes_alone audits.judgement (sym audits.shown ∙ affirmed) in
    report_if_yes e.names c e.meaning can bytes said is (subst (JudgesChain c e.meaning e.names said) judgement audits.judges)

-- on a plane of one tile the reports of a chain's legs are those of its stepped legs
pub lone_text : (files : List File) (word text : List ℕ) (c : ChainValue) (e : ElementsValue) (legs : List Leg) → ChainTold files word e.names c → AreLegsOf c e.meaning legs → text ≡ chain_report c e.names legs → tiles_of c.plane ≡ 1 →
    text ≡ stepped_text (chain_with c e)
lone_text files word text c e legs told are shown one = shown ∙ ap (chain_report c e.names) (lone_are_stepped e.names c e.meaning (named files word c e.names told) one legs are)

-- and each attempt is an event
pub lone_events : (files : List File) (word : List ℕ) (c : ChainValue) (e : ElementsValue) (legs : List Leg) → ChainTold files word e.names c → AreLegsOf c e.meaning legs → tiles_of c.plane ≡ 1 → AreAlone (making c e.meaning) c.first legs
lone_events files word c e legs told are one = (legs_lone e.names c e.meaning (named files word c e.names told) one c.first (first_grid c) legs are.follow).1
