-- A later audit and a later rewind of the report of a chain's legs, by the same chain and the same element files.
use Rattle.std.proofs.Common.{ℕ, ◌≤◌, List, Some, Ok, length, inr}
use Rattle.chain_text.specs.Chain.{ChainValue}
use Rattle.element_set.specs.Sets.{SetValue, element_names}
use Rattle.feast_base.specs.Outside.{File}
use Rattle.feast_run.proofs.AuditedLater.{audit_asked, chain_passes_later}
use Rattle.feast_run.proofs.Rewound.{rewind_asked}
use Rattle.feast_run.specs.Again.{AuditsLegsYes, RewindsLegsTo}
use Rattle.feast_run.specs.Chains.{AreAtomsAmid}
use Rattle.feast_run.specs.Promises.{IsAuditedLater, IsRewoundLater}
use Rattle.feast_run.specs.Told.{ChainTold, IsSet, chain_of_set}
use Rattle.feast_run.specs.Stages.{a_chain}
use Rattle.chain_run.specs.Reading.{LegSaid}

module _ (files : List File) (world : List ℕ) (words : List (List ℕ)) (text : List ℕ) (c : ChainValue) (set : SetValue) (is_set : IsSet files words set) (told : ChainTold files world (element_names set) c) where
  pub legs_audited_later : AuditsLegsYes (chain_of_set c set) text → IsAuditedLater files world words text
  legs_audited_later audits = record {
    comes = λ later. inr (record { value = a_chain (chain_of_set c set); passed = chain_passes_later files world words text c set is_set told later; rest = audits.comes later.others later.report later.report_is });
    only = λ later line h. audits.only later.others later.report line later.report_is (audit_asked later.others world later.report words (a_chain (chain_of_set c set)) line (chain_passes_later files world words text c set is_set told later) h);
  }

  pub legs_rewound_later : (said : List LegSaid) → RewindsLegsTo (chain_of_set c set) text said → IsRewoundLater files world words text (AreAtomsAmid (chain_of_set c set) said)
  legs_rewound_later said rewinds = record {
    comes = λ later k atoms right. inr (record { value = a_chain (chain_of_set c set); passed = chain_passes_later files world words text c set is_set told later; rest = rewinds.comes later.others later.report k atoms later.report_is right });
    only = λ later k atoms h. rewinds.only later.others later.report k atoms later.report_is (rewind_asked later.others world later.report words (a_chain (chain_of_set c set)) k atoms (chain_passes_later files world words text c set is_set told later) h);
  }
