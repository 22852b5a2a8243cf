-- What the forms write of a chain.
use Rattle.std.specs.Prelude.{ℕ, ◌≡◌, ◌≤◌, ◌<◌, List, Option, Ok, Err, length}
use Rattle.cell_grid.specs.Grid.{GridValue}
use Rattle.chain_run.specs.Chains.{AreLegsOf, first_grid, making}
use Rattle.chain_run.specs.Judging.{JudgesChain, chain_judgement_text}
use Rattle.chain_run.specs.Legs.{AreLegs, Leg}
use Rattle.chain_run.specs.Reading.{LegSaid, read_chain}
use Rattle.chain_run.specs.Replays.{events_in, grid_at, grid_behind}
use Rattle.chain_run.specs.Reports.{chain_report, legs_text, no_counts}
use Rattle.chain_run.specs.Runs.{stepped_legs}
use Rattle.chain_run.specs.declared.judgement.ChainJudgement.{ChainJudgement}
use Rattle.feast_base.specs.Outside.{File}
use Rattle.feast_base.specs.Stages.{Stage, and_then, gives, gives_any, gives_known}
use Rattle.feast_run.specs.Halting.{HaltValue, decides, misses, refuses}
use Rattle.feast_run.specs.Stages.{ReadyChainValue, journal_refused, load, records_refused}
use Rattle.feast_run.specs.declared.loading.TheConstants.{JOURNAL_LIMIT}
use Rattle.report_text.specs.Report.{grid_text}

-- a text is what some legs of a chain leave: their reports, one after another
pub record ReportsLegs (c : ReadyChainValue) (text : List ℕ) : Type 0 where
  pub legs : List Leg
  -- the events of each leg stand in one serial order, from the grid that the leg before it left and its own acts changed
  pub are : AreLegsOf c.chain c.meaning legs
  pub shown : text ≡ chain_report c.chain c.names legs

-- the first legs of a chain, maybe all
pub record AreFirstLegs (c : ReadyChainValue) (legs : List Leg) : Type 0 where
  pub few : length legs ≤ c.chain.legs
  pub follow : AreLegs (making c.chain c.meaning) c.chain.first (first_grid c.chain) legs

-- what they leave
abbrev pub first_text : ReadyChainValue → List Leg → List ℕ
first_text c legs = legs_text c.chain c.names c.chain.first no_counts legs

-- the reports of the legs of any run of a chain
abbrev pub runs_legs : ReadyChainValue → Stage (List ℕ) HaltValue
runs_legs c = gives_any (ReportsLegs c)

-- the legs of the stepped run of a chain, and what they leave
abbrev pub are_stepped : ReadyChainValue → List Leg
are_stepped c = stepped_legs c.chain c.meaning

abbrev pub stepped_text : ReadyChainValue → List ℕ
stepped_text c = chain_report c.chain c.names (are_stepped c)

-- the reports of the legs of the stepped machines; what these left is known to be legs of the chain
abbrev pub steps_legs : ReadyChainValue → Stage (List ℕ) HaltValue
steps_legs c = gives_known (AreLegsOf c.chain c.meaning (are_stepped c)) (stepped_text c)

-- what the reports of a chain's legs say, in the bytes of a file
abbrev pub legs_in : List ℕ → ReadyChainValue → List ℕ → Stage (List LegSaid) HaltValue
legs_in word c bytes = decides (journal_refused word) (read_chain c.chain bytes)

-- and in a file
abbrev pub legs_of : Option (List File) → List ℕ → ReadyChainValue → Stage (List LegSaid) HaltValue
legs_of files word c = and_then (load files JOURNAL_LIMIT word) (legs_in word c)

-- the grid that the events of such reports leave
abbrev pub replayed : ReadyChainValue → List LegSaid → GridValue
replayed c said = grid_behind (making c.chain c.meaning) c.chain.first (first_grid c.chain) said

abbrev pub replay_legs_with : List ℕ → ReadyChainValue → List ℕ → Stage (List ℕ) HaltValue
replay_legs_with word c bytes = and_then (legs_in word c bytes) (λ said. gives (grid_text c.names (replayed c said)))

abbrev pub replay_legs_of : Option (List File) → List ℕ → ReadyChainValue → Stage (List ℕ) HaltValue
replay_legs_of files word c = and_then (load files JOURNAL_LIMIT word) (replay_legs_with word c)

-- a text is the line of the judgement on such reports
pub record AuditsLegs (c : ReadyChainValue) (said : List LegSaid) (text : List ℕ) : Type 0 where
  pub judgement : ChainJudgement
  pub judges : JudgesChain c.chain c.meaning c.names said judgement
  pub shown : text ≡ chain_judgement_text judgement

abbrev pub audit_legs_with : List ℕ → ReadyChainValue → List ℕ → Stage (List ℕ) HaltValue
audit_legs_with word c bytes = and_then (legs_in word c bytes) (λ said. gives_any (AuditsLegs c said))

abbrev pub audit_legs_of : Option (List File) → List ℕ → ReadyChainValue → Stage (List ℕ) HaltValue
audit_legs_of files word c = and_then (load files JOURNAL_LIMIT word) (audit_legs_with word c)

-- the grid after the first k events of such reports
abbrev pub rewound : ReadyChainValue → List LegSaid → ℕ → GridValue
rewound c said k = grid_at (making c.chain c.meaning) c.chain.first (first_grid c.chain) said k

-- a text is that of the atoms that the first k events of such reports leave, which have that many
abbrev pub AreAtomsAmid : ReadyChainValue → List LegSaid → ℕ → List ℕ → Type 0
AreAtomsAmid c said k text = (k ≤ events_in said) × (text ≡ grid_text c.names (rewound c said k))

-- the text of its atoms, if the reports have that many events
abbrev pub rewinds_legs : List ℕ → ℕ → ReadyChainValue → List LegSaid → Stage (List ℕ) HaltValue
rewinds_legs word k c said (Ok text) = AreAtomsAmid c said k text
rewinds_legs word k c said (Err (refuses x)) = (events_in said < k) × (x ≡ records_refused word (events_in said))
rewinds_legs word k c said (Err (misses w)) = ⊥

abbrev pub rewind_legs_with : List ℕ → ℕ → ReadyChainValue → List ℕ → Stage (List ℕ) HaltValue
rewind_legs_with word k c bytes = and_then (legs_in word c bytes) (rewinds_legs word k c)

abbrev pub rewind_legs_of : Option (List File) → List ℕ → ℕ → ReadyChainValue → Stage (List ℕ) HaltValue
rewind_legs_of files word k c = and_then (load files JOURNAL_LIMIT word) (rewind_legs_with word k c)
