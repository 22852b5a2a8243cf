-- The judgement on the report of a chain.
use Rattle.std.specs.Prelude.{ℕ, ◌≡◌, ◌≢◌, ◌+◌, ◌⊎◌, List, [], ◌∷◌, codes, decimal}
use Rattle.window_sites.specs.Window.{WindowValue}
use Rattle.cell_grid.specs.Grid.{GridValue}
use Rattle.cell_grid.specs.Records.{replay}
use Rattle.chain_text.specs.Chain.{ChainValue}
use Rattle.chain_text.specs.declared.chain.Journal.{Journal}
use Rattle.report_judge.specs.Judging.{Judges, named_course}
use Rattle.report_judge.specs.declared.judgement.Judgement.{Judgement}
use Rattle.report_judge.specs.declared.judgement.Judgement.TheVariants as word
use Rattle.text_lines.specs.Lines.{text_of}
use Rattle.chain_run.specs.Chains.{first_grid, making}
use Rattle.chain_run.specs.Legs.{Making, leg_course}
use Rattle.chain_run.specs.Reading.{LegSaid, whole_text}
use Rattle.chain_run.specs.declared.judgement.ChainJudgement.{ChainJudgement}
use Rattle.chain_run.specs.declared.judgement.ChainJudgement.TheVariants.{Yes, No}

-- what is judged: what makes the legs, which reports they have, and what the elements are called
pub record Judged : Type 0 where
  pub making : Making
  pub journal : Journal
  pub names : List (List ℕ)

-- a judgement on the report of leg k is right, if the leg before it left this grid
abbrev pub IsJudged : Judged → ℕ → GridValue → LegSaid → Judgement → Type 0
IsJudged s k g l j =
    Judges (named_course (leg_course s.making k g) s.names) (whole_text s.journal s.making.map (s.making.plan k).lists l.bytes) l.entries j

-- the grid that leg k leaves by its report, if the leg before it left this grid
abbrev pub grid_said : Making → ℕ → GridValue → LegSaid → GridValue
grid_said c k g l = replay c.meaning (c.acts k g) l.entries.records

-- a judgement on a leg's report, in the lines of the file
abbrev pub in_file : ℕ → Judgement → Judgement
in_file before (word.NoStamped line) = word.NoStamped (before + line)
in_file before (word.NoExcused line) = word.NoExcused (before + line)
in_file before j = j

-- the judgement on the report of leg k is not yes, and this is what is said of it
pub record IsFirstFault (s : Judged) (k : ℕ) (g : GridValue) (l : LegSaid) (v : ChainJudgement) : Type 0 where
  pub judgement : Judgement
  pub other : judgement ≢ word.Yes
  pub judged : IsJudged s k g l judgement
  pub said : v ≡ No k (in_file l.before judgement)

-- a judgement on the reports of legs with the numbers from k on, if the leg before them left this grid: yes, or the first leg whose
-- judgement is another. Each leg begins with the grid that the one before it leaves by its report
unfoldable pub JudgesLegs : Judged → ℕ → GridValue → List LegSaid → ChainJudgement → Type 0
JudgesLegs s k g [] v = v ≡ Yes
JudgesLegs s k g (l ∷ ls) v = (IsJudged s k g l word.Yes × JudgesLegs s (k + 1) (grid_said s.making k g l) ls v) ⊎ IsFirstFault s k g l v

abbrev pub judged_chain : ChainValue → (WindowValue → ℕ → WindowValue) → List (List ℕ) → Judged
judged_chain c meaning names = record { making = making c meaning; journal = c.journal; names = names }

-- a judgement on what the report of a chain says is right
abbrev pub JudgesChain : ChainValue → (WindowValue → ℕ → WindowValue) → List (List ℕ) → List LegSaid → ChainJudgement → Type 0
JudgesChain c meaning names legs v = JudgesLegs (judged_chain c meaning names) c.first (first_grid c) legs v

-- the words of a judgement behind `no`, and those of its line if it has one
abbrev pub fault_fields : Judgement → List (List ℕ)
fault_fields word.Yes = []
fault_fields word.NoAccounted = codes "accounted" ∷ []
fault_fields (word.NoStamped line) = codes "stamped" ∷ decimal line ∷ []
fault_fields (word.NoExcused line) = codes "excused" ∷ decimal line ∷ []
fault_fields word.NoAtoms = codes "atoms" ∷ []

-- the words of a judgement on a chain's report
abbrev pub chain_judgement_fields : ChainJudgement → List (List ℕ)
chain_judgement_fields Yes = codes "yes" ∷ []
chain_judgement_fields (No leg j) = codes "no" ∷ codes "leg" ∷ decimal leg ∷ fault_fields j

-- its line
abbrev pub chain_judgement_text : ChainJudgement → List ℕ
chain_judgement_text v = text_of (chain_judgement_fields v ∷ [])
