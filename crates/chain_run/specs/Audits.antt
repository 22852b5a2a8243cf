-- What `yes` says of the report of a chain: it is the report of legs that are the chain's, and only of such.
use Rattle.std.specs.Prelude.{ℕ, ◌≡◌, ◌≢◌, ◌++◌, ◌%◌, ◌+◌, ◌-◌, ◌≤◌, List, [], ◌∷◌, Ok, length}
use Rattle.window_sites.specs.Window.{WindowValue}
use Rattle.cell_grid.specs.Known.{BringsNone}
use Rattle.chain_text.specs.Chain.{ChainValue, IsChain}
use Rattle.chain_text.specs.declared.chain.Journal.TheVariants.{Counts}
use Rattle.report_text.specs.Again.{AreFormed}
use Rattle.world_text.specs.declared.world.Placed.{Placed}
use Rattle.chain_run.specs.Chains.{AreLegsOf, back_of, front_of}
use Rattle.chain_run.specs.Judging.{JudgesChain}
use Rattle.chain_run.specs.Legs.{Leg}
use Rattle.chain_run.specs.Reading.{LegSaid, read_chain}
use Rattle.chain_run.specs.Reports.{chain_report}
use Rattle.chain_run.specs.declared.judgement.ChainJudgement.{ChainJudgement}
use Rattle.chain_run.specs.declared.judgement.ChainJudgement.TheVariants.{Yes}

-- a chain with its elements: their names, which are those of types, and what they mean; they bring no other atoms, and the legs have reports that can be read
pub record IsAuditable (names : List (List ℕ)) (c : ChainValue) (meaning : WindowValue → ℕ → WindowValue) : Type 0 where
  pub chain : IsChain names c
  pub formed : AreFormed names
  pub brings : BringsNone (length names) meaning
  pub readable : (period : ℕ) → c.journal ≢ Counts period

-- the legs of a chain whose report these bytes are
abbrev pub AreLegsIn : List (List ℕ) → ChainValue → (WindowValue → ℕ → WindowValue) → List ℕ → Type 0
AreLegsIn names c meaning bytes = (legs : List Leg) × AreLegsOf c meaning legs × (bytes ≡ chain_report c names legs)

-- bytes that are judged with yes are the report of legs of the chain
abbrev pub IsReportIfYes : List (List ℕ) → ChainValue → (WindowValue → ℕ → WindowValue) → Type 0
IsReportIfYes names c meaning = (bytes : List ℕ) (said : List LegSaid) → read_chain c bytes ≡ Ok said → JudgesChain c meaning names said Yes →
    AreLegsIn names c meaning bytes

-- what the report of a leg says are the leg's own events and abandoned attempts
pub record IsSaidOf (l : Leg) (s : LegSaid) : Type 0 where
  pub records : s.entries.records ≡ l.records
  pub abandoned : s.entries.abandoned ≡ l.abandoned

-- so it is of the reports of legs, one for each
unfoldable pub AreSaidOf : List Leg → List LegSaid → Type 0
AreSaidOf [] [] = Unit {0}
AreSaidOf [] (s ∷ ss) = ⊥
AreSaidOf (l ∷ ls) [] = ⊥
AreSaidOf (l ∷ ls) (s ∷ ss) = IsSaidOf l s × AreSaidOf ls ss

-- the report of these legs of the chain is read, says these legs, and is judged with yes and nothing else
pub record IsJudgedYes (names : List (List ℕ)) (c : ChainValue) (meaning : WindowValue → ℕ → WindowValue) (legs : List Leg) : Type 0 where
  pub said : List LegSaid
  pub reads : read_chain c (chain_report c names legs) ≡ Ok said
  pub own : AreSaidOf legs said
  pub judged : JudgesChain c meaning names said Yes
  pub only : (v : ChainJudgement) → JudgesChain c meaning names said v → v ≡ Yes

abbrev pub IsYesIfReport : List (List ℕ) → ChainValue → (WindowValue → ℕ → WindowValue) → Type 0
IsYesIfReport names c meaning = (legs : List Leg) → AreLegsOf c meaning legs → IsJudgedYes names c meaning legs

-- where counts are printed, they are printed between the two parts
abbrev pub IsPrintedBetween : ChainValue → ℕ → Type 0
IsPrintedBetween c n = (period : ℕ) → c.journal ≡ Counts period → (c.first + n - 1) % period ≡ 0

-- the report of a chain is that of its first part and then that of the part that goes on
abbrev pub AreReportsJoined : Type 0
AreReportsJoined = (c : ChainValue) (names : List (List ℕ)) (front back : List Leg) (atoms : List Placed) → 1 ≤ length front → 1 ≤ length back
    → length front + length back ≡ c.legs → IsPrintedBetween c (length front)
    → chain_report c names (front ++ back) ≡ chain_report (front_of c (length front)) names front ++ chain_report (back_of c (length front) atoms) names back
