-- What the calls answer that read the report of a chain.
use Rattle.std.specs.Prelude.{ℕ, ◌≡◌, ◌≤◌, ◌<◌, List, Result, Ok, Err}
use Rattle.window_sites.specs.Window.{WindowValue}
use Rattle.cell_grid.specs.Grid.{GridValue}
use Rattle.chain_text.specs.Chain.{ChainValue}
use Rattle.report_text.specs.Reading.{IsFault, fault_of}
use Rattle.report_text.specs.Report.{AreNamed}
use Rattle.report_text.specs.declared.journal_fault.JournalFault.{JournalFault}
use Rattle.chain_run.specs.Chains.{first_grid, making}
use Rattle.chain_run.specs.Judging.{JudgesChain}
use Rattle.chain_run.specs.Reading.{LegSaid, read_chain}
use Rattle.chain_run.specs.Replays.{events_in, grid_at, grid_behind}
use Rattle.chain_run.specs.declared.judgement.ChainJudgement.{ChainJudgement}
use Rattle.chain_run.specs.declared.rewinding.Rewound.{Rewound}
use Rattle.chain_run.specs.declared.rewinding.Rewound.TheVariants.{Atoms, TooFew}

-- the legs that bytes say, and what holds of them
abbrev pub Says : ChainValue → List ℕ → (List LegSaid → Type 0) → Type 0
Says c bytes P = (said : List LegSaid) × (read_chain c bytes ≡ Ok said) × P said

-- at Ok this holds of the legs that bytes say; otherwise it is their first fault, or memory ran out
abbrev pub IfSaid : {X : Type 0} → ChainValue → List ℕ → (X → List LegSaid → Type 0) → Result X JournalFault → Type 0
IfSaid c bytes P (Ok x) = Says c bytes (P x)
IfSaid c bytes P (Err fault) = IsFault (read_chain c bytes) (fault_of fault)

-- how many events all legs have, or the first fault of the bytes
abbrev pub CountsEvents : ChainValue → List ℕ → Result ℕ JournalFault → Type 0
CountsEvents c bytes result = IfSaid c bytes (λ n said. n ≡ events_in said) result

-- the judgement on what bytes say, or their first fault
abbrev pub AuditsLegs : ChainValue → (WindowValue → ℕ → WindowValue) → List (List ℕ) → List ℕ → Result ChainJudgement JournalFault → Type 0
AuditsLegs c meaning names bytes result = IfSaid c bytes (λ v said. JudgesChain c meaning names said v) result

-- the grid that all legs leave, whose bytes say their events, or the first fault of the bytes
abbrev pub ReplaysLegs : ChainValue → (WindowValue → ℕ → WindowValue) → List ℕ → Result GridValue JournalFault → Type 0
ReplaysLegs c meaning bytes result = IfSaid c bytes (λ (g : GridValue) said. g ≡ grid_behind (making c meaning) c.first (first_grid c) said) result

-- the grid after the first n events of all legs, or how many there are if they are fewer
abbrev pub IsRewound : ChainValue → (WindowValue → ℕ → WindowValue) → ℕ → Rewound → List LegSaid → Type 0
IsRewound c meaning n (Atoms g) said = (n ≤ events_in said) × (g ≡ grid_at (making c meaning) c.first (first_grid c) said n)
IsRewound c meaning n (TooFew count) said = (count ≡ events_in said) × (count < n)

abbrev pub RewindsLegs : ChainValue → (WindowValue → ℕ → WindowValue) → List ℕ → ℕ → Result Rewound JournalFault → Type 0
RewindsLegs c meaning bytes n result = IfSaid c bytes (IsRewound c meaning n) result

-- each atom of the grid, if there is one, is empty or has a name
abbrev pub AreNamedIfAtoms : List (List ℕ) → Rewound → Type 0
AreNamedIfAtoms names (Atoms g) = AreNamed names g.atoms
AreNamedIfAtoms names (TooFew count) = Unit {0}
