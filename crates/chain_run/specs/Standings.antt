-- How the legs so far are judged.
use Rattle.std.specs.Prelude.{ℕ, ◌≡◌, ◌≢◌, List}
use Rattle.window_sites.specs.Window.{WindowValue}
use Rattle.cell_grid.specs.Grid.{GridValue}
use Rattle.chain_text.specs.Chain.{ChainValue}
use Rattle.report_judge.specs.Judging.{Judges, named_course}
use Rattle.report_judge.specs.declared.judgement.Judgement.{Judgement}
use Rattle.report_judge.specs.declared.judgement.Judgement.TheVariants as word
use Rattle.chain_run.specs.Judging.{Judged, JudgesLegs, in_file}
use Rattle.chain_run.specs.Legs.{leg_course}
use Rattle.chain_run.specs.Reader.{IsKnownBetween, LegValue, grid_by}
use Rattle.chain_run.specs.Reading.{LegSaid}
use Rattle.chain_run.specs.declared.judgement.ChainJudgement.{ChainJudgement}
use Rattle.chain_run.specs.declared.judgement.ChainJudgement.TheVariants as said
use Rattle.chain_run.specs.declared.standing.Standing.{Standing}
use Rattle.chain_run.specs.declared.standing.Standing.TheVariants.{Yes, No}

-- a judgement on the report of a leg is right, if the leg before it left this grid
abbrev pub IsRight : Judged → LegValue → GridValue → Judgement → Type 0
IsRight s l g j = Judges (named_course (leg_course s.making l.number g) s.names) l.whole l.entries j

-- the standing behind a leg, if the legs before it are judged with yes and left this grid
abbrev pub IsStanding : Judged → LegValue → GridValue → Standing → Type 0
IsStanding s l g (Yes h) = IsRight s l g word.Yes × (h ≡ grid_by s.making l.number g l.entries.records)
IsStanding s l g (No k j) = (k ≡ l.number) × ((right : Judgement) × (right ≢ word.Yes) × IsRight s l g right × (j ≡ in_file l.before right))

-- the grid of a standing, if it has one, is one that a leg may begin with
abbrev pub IsKnownStanding : List (List ℕ) → ChainValue → (WindowValue → ℕ → WindowValue) → Standing → Type 0
IsKnownStanding names c meaning (Yes g) = IsKnownBetween names c meaning g
IsKnownStanding names c meaning (No k j) = Unit {0}

-- the standing behind a leg, whatever it was before
abbrev pub StandsBehind : Judged → LegValue → Standing → Standing → Type 0
StandsBehind s l (Yes g) new = IsStanding s l g new
StandsBehind s l (No k j) new = new ≡ No k j

-- a judgement on the legs that are left, with the numbers from k on, if this is the standing before them
abbrev pub JudgesRest : Judged → ℕ → Standing → List LegSaid → ChainJudgement → Type 0
JudgesRest s k (Yes g) ls v = JudgesLegs s k g ls v
JudgesRest s k (No n j) ls v = v ≡ said.No n j

-- what is said behind the last leg
abbrev pub verdict : Standing → ChainJudgement
verdict (Yes g) = said.Yes
verdict (No k j) = said.No k j
