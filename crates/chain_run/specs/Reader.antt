-- The reader that takes the reports of a chain's legs one after another.
use Rattle.std.specs.Prelude.{ℕ, suc, ◌≡◌, ◌≤◌, ◌<◌, ◌+◌, ◌-◌, ◌*◌, ◌^◌, List, [], ◌∷◌, Option, Some, None, Result, Ok, Err, length}
use Rattle.window_sites.specs.Window.{WindowValue}
use Rattle.cell_grid.specs.Grid.{GridValue}
use Rattle.cell_grid.specs.Known.{BringsNone}
use Rattle.cell_grid.specs.Records.{replay}
use Rattle.cell_grid.specs.declared.record.Record.{Record}
use Rattle.chain_text.specs.Chain.{ChainValue, IsChain}
use Rattle.chain_text.specs.Legs.{leg_plan}
use Rattle.draw_stream.specs.Plans.{PlanValue}
use Rattle.report_text.specs.Again.{SaysThese}
use Rattle.report_text.specs.Entries.{Entries}
use Rattle.report_text.specs.Reading.{IsFault, fault_of}
use Rattle.report_text.specs.declared.journal_fault.JournalFault.{JournalFault}
use Rattle.report_text.specs.declared.journal_fault.LineFault.{LineFault}
use Rattle.world_runs.specs.Worlds.{CanRun}
use Rattle.chain_run.specs.Between.{IsBetween}
use Rattle.chain_run.specs.Legs.{Making}
use Rattle.chain_run.specs.Reading.{LegSaid, leg_then, read_chain, read_leg, read_legs, whole_text}
use Rattle.chain_run.specs.declared.leg_read.WholeText.{WholeText}
use Rattle.chain_run.specs.declared.leg_read.WholeText.TheVariants.{Own, Made}

-- what reports say, or their first fault
abbrev pub Reports : Type 0
Reports = Result (List LegSaid) (ℕ × LineFault)

-- a chain that some names give
abbrev pub IsSomeChain : ChainValue → Type 0
IsSomeChain c = (names : List (List ℕ)) × IsChain names c

abbrev pub text_bytes : WholeText → List ℕ
text_bytes (Own bytes) = bytes.now
text_bytes (Made v) = v.items

-- the report of a leg as it was read: the leg, how many lines of the file come before it, the whole report that its bytes stand
-- for, the plan by which it was read, and its entries
pub record LegValue : Type 0 where
  pub chain : ChainValue
  pub number : ℕ
  pub before : ℕ
  pub whole : List ℕ
  pub plan : PlanValue
  pub entries : Entries

-- what holds of it
pub record IsReadLeg (l : LegValue) : Type 0 where
  pub some : IsSomeChain l.chain
  pub plan_is : l.plan ≡ leg_plan l.chain l.number
  pub runs : CanRun l.chain.plane l.plan
  pub says : SaysThese l.chain.plane l.plan.lists l.whole l.entries
  pub low : l.before < 2 ^ 62

-- this is what the report says
pub record IsLegSaid (l : LegValue) (said : LegSaid) : Type 0 where
  pub before_is : said.before ≡ l.before
  pub entries_are : said.entries ≡ l.entries
  pub whole_is : whole_text l.chain.journal l.chain.plane (leg_plan l.chain l.number).lists said.bytes ≡ l.whole

abbrev pub leg_said : ℕ → List ℕ → Entries → LegSaid
leg_said before bytes e = record { before = before; bytes = bytes; entries = e }

-- the bytes of leg k's report are read, behind so many lines; a fault is the first one, whatever comes behind these bytes
abbrev pub ReadsLeg : ChainValue → ℕ → ℕ → List ℕ → Result LegValue JournalFault → Type 0
ReadsLeg c k before bytes (Ok l) = (l.chain ≡ c) × (l.number ≡ k) × IsLegSaid l (leg_said before bytes l.entries) × (read_leg c.journal c.plane (leg_plan c k) bytes ≡ Ok l.entries)
ReadsLeg c k before bytes (Err fault) = (later : Reports) → IsFault (leg_then before bytes (read_leg c.journal c.plane (leg_plan c k) bytes) later) (fault_of fault)

-- what a reader has before it: the chain, the bytes of the reports that are left, how many lines come before them, and how many
-- legs are left
pub record ReaderValue : Type 0 where
  pub chain : ChainValue
  pub bytes : List ℕ
  pub before : ℕ
  pub left : ℕ

-- what holds of it. The counts of a report tell of at most 2 ^ 34 lines
pub record IsReader (r : ReaderValue) : Type 0 where
  pub some : IsSomeChain r.chain
  pub most : r.left ≤ r.chain.legs
  pub short : length r.bytes < 2 ^ 63
  pub low : r.before + r.left * 2 ^ 34 ≤ r.chain.legs * 2 ^ 34

-- the number of the next leg
abbrev pub next_leg : ReaderValue → ℕ
next_leg r = r.chain.first + (r.chain.legs - r.left)

-- what the bytes that are left say
abbrev pub said_by : ReaderValue → Reports
said_by r = read_legs r.chain.journal r.chain.plane (leg_plan r.chain) (next_leg r) r.left r.before r.bytes

-- what the report of a leg says, and then what those behind it do
abbrev pub said_then : LegSaid → Reports → Reports
said_then l (Ok ls) = Ok (l ∷ ls)
said_then l (Err fault) = Err fault

-- the report of the next leg was taken
pub record IsTaken (old new : ReaderValue) (l : LegValue) : Type 0 where
  pub of_chain : l.chain ≡ old.chain
  pub same : new.chain ≡ old.chain
  pub here : l.number ≡ next_leg old
  pub on : next_leg new ≡ next_leg old + 1
  pub fewer : suc new.left ≡ old.left
  pub said : LegSaid
  pub is_said : IsLegSaid l said
  pub rest : said_by old ≡ said_then said (said_by new)

-- the report of the next leg, if one is left
abbrev pub Takes : ReaderValue → ReaderValue → Result (Option LegValue) JournalFault → Type 0
Takes old new (Ok None) = said_by old ≡ Ok []
Takes old new (Ok (Some l)) = IsTaken old new l
Takes old new (Err fault) = IsFault (said_by old) (fault_of fault)

-- what is left to be read, beside the whole of which it is the end: the same fault, or legs for which this holds
abbrev pub Follows : Reports → Reports → (List LegSaid → List LegSaid → Type 0) → Type 0
Follows (Err fault) whole P = whole ≡ Err fault
Follows (Ok ls) whole P = (said : List LegSaid) × (whole ≡ Ok said) × P ls said

-- a reader before the first leg
abbrev pub Begins : ChainValue → List ℕ → Result ReaderValue JournalFault → Type 0
Begins c bytes (Ok r) = (r.chain ≡ c) × (next_leg r ≡ c.first) × (read_chain c bytes ≡ said_by r) × (r.left ≡ c.legs)
Begins c bytes (Err fault) = IsFault (read_chain c bytes) (fault_of fault)

-- the grid that a leg with these events leaves, if the leg before it left this grid
abbrev pub grid_by : Making → ℕ → GridValue → List Record → GridValue
grid_by c k g records = replay c.meaning (c.acts k g) records

-- a grid between the legs of a chain, with what the elements mean
pub record IsKnownBetween (names : List (List ℕ)) (c : ChainValue) (meaning : WindowValue → ℕ → WindowValue) (g : GridValue) : Type 0 where
  pub chain : IsChain names c
  pub brings : BringsNone (length names) meaning
  pub between : IsBetween names c g
