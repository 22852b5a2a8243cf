-- What the reports of legs say, one after another.
use Rattle.std.specs.Prelude.{ℕ, zero, suc, ◌+◌, ◌*◌, ◌==◌, List, [], ◌∷◌, Result, Ok, Err, if◌then◌else◌}
use Rattle.chain_text.specs.Chain.{ChainValue}
use Rattle.chain_text.specs.Legs.{leg_plan}
use Rattle.chain_text.specs.declared.chain.Journal.{Journal}
use Rattle.chain_text.specs.declared.chain.Journal.TheVariants.{Whole, Short, Counts}
use Rattle.draw_stream.specs.Plans.{PlanValue}
use Rattle.draw_stream.specs.declared.attempt.Attempt.{Attempt}
use Rattle.report_text.specs.Entries.{Entries}
use Rattle.report_text.specs.First.{first_lines, first_report, later_reports}
use Rattle.report_text.specs.Reading.{entries_said, read_report}
use Rattle.report_text.specs.Widened.{widened_text}
use Rattle.report_text.specs.declared.journal_fault.LineFault.{LineFault}
use Rattle.report_text.specs.declared.journal_fault.LineFault.TheVariants.{BadForm, OutOfTurn}
use Rattle.tile_map.specs.Plane.{MapValue}

-- the report of a leg as it was read: how many lines come before it, its bytes, and its entries
pub record LegSaid : Type 0 where
  pub before : ℕ
  pub bytes : List ℕ
  pub entries : Entries

-- the whole report that the bytes of a leg's report stand for
abbrev pub whole_text : Journal → MapValue → List (List Attempt) → List ℕ → List ℕ
whole_text Whole m lists bytes = bytes
whole_text Short m lists bytes = widened_text m lists bytes
whole_text (Counts period) m lists bytes = bytes

-- the line of a file that is line n of a report, before which come so many lines; 0 stands for no line
abbrev pub line_behind : ℕ → ℕ → ℕ
line_behind before n = if n == 0 then 0 else before + n

-- what is wrong with a line, if the line that it names is one of a report before which come so many
abbrev pub fault_behind : ℕ → LineFault → LineFault
fault_behind before (OutOfTurn previous) = OutOfTurn (line_behind before previous)
fault_behind before fault = fault

-- the entries of a leg's report, and then what the reports behind it say; or the first fault
abbrev pub leg_then : ℕ → List ℕ → Result Entries (ℕ × LineFault) → Result (List LegSaid) (ℕ × LineFault) → Result (List LegSaid) (ℕ × LineFault)
leg_then before bytes (Err fault) later = Err (before + fault.0, fault_behind before fault.1)
leg_then before bytes (Ok e) (Err fault) = Err fault
leg_then before bytes (Ok e) (Ok ls) = Ok (record { before = before; bytes = bytes; entries = e } ∷ ls)

-- what the bytes of one leg's report say, by its plan
abbrev pub read_leg : Journal → MapValue → PlanValue → List ℕ → Result Entries (ℕ × LineFault)
read_leg j m plan bytes = entries_said (read_report m plan.lists (whole_text j m plan.lists bytes))

-- what the reports of so many legs say, with the numbers from k on and behind so many lines: each is read by itself, by the plan of
-- its leg. The first fault in the order of the lines; a line that is missing, or one too many, is one
unfoldable pub read_legs : Journal → MapValue → (ℕ → PlanValue) → ℕ → ℕ → ℕ → List ℕ → Result (List LegSaid) (ℕ × LineFault)
read_legs j m plan k zero before [] = Ok []
read_legs j m plan k zero before (b ∷ bs) = Err (before + 1, BadForm)
read_legs j m plan k (suc n) before bytes =
    leg_then before (first_report bytes) (read_leg j m (plan k) (first_report bytes)) (read_legs j m plan (k + 1) n (before + first_lines bytes) (later_reports bytes))

-- what the report of a chain says of its legs. Counts alone can't be read
abbrev pub read_chain_by : Journal → ChainValue → List ℕ → Result (List LegSaid) (ℕ × LineFault)
read_chain_by (Counts period) c bytes = Err (1, BadForm)
read_chain_by j c bytes = read_legs j c.plane (leg_plan c) c.first c.legs 0 bytes

abbrev pub read_chain : ChainValue → List ℕ → Result (List LegSaid) (ℕ × LineFault)
read_chain c bytes = read_chain_by c.journal c bytes
