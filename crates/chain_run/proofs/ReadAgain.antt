-- The report of legs is read again, and judged with yes and nothing else.
use Rattle.std.proofs.Common.{ℕ, suc, ◌≡◌, ◌≢◌, ◌+◌, List, [], ◌∷◌, ◌++◌, Ok, length, refl, sym, ap, subst, ◌∙◌, inl, inr}
use Rattle.window_sites.specs.Window.{WindowValue}
use Rattle.cell_grid.specs.Grid.{GridValue}
use Rattle.cell_grid.specs.Records.{replay}
use Rattle.chain_text.specs.Chain.{ChainValue}
use Rattle.chain_text.specs.Legs.{leg_plan}
use Rattle.chain_text.specs.declared.chain.Journal.{Journal}
use Rattle.chain_text.specs.declared.chain.Journal.TheVariants.{Whole, Short, Counts}
use Rattle.event_journal.specs.Serial.{IsSerial, OwesNothing}
use Rattle.report_judge.specs.Judging.{Judges, NamedCourse, named_course, own_report}
use Rattle.report_judge.specs.declared.judgement.Judgement.{Judgement}
use Rattle.report_judge.specs.declared.judgement.Judgement.TheVariants as word
use Rattle.report_text.proofs.InARow.{in_a_row}
use Rattle.report_text.proofs.ReadAgain.{read_again}
use Rattle.report_text.proofs.ShortWhole.{stands_for_whole}
use Rattle.report_text.specs.Again.{IsLeft, entries_in}
use Rattle.report_text.specs.Entries.{Entries}
use Rattle.report_text.specs.Reading.{entries_said, read_report}
use Rattle.report_text.specs.Report.{ReportValue, report, report_of, report_value}
use Rattle.report_text.specs.ShortLaws.{IsFirstReport, lines_in}
use Rattle.chain_run.proofs.Wholes.{IsWhole, leg_drawable, whole_first, whole_left}
use Rattle.chain_run.proofs.Yes.{counts_stay, read_by}
use Rattle.chain_run.specs.Audits.{AreSaidOf, IsAuditable, IsJudgedYes}
use Rattle.chain_run.specs.Chains.{AreLegsOf, first_grid, making}
use Rattle.chain_run.specs.Judging.{IsJudged, JudgesLegs, judged_chain}
use Rattle.chain_run.specs.Legs.{AreLegs, Leg, leg_course}
use Rattle.chain_run.specs.Reader.{leg_said}
use Rattle.chain_run.specs.Reading.{LegSaid, leg_then, read_leg, read_legs, whole_text}
use Rattle.chain_run.specs.Reports.{chain_report, leg_text, leg_text_by, legs_text, no_counts}
use Rattle.chain_run.specs.declared.judgement.ChainJudgement.{ChainJudgement}
use Rattle.chain_run.specs.declared.judgement.ChainJudgement.TheVariants.{Yes}

-- where the journal owes nothing, and the bytes are the report of the journal, no other judgement is right
only_yes : (s : NamedCourse) (bytes : List ℕ) (e : Entries) (judgement : Judgement) → OwesNothing s.course.map s.course.plan e.records e.abandoned → bytes ≡ own_report s e → Judges s bytes e judgement → judgement ≡ word.Yes
only_yes s bytes e word.Yes owes own h = refl
only_yes s bytes e word.NoAccounted owes own h = absurd (h owes.accounted)
only_yes s bytes e (word.NoStamped line) owes own h = absurd (h.1.1.here (λ d. owes.stamped h.1.0 d h.1.1.within))
only_yes s bytes e (word.NoExcused line) owes own h = absurd (h.2.1.here (λ d. owes.excused h.2.0 d h.2.1.within))
only_yes s bytes e word.NoAtoms owes own h = absurd (h.1 own)

-- what a leg's report shows
abbrev shown_of : Leg → ReportValue
shown_of l = report_value l.grid l.records l.abandoned

module _ (names : List (List ℕ)) (c : ChainValue) (meaning : WindowValue → ℕ → WindowValue) (can : IsAuditable names c meaning) where
  -- what the report of legs says
  abbrev said_from : ℕ → ℕ → List Leg → List LegSaid
  said_from k before [] = []
  said_from k before (l ∷ ls) = leg_said before (leg_text c names k no_counts l) (entries_in (shown_of l)) ∷ said_from (k + 1) (before + lines_in (shown_of l)) ls

  left_by : (k : ℕ) (g : GridValue) (l : Leg) → IsWhole names c.plane g → IsSerial (leg_course (making c meaning) k g) l.grid l.records l.abandoned → IsLeft names c.plane (leg_plan c k) (shown_of l)
  left_by k g l whole serial =
      let after = subst (IsWhole names c.plane) (sym serial.replayed) (whole_left names c meaning k g l.records can.chain can.brings whole) in
      record { wide = after.size.wide; sites = after.size.sites; named = after.named; owes = serial.owes }

  -- the whole report that a leg's report stands for
  whole_is : (j : Journal) → ((period : ℕ) → j ≢ Counts period) → (k : ℕ) (l : Leg) → IsLeft names c.plane (leg_plan c k) (shown_of l) → whole_text j c.plane (leg_plan c k).lists (leg_text_by j c names k no_counts l) ≡ report_of names (shown_of l)
  whole_is Whole some k l left = refl
  whole_is Short some k l left = stands_for_whole names c.plane (leg_plan c k) can.formed (leg_drawable names c k can.chain) (shown_of l) left
  whole_is (Counts period) some k l left = absurd (some period refl)

  told : (j : Journal) → ((period : ℕ) → j ≢ Counts period) → (k : ℕ) (l : Leg) (rest : List ℕ) → IsLeft names c.plane (leg_plan c k) (shown_of l) → IsFirstReport (leg_text_by j c names k no_counts l) (lines_in (shown_of l)) rest
  told Whole some k l rest left = (in_a_row names c.plane (leg_plan c k) can.formed (leg_drawable names c k can.chain) (shown_of l) rest left).whole
  told Short some k l rest left = (in_a_row names c.plane (leg_plan c k) can.formed (leg_drawable names c k can.chain) (shown_of l) rest left).short
  told (Counts period) some k l rest left = absurd (some period refl)

  leg_says : (k : ℕ) (l : Leg) → IsLeft names c.plane (leg_plan c k) (shown_of l) → read_leg c.journal c.plane (leg_plan c k) (leg_text c names k no_counts l) ≡ Ok (entries_in (shown_of l))
  leg_says k l left =
      ap (λ b. entries_said (read_report c.plane (leg_plan c k).lists b)) (whole_is c.journal can.readable k l left)
      ∙ read_again names c.plane (leg_plan c k) can.formed (leg_drawable names c k can.chain) (shown_of l) left

  reads_leg : (k n before : ℕ) (l : Leg) (rest : List ℕ) (said : List LegSaid) → IsLeft names c.plane (leg_plan c k) (shown_of l)
      → read_legs c.journal c.plane (leg_plan c) (k + 1) n (before + lines_in (shown_of l)) rest ≡ Ok said
      → read_legs c.journal c.plane (leg_plan c) k (suc n) before (leg_text c names k no_counts l ++ rest) ≡ Ok (leg_said before (leg_text c names k no_counts l) (entries_in (shown_of l)) ∷ said)
  unfolding read_legs
  reads_leg k n before l rest said left is =
      let text = leg_text c names k no_counts l in
      let first = told c.journal can.readable k l rest left in
      (λ i. leg_then before (first.first i) (read_leg c.journal c.plane (leg_plan c k) (first.first i)) (read_legs c.journal c.plane (leg_plan c) (k + 1) n (before + first.counted i) (first.later i)))
      ∙ (λ i. leg_then before text (leg_says k l left i) (is i))

  reads_from : (legs : List Leg) (k before : ℕ) (g : GridValue) → IsWhole names c.plane g → AreLegs (making c meaning) k g legs → read_legs c.journal c.plane (leg_plan c) k (length legs) before (legs_text c names k no_counts legs) ≡ Ok (said_from k before legs)
  unfolding read_legs AreLegs legs_text
  reads_from [] k before g whole follow = refl
  reads_from (l ∷ ls) k before g whole follow =
      let left = left_by k g l whole follow.0 in
      let after = subst (IsWhole names c.plane) (sym follow.0.replayed) (whole_left names c meaning k g l.records can.chain can.brings whole) in
      ap (λ m. read_legs c.journal c.plane (leg_plan c) k (suc (length ls)) before (leg_text c names k no_counts l ++ legs_text c names (k + 1) m ls)) (counts_stay c.journal can.readable c k no_counts l)
      ∙ reads_leg k (length ls) before l (legs_text c names (k + 1) no_counts ls) (said_from (k + 1) (before + lines_in (shown_of l)) ls) left (reads_from ls (k + 1) (before + lines_in (shown_of l)) l.grid after follow.1)

  judged_yes : (k before : ℕ) (g : GridValue) (l : Leg) → IsWhole names c.plane g → IsSerial (leg_course (making c meaning) k g) l.grid l.records l.abandoned
      → IsJudged (judged_chain c meaning names) k g (leg_said before (leg_text c names k no_counts l) (entries_in (shown_of l))) word.Yes
  judged_yes k before g l whole serial =
      (serial.owes, whole_is c.journal can.readable k l (left_by k g l whole serial) ∙ ap (λ (h : GridValue). report names h l.records l.abandoned) serial.replayed)

  judges_from : (legs : List Leg) (k before : ℕ) (g : GridValue) → IsWhole names c.plane g → AreLegs (making c meaning) k g legs → JudgesLegs (judged_chain c meaning names) k g (said_from k before legs) Yes
  unfolding AreLegs JudgesLegs
  judges_from [] k before g whole follow = refl
  judges_from (l ∷ ls) k before g whole follow =
      let after = whole_left names c meaning k g l.records can.chain can.brings whole in
      let rest = subst (λ (h : GridValue). AreLegs (making c meaning) (k + 1) h ls) follow.0.replayed follow.1 in
      inl (judged_yes k before g l whole follow.0, judges_from ls (k + 1) (before + lines_in (shown_of l)) (replay meaning ((making c meaning).acts k g) l.records) after rest)

  only_from : (legs : List Leg) (k before : ℕ) (g : GridValue) → IsWhole names c.plane g → AreLegs (making c meaning) k g legs → (v : ChainJudgement) → JudgesLegs (judged_chain c meaning names) k g (said_from k before legs) v → v ≡ Yes
  unfolding AreLegs JudgesLegs
  only_from [] k before g whole follow v h = h
  only_from (l ∷ ls) k before g whole follow v (inl parts) =
      let after = whole_left names c meaning k g l.records can.chain can.brings whole in
      let rest = subst (λ (h : GridValue). AreLegs (making c meaning) (k + 1) h ls) follow.0.replayed follow.1 in
      only_from ls (k + 1) (before + lines_in (shown_of l)) (replay meaning ((making c meaning).acts k g) l.records) after rest v parts.1
  only_from (l ∷ ls) k before g whole follow v (inr fault) =
      let said = leg_said before (leg_text c names k no_counts l) (entries_in (shown_of l)) in
      let right = judged_yes k before g l whole follow.0 in
      absurd (fault.other (only_yes (named_course (leg_course (making c meaning) k g) names) (whole_text c.journal c.plane (leg_plan c k).lists said.bytes) said.entries fault.judgement right.0 right.1 fault.judged))

  own_from : (legs : List Leg) (k before : ℕ) → AreSaidOf legs (said_from k before legs)
  unfolding AreSaidOf
  own_from [] k before = tt
  own_from (l ∷ ls) k before = (record { records = refl; abandoned = refl }, own_from ls (k + 1) (before + lines_in (shown_of l)))

  pub yes_of : (legs : List Leg) → AreLegsOf c meaning legs → IsJudgedYes names c meaning legs
  yes_of legs are =
      let whole = whole_first names c can.chain in
      let bytes = chain_report c names legs in
      record {
        said = said_from c.first 0 legs;
        reads =
            read_by c.journal can.readable c bytes
            ∙ ap (λ n. read_legs c.journal c.plane (leg_plan c) c.first n 0 bytes) (sym are.count)
            ∙ reads_from legs c.first 0 (first_grid c) whole are.follow;
        own = own_from legs c.first 0;
        judged = judges_from legs c.first 0 (first_grid c) whole are.follow;
        only = only_from legs c.first 0 (first_grid c) whole are.follow;
      }
