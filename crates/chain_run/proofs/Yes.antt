-- Bytes that are judged with yes are the report of legs.
use Rattle.std.proofs.Common.{ℕ, suc, zero, ◌≡◌, ◌≢◌, ◌+◌, List, [], ◌∷◌, ◌++◌, Result, Ok, Err, length, refl, sym, ap, subst, ◌∙◌, inl, inr}
use Rattle.window_sites.specs.Window.{WindowValue}
use Rattle.cell_grid.specs.Grid.{GridValue}
use Rattle.chain_text.specs.Chain.{ChainValue}
use Rattle.chain_text.specs.Legs.{leg_plan}
use Rattle.chain_text.specs.declared.chain.Journal.{Journal}
use Rattle.chain_text.specs.declared.chain.Journal.TheVariants.{Whole, Short, Counts}
use Rattle.report_judge.specs.declared.judgement.Judgement.TheVariants as word
use Rattle.report_text.proofs.Firsts.{first_and_later}
use Rattle.report_text.specs.Again.{IsLeft}
use Rattle.report_text.specs.Entries.{Entries}
use Rattle.report_text.specs.First.{first_lines, first_report, later_reports}
use Rattle.report_text.specs.Report.{report, report_value}
use Rattle.report_text.specs.ShortLaws.{IsTheShortOne}
use Rattle.report_text.specs.declared.journal_fault.LineFault.{LineFault}
use Rattle.chain_run.proofs.Wholes.{IsWhole, whole_first, whole_left}
use Rattle.chain_run.specs.Audits.{AreLegsIn, IsAuditable}
use Rattle.chain_run.specs.Chains.{first_grid, making}
use Rattle.chain_run.specs.Judging.{IsJudged, JudgesChain, JudgesLegs, grid_said, judged_chain}
use Rattle.chain_run.specs.Legs.{AreLegs, Leg}
use Rattle.chain_run.specs.Reader.{Reports, leg_said}
use Rattle.chain_run.specs.Reading.{LegSaid, leg_then, read_chain_by, read_leg, read_legs, whole_text}
use Rattle.chain_run.specs.Reports.{CountsValue, counts_behind_by, leg_text_by, legs_text, no_counts}
use Rattle.chain_run.specs.declared.judgement.ChainJudgement.TheVariants.{Yes}

-- no counts are kept where reports can be read
pub counts_stay : (j : Journal) → ((period : ℕ) → j ≢ Counts period) → (c : ChainValue) (k : ℕ) (n : CountsValue) (l : Leg) → counts_behind_by j c k n l ≡ n
counts_stay Whole some c k n l = refl
counts_stay Short some c k n l = refl
counts_stay (Counts period) some c k n l = absurd (some period refl)

-- and reports are read leg by leg
pub read_by : (j : Journal) → ((period : ℕ) → j ≢ Counts period) → (c : ChainValue) (bytes : List ℕ) → read_chain_by j c bytes ≡ read_legs j c.plane (leg_plan c) c.first c.legs 0 bytes
read_by Whole some c bytes = refl
read_by Short some c bytes = refl
read_by (Counts period) some c bytes = absurd (some period refl)

module _ (names : List (List ℕ)) (c : ChainValue) (meaning : WindowValue → ℕ → WindowValue) (can : IsAuditable names c meaning) (short : (k : ℕ) → IsTheShortOne names c.plane (leg_plan c k)) where
  -- legs whose text these bytes are
  record AreFound (k : ℕ) (g : GridValue) (n : ℕ) (bytes : List ℕ) : Type 0 where
    legs : List Leg
    count : length legs ≡ n
    follow : AreLegs (making c meaning) k g legs
    text : bytes ≡ legs_text c names k no_counts legs

  abbrev said_leg : ℕ → GridValue → LegSaid → Leg
  said_leg k g l = record { grid = grid_said (making c meaning) k g l; records = l.entries.records; abandoned = l.entries.abandoned }

  text_by : (j : Journal) → ((period : ℕ) → j ≢ Counts period) → (k : ℕ) (bytes : List ℕ) (e : Entries) (g : GridValue) → IsLeft names c.plane (leg_plan c k) (report_value g e.records e.abandoned)
      → whole_text j c.plane (leg_plan c k).lists bytes ≡ report names g e.records e.abandoned
      → bytes ≡ leg_text_by j c names k no_counts (record { grid = g; records = e.records; abandoned = e.abandoned })
  text_by Whole some k bytes e g left is = is
  text_by Short some k bytes e g left is = short k bytes (report_value g e.records e.abandoned) left is
  text_by (Counts period) some k bytes e g left is = absurd (some period refl)

  with_leg : (k n before : ℕ) (g : GridValue) (bytes : List ℕ) (e : Entries) → IsWhole names c.plane g
      → IsJudged (judged_chain c meaning names) k g (leg_said before (first_report bytes) e) word.Yes
      → AreFound (k + 1) (grid_said (making c meaning) k g (leg_said before (first_report bytes) e)) n (later_reports bytes) → AreFound k g (suc n) bytes
  unfolding AreLegs legs_text
  with_leg k n before g bytes e whole judged found =
      let l = said_leg k g (leg_said before (first_report bytes) e) in
      let after = whole_left names c meaning k g e.records can.chain can.brings whole in
      let left : IsLeft names c.plane (leg_plan c k) (report_value l.grid e.records e.abandoned) = record { wide = after.size.wide; sites = after.size.sites; named = after.named; owes = judged.0 } in
      let here = text_by c.journal can.readable k (first_report bytes) e l.grid left judged.1 in
      record {
        legs = l ∷ found.legs;
        count = ap suc found.count;
        follow = (record { owes = judged.0; replayed = refl }, found.follow);
        text =
            sym (first_and_later bytes)
            ∙ ap (λ b. b ++ later_reports bytes) here
            ∙ ap (λ b. leg_text_by c.journal c names k no_counts l ++ b) (found.text ∙ ap (λ m. legs_text c names (k + 1) m found.legs) (sym (counts_stay c.journal can.readable c k no_counts l)));
      }

  judged_first : (k : ℕ) (g : GridValue) (l : LegSaid) (ls : List LegSaid) → JudgesLegs (judged_chain c meaning names) k g (l ∷ ls) Yes
      → IsJudged (judged_chain c meaning names) k g l word.Yes × JudgesLegs (judged_chain c meaning names) (k + 1) (grid_said (making c meaning) k g l) ls Yes
  unfolding JudgesLegs
  judged_first k g l ls (inl parts) = parts
  judged_first k g l ls (inr fault) = let other = fault.said in cc

  found_from : (n k before : ℕ) (g : GridValue) (bytes : List ℕ) (said : List LegSaid) → IsWhole names c.plane g → read_legs c.journal c.plane (leg_plan c) k n before bytes ≡ Ok said → JudgesLegs (judged_chain c meaning names) k g said Yes → AreFound k g n bytes
  unfolding read_legs AreLegs legs_text
  found_from zero k before g [] said whole h judged = record { legs = []; count = refl; follow = tt; text = refl }
  found_from zero k before g (b ∷ bs) said whole h judged = cc
  found_from (suc n) k before g bytes said whole h judged =
      on (read_leg c.journal c.plane (leg_plan c k) (first_report bytes)) (read_legs c.journal c.plane (leg_plan c) (k + 1) n (before + first_lines bytes) (later_reports bytes)) refl said h judged
      (λ e ls is rest. found_from n (k + 1) (before + first_lines bytes) (grid_said (making c meaning) k g (leg_said before (first_report bytes) e)) (later_reports bytes) ls (whole_left names c meaning k g e.records can.chain can.brings whole) is rest)
    where
      on : (r : Result Entries (ℕ × LineFault)) (later : Reports) → read_legs c.journal c.plane (leg_plan c) (k + 1) n (before + first_lines bytes) (later_reports bytes) ≡ later
          → (said : List LegSaid) → leg_then before (first_report bytes) r later ≡ Ok said → JudgesLegs (judged_chain c meaning names) k g said Yes
          → ((e : Entries) (ls : List LegSaid) → read_legs c.journal c.plane (leg_plan c) (k + 1) n (before + first_lines bytes) (later_reports bytes) ≡ Ok ls
          → JudgesLegs (judged_chain c meaning names) (k + 1) (grid_said (making c meaning) k g (leg_said before (first_report bytes) e)) ls Yes
          → AreFound (k + 1) (grid_said (making c meaning) k g (leg_said before (first_report bytes) e)) n (later_reports bytes))
          → AreFound k g (suc n) bytes
      on (Err fault) later at said h judged more = cc
      on (Ok e) (Err fault) at said h judged more = cc
      on (Ok e) (Ok ls) at said h judged more =
          let l = leg_said before (first_report bytes) e in
          let same : l ∷ ls ≡ said = cc in
          let parts = judged_first k g l ls (subst (λ (x : List LegSaid). JudgesLegs (judged_chain c meaning names) k g x Yes) (sym same) judged) in
          with_leg k n before g bytes e whole parts.0 (more e ls at parts.1)

  pub found_if_yes : (bytes : List ℕ) (said : List LegSaid) → read_chain_by c.journal c bytes ≡ Ok said → JudgesChain c meaning names said Yes → AreLegsIn names c meaning bytes
  found_if_yes bytes said h judged =
      let found = found_from c.legs c.first 0 (first_grid c) bytes said (whole_first names c can.chain) (sym (read_by c.journal can.readable c bytes) ∙ h) judged in
      (found.legs, record { count = found.count; follow = found.follow }, found.text)
