-- The report of a chain that is cut after some lines lacks the next one.
use Rattle.std.proofs.Common.{ℕ, zero, suc, ◌≡◌, ◌+◌, ◌-◌, ◌<◌, List, [], ◌∷◌, ◌++◌, All, append_assoc, length, length-append, refl, ap, sym, subst, ◌∙◌, arith, Some, Result, Ok, Err, take, inl, inr}
use Rattle.std.proofs.Math.Seq.{drop-append_seam, take-append-add, take-append_seam}
use Rattle.std.proofs.lemmas.Bool.{cases_lt}
use Rattle.std.proofs.lemmas.Grind.{flat_map-append}
use Rattle.std.proofs.lemmas.List.Elements.{All-drop, All-take}
use Rattle.std.proofs.lemmas.List.{take-append-le}
use Rattle.chain_text.specs.Chain.{ChainValue}
use Rattle.chain_text.specs.Legs.{leg_plan}
use Rattle.chain_text.specs.declared.chain.Journal.{Journal}
use Rattle.chain_text.specs.declared.chain.Journal.TheVariants.{Whole, Short, Counts}
use Rattle.draw_stream.specs.Plans.{PlanValue}
use Rattle.report_text.proofs.Counted.{short_counted, whole_counted}
use Rattle.report_text.proofs.Exact.{ended}
use Rattle.report_text.proofs.Fronts.{cut_first, front_of, front_told}
use Rattle.report_text.proofs.ShortOne.{no_end}
use Rattle.report_text.proofs.Shorter.{cut_short, short_cut_short}
use Rattle.report_text.specs.Entries.{Entries}
use Rattle.report_text.specs.First.{first_lines, first_report, later_reports, lines_counted}
use Rattle.report_text.specs.Reading.{Said, entries_said, read_report}
use Rattle.report_text.specs.Widened.{widened_text}
use Rattle.report_text.specs.declared.journal_fault.LineFault.{LineFault}
use Rattle.report_text.specs.declared.journal_fault.LineFault.TheVariants.{BadForm}
use Rattle.text_lines.specs.Lines.{ended_line, line_text, text_of}
use Rattle.text_lines.specs.Printed.{IsLine}
use Rattle.tile_map.specs.Plane.{MapValue}
use Rattle.chain_run.specs.Cuts.{AreChainsCutShort}
use Rattle.chain_run.specs.Reading.{LegSaid, leg_then, read_chain_by, read_leg, read_legs}

-- The report of a leg

said_by : (r : Result Said (ℕ × LineFault)) (e : Entries) → entries_said r ≡ Ok e → (d : Said) × (r ≡ Ok d)
said_by (Ok d) e h = (d, refl)
said_by (Err fault) e h = cc

module _ (m : MapValue) (plan : PlanValue) (ls : List (List (List ℕ))) (lines : All IsLine ls) (e : Entries) where
  leg_counted : (j : Journal) → read_leg j m plan (text_of ls) ≡ Ok e → lines_counted (ended ls) ≡ Some (length ls)
  leg_counted Whole h = let s = said_by (read_report m plan.lists (text_of ls)) e h in whole_counted m plan.lists ls s.0 lines s.1
  leg_counted Short h = let s = said_by (read_report m plan.lists (widened_text m plan.lists (text_of ls))) e h in short_counted m plan.lists ls s.0 lines s.1
  leg_counted (Counts period) h = let s = said_by (read_report m plan.lists (text_of ls)) e h in whole_counted m plan.lists ls s.0 lines s.1

  leg_cut : (j : Journal) (k : ℕ) → read_leg j m plan (text_of ls) ≡ Ok e → k < length ls → read_leg j m plan (text_of (take k ls)) ≡ Err (k + 1, BadForm)
  leg_cut Whole k h less = let s = said_by (read_report m plan.lists (text_of ls)) e h in ap entries_said (cut_short m plan.lists ls s.0 k lines s.1 less)
  leg_cut Short k h less = let s = said_by (read_report m plan.lists (widened_text m plan.lists (text_of ls))) e h in ap entries_said (short_cut_short m plan.lists ls s.0 k lines s.1 less)
  leg_cut (Counts period) k h less = let s = said_by (read_report m plan.lists (text_of ls)) e h in ap entries_said (cut_short m plan.lists ls s.0 k lines s.1 less)

-- Reports of legs

both_said : (before : ℕ) (bytes : List ℕ) (r : Result Entries (ℕ × LineFault)) (later : Result (List LegSaid) (ℕ × LineFault)) (said : List LegSaid) → leg_then before bytes r later ≡ Ok said
    → (e : Entries) × (ss : List LegSaid) × (r ≡ Ok e) × (later ≡ Ok ss)
both_said before bytes (Err fault) later said h = cc
both_said before bytes (Ok e) (Err fault) said h = cc
both_said before bytes (Ok e) (Ok ss) said h = (e, ss, refl, refl)

module _ (j : Journal) (m : MapValue) (plan : ℕ → PlanValue) where
  abbrev Reads : ℕ → ℕ → ℕ → List (List (List ℕ)) → List LegSaid → Type 0
  Reads i n before ls said = read_legs j m plan i n before (text_of ls) ≡ Ok said

  -- a cut within the first report, which the lines `front` are
  cut_within : (i n before k : ℕ) (front : List (List (List ℕ))) (e : Entries) → All IsLine front → read_leg j m (plan i) (text_of front) ≡ Ok e → k < length front → read_legs j m plan i (suc n) before (text_of (take k front)) ≡ Err (before + (k + 1), BadForm)
  unfolding read_legs
  cut_within i n before k front e lines reads less =
      let counts = leg_counted m (plan i) front lines e j reads in
      let bytes = text_of (take k front) in
      let rest = read_legs j m plan (i + 1) n (before + first_lines bytes) (later_reports bytes) in
      (λ t. leg_then before (cut_first front lines counts k less t) (read_leg j m (plan i) (cut_first front lines counts k less t)) rest)
      ∙ ap (λ r. leg_then before bytes r rest) (leg_cut m (plan i) front lines e j k reads less)

  -- a cut behind it
  cut_behind : (i n before : ℕ) (front back : List (List (List ℕ))) (e : Entries) (fault : ℕ × LineFault) → All IsLine (front ++ back) → lines_counted (ended front) ≡ Some (length front) → All IsLine front → read_leg j m (plan i) (text_of front) ≡ Ok e
      → read_legs j m plan (i + 1) n (before + length front) (text_of back) ≡ Err fault → read_legs j m plan i (suc n) before (text_of (front ++ back)) ≡ Err fault
  unfolding read_legs
  cut_behind i n before front back e fault all counts lines reads later =
      let told = front_told front lines counts back all in
      ap (read_legs j m plan i (suc n) before) (flat_map-append ended_line front back)
      ∙ (λ t. leg_then before (told.first t) (read_leg j m (plan i) (told.first t)) (read_legs j m plan (i + 1) n (before + told.counted t) (told.later t)))
      ∙ (λ t. leg_then before (text_of front) (reads t) (later t))

  -- behind the last leg
  none_left : (i before : ℕ) (bytes : List ℕ) (said : List LegSaid) → read_legs j m plan i 0 before bytes ≡ Ok said → bytes ≡ []
  unfolding read_legs
  none_left i before [] said h = refl
  none_left i before (b ∷ bs) said h = cc

  legs_cut : (n i before k : ℕ) (ls : List (List (List ℕ))) (said : List LegSaid) → All IsLine ls → Reads i n before ls said → k < length ls → read_legs j m plan i n before (text_of (take k ls)) ≡ Err (before + (k + 1), BadForm)
  unfolding read_legs
  legs_cut zero i before k [] said lines reads less = absurd (omega (arith, less))
  legs_cut zero i before k (l ∷ ls) said lines reads less =
      absurd (no_end (line_text l) (text_of ls) (sym (none_left i before (text_of (l ∷ ls)) said reads) ∙ append_assoc (line_text l) (10 ∷ []) (text_of ls)))
  legs_cut (suc n) i before k ls said lines reads less =
      let split = front_of ls lines in
      let front = split.0 in
      let back = split.1 in
      let is = split.2 in
      let parts = both_said before (first_report (text_of ls)) (read_leg j m (plan i) (first_report (text_of ls))) (read_legs j m plan (i + 1) n (before + first_lines (text_of ls)) (later_reports (text_of ls))) said reads in
      let e = parts.0 in
      let all = subst (All IsLine) is.lines lines in
      let fronts = subst (All IsLine) (take-append_seam front back) (All-take IsLine (length front) (front ++ back) all) in
      let backs = subst (All IsLine) (drop-append_seam front back) (All-drop IsLine (length front) (front ++ back) all) in
      let leg = sym (ap (read_leg j m (plan i)) is.first) ∙ parts.2 in
      let counts = leg_counted m (plan i) front fronts e j leg in
      let told = front_told front fronts counts back all in
      let lines_are = ap first_lines (ap text_of is.lines ∙ flat_map-append ended_line front back) ∙ told.counted in
      let later = sym (λ t. read_legs j m plan (i + 1) n (before + lines_are t) (is.later t)) ∙ parts.3 in
      elim (cases_lt k (length front)) [
        | inl within ↦ ap (λ z. read_legs j m plan i (suc n) before (text_of z)) (ap (take k) is.lines ∙ take-append-le k front back (omega (arith, within))) ∙ cut_within i n before k front e fronts leg within
        | inr behind ↦
            let past = k - length front in
            let at : length front + past ≡ k = omega (arith, behind) in
            let size = ap length is.lines ∙ length-append front back in
            let cut = legs_cut n (i + 1) (before + length front) past back parts.1 backs later (omega (arith, less, size, behind)) in
            let left = ap (λ q. take q (front ++ back)) (sym at) ∙ take-append-add front back past in
            let lines_left = subst (All IsLine) left (All-take IsLine k (front ++ back) all) in
            let line : before + length front + (past + 1) ≡ before + (k + 1) = omega (arith, behind) in
            ap (λ z. read_legs j m plan i (suc n) before (text_of z)) (ap (take k) is.lines ∙ left)
            ∙ cut_behind i n before front (take past back) e (before + length front + (past + 1), BadForm) lines_left counts fronts leg cut
            ∙ ap (λ q. Err (q, BadForm)) line
      ]

pub chains_cut_short : AreChainsCutShort
chains_cut_short = λ c ls said k lines reads less. on c ls said k c.journal lines reads less
  where
    legs : (j : Journal) (c : ChainValue) (ls : List (List (List ℕ))) (said : List LegSaid) (k : ℕ) → All IsLine ls → read_legs j c.plane (leg_plan c) c.first c.legs 0 (text_of ls) ≡ Ok said → k < length ls
        → read_legs j c.plane (leg_plan c) c.first c.legs 0 (text_of (take k ls)) ≡ Err (k + 1, BadForm)
    legs j c ls said k lines reads less = let at : 0 + (k + 1) ≡ k + 1 = omega arith in legs_cut j c.plane (leg_plan c) c.legs c.first 0 k ls said lines reads less ∙ ap (λ q. Err (q, BadForm)) at

    on : (c : ChainValue) (ls : List (List (List ℕ))) (said : List LegSaid) (k : ℕ) (j : Journal) → All IsLine ls → read_chain_by j c (text_of ls) ≡ Ok said → k < length ls → read_chain_by j c (text_of (take k ls)) ≡ Err (k + 1, BadForm)
    on c ls said k Whole lines reads less = legs Whole c ls said k lines reads less
    on c ls said k Short lines reads less = legs Short c ls said k lines reads less
    on c ls said k (Counts period) lines reads less = cc
