-- What follows from the reports that are left, once one more leg is made or judged.
use Rattle.std.proofs.Common.{ℕ, zero, suc, ◌≡◌, ◌≤◌, ◌<◌, ◌+◌, ◌-◌, true, false, List, ◌∷◌, length, take, refl, sym, ap, subst, ◌∙◌, arith, inl, inr}
use Rattle.std.specs.Prelude.{nat_le}
use Rattle.std.proofs.lemmas.Bool.{cases_lt}
use Rattle.std.proofs.lemmas.List.{take_all}
use Rattle.std.proofs.lemmas.List.Sums.{sum_by-cons}
use Rattle.cell_grid.specs.Grid.{GridValue}
use Rattle.cell_grid.specs.Records.{replay}
use Rattle.cell_grid.specs.declared.record.Record.{Record}
use Rattle.chain_text.specs.Chain.{ChainValue}
use Rattle.chain_text.specs.Legs.{leg_plan}
use Rattle.window_sites.specs.Window.{WindowValue}
use Rattle.report_judge.specs.Judging.{Judges, named_course}
use Rattle.report_judge.specs.declared.judgement.Judgement.{Judgement}
use Rattle.report_judge.specs.declared.judgement.Judgement.TheVariants as word
use Rattle.report_text.specs.Entries.{Entries}
use Rattle.chain_run.specs.Chains.{making}
use Rattle.chain_run.specs.Judging.{IsJudged, JudgesLegs, grid_said, in_file, judged_chain}
use Rattle.chain_run.specs.Legs.{Making, leg_course}
use Rattle.chain_run.specs.Places.{IsSought, Sought, place_past}
use Rattle.chain_run.specs.Reader.{IsLegSaid, LegValue, grid_by}
use Rattle.chain_run.specs.Reading.{LegSaid, whole_text}
use Rattle.chain_run.specs.Replays.{events_in, grid_amid, grid_at, grid_behind}
use Rattle.chain_run.specs.Standings.{IsRight, JudgesRest, StandsBehind}
use Rattle.chain_run.specs.declared.judgement.ChainJudgement.{ChainJudgement}
use Rattle.chain_run.specs.declared.judgement.ChainJudgement.TheVariants as said
use Rattle.chain_run.specs.declared.rewinding.Place.{Place}
use Rattle.chain_run.specs.declared.standing.Standing.{Standing}
use Rattle.chain_run.specs.declared.standing.Standing.TheVariants.{Yes, No}

-- replayed
pub behind_on : (c : Making) (k : ℕ) (g : GridValue) (l : LegValue) (s : LegSaid) (ls : List LegSaid) → IsLegSaid l s → grid_behind c k g (s ∷ ls) ≡ grid_behind c (k + 1) (grid_by c k g l.entries.records) ls
unfolding grid_behind
behind_on c k g l s ls h = ap (λ (e : Entries). grid_behind c (k + 1) (grid_by c k g e.records) ls) h.entries_are

-- rewound
amid_past : (c : Making) (k n : ℕ) (g : GridValue) (s : LegSaid) (ls : List LegSaid) → length s.entries.records < n → grid_amid c k g (s ∷ ls) n ≡ grid_amid c (k + 1) (grid_said c k g s) ls (n - length s.entries.records)
unfolding grid_amid
amid_past c k n g s ls far = rw (over (length s.entries.records) n far) refl
  where
    over : (a b : ℕ) → a < b → nat_le b a ≡ false
    over a b lt = grind arith

amid_here : (c : Making) (k n : ℕ) (g : GridValue) (s : LegSaid) (ls : List LegSaid) → n ≤ length s.entries.records → grid_amid c k g (s ∷ ls) n ≡ replay c.meaning (c.acts k g) (take n s.entries.records)
unfolding grid_amid
amid_here c k n g s ls near = rw (within (length s.entries.records) n near) refl
  where
    within : (a b : ℕ) → b ≤ a → nat_le b a ≡ true
    within a b le = grind arith

pub events_more : (s : LegSaid) (ls : List LegSaid) → events_in (s ∷ ls) ≡ length s.entries.records + events_in ls
events_more s ls = sum_by-cons (λ (l : LegSaid). length l.entries.records) s ls

at_some : (c : Making) (k n : ℕ) (g : GridValue) (ls : List LegSaid) → 1 ≤ n → grid_at c k g ls n ≡ grid_amid c k g ls n
at_some c k zero g ls some = absurd (omega (arith, some))
at_some c k (suc n) g ls some = refl

at_none : (c : Making) (k n : ℕ) (g : GridValue) (ls : List LegSaid) → n ≡ 0 → grid_at c k g ls n ≡ g
at_none c k n g ls none = ap (grid_at c k g ls) none

module _ (c : Making) (k : ℕ) (to : Sought) (s : LegSaid) (ls : List LegSaid) where
  -- behind a leg of whose events some remain
  at_on : (g : GridValue) (n : ℕ) → 1 ≤ n → grid_at c k g (s ∷ ls) n ≡ grid_at c (k + 1) (grid_by c k g (take n s.entries.records)) ls (n - length s.entries.records)
  at_on g n some = elim (cases_lt (length s.entries.records) n) [
    | inl far ↦
        at_some c k n g (s ∷ ls) some
        ∙ amid_past c k n g s ls far
        ∙ sym (at_some c (k + 1) (n - length s.entries.records) (grid_said c k g s) ls (omega (arith, far)))
        ∙ ap (λ (rs : List Record). grid_at c (k + 1) (grid_by c k g rs) ls (n - length s.entries.records)) (sym (take_all n s.entries.records (omega (arith, far))))
    | inr near ↦
        at_some c k n g (s ∷ ls) some
        ∙ amid_here c k n g s ls near
        ∙ sym (at_none c (k + 1) (n - length s.entries.records) (grid_by c k g (take n s.entries.records)) ls (omega (arith, near)))
  ]

  pub sought_on : (l : LegValue) (p q : Place) → IsLegSaid l s → 1 ≤ p.left → q ≡ place_past c k l.entries.records p → IsSought c k p (s ∷ ls) to → IsSought c (k + 1) q ls to
  sought_on l p q h some past sought =
      let here : q ≡ place_past c k s.entries.records p = past ∙ ap (λ (e : Entries). place_past c k e.records p) (sym h.entries_are) in
      let left = ap (λ (x : Place). x.left) here in (
        sought.0 ∙ at_on p.grid p.left some ∙ ap (λ (x : Place). grid_at c (k + 1) x.grid ls x.left) (sym here),
        omega (arith, sought.1, events_more s ls, left),
      )

-- judged
module _ (c : ChainValue) (meaning : WindowValue → ℕ → WindowValue) (names : List (List ℕ)) where
  right_said : (l : LegValue) (g : GridValue) (s : LegSaid) (j : Judgement) → l.chain ≡ c → IsLegSaid l s → IsRight (judged_chain c meaning names) l g j → IsJudged (judged_chain c meaning names) l.number g s j
  right_said l g s j of h right =
      let whole : l.whole ≡ whole_text c.journal c.plane (leg_plan c l.number).lists s.bytes = sym h.whole_is ∙ ap (λ (d : ChainValue). whole_text d.journal d.plane (leg_plan d l.number).lists s.bytes) of in
      let at = subst (λ (w : List ℕ). Judges (named_course (leg_course (making c meaning) l.number g) names) w l.entries j) whole right in
      subst (λ (e : Entries). Judges (named_course (leg_course (making c meaning) l.number g) names) (whole_text c.journal c.plane (leg_plan c l.number).lists s.bytes) e j) (sym h.entries_are) at

  pub judged_on : (l : LegValue) (s : LegSaid) (ls : List LegSaid) (old new : Standing) (v : ChainJudgement) → l.chain ≡ c → IsLegSaid l s → StandsBehind (judged_chain c meaning names) l old new
      → JudgesRest (judged_chain c meaning names) (l.number + 1) new ls v → JudgesRest (judged_chain c meaning names) l.number old (s ∷ ls) v
  unfolding JudgesLegs
  judged_on l s ls (No k j) new v of h stands rest = subst (λ (x : Standing). JudgesRest (judged_chain c meaning names) (l.number + 1) x ls v) stands rest
  judged_on l s ls (Yes g) (Yes f) v of h stands rest =
      let same : f ≡ grid_said (making c meaning) l.number g s = stands.1 ∙ ap (λ (e : Entries). grid_by (making c meaning) l.number g e.records) (sym h.entries_are) in
      inl (right_said l g s word.Yes of h stands.0, subst (λ (x : GridValue). JudgesLegs (judged_chain c meaning names) (l.number + 1) x ls v) same rest)
  judged_on l s ls (Yes g) (No k j) v of h stands rest =
      let right = stands.1 in
      inr (record {
        judgement = right.0;
        other = right.1;
        judged = right_said l g s right.0 of h right.2;
        said = rest ∙ ap (λ n. said.No n j) stands.0 ∙ ap (λ x. said.No l.number x) right.3 ∙ ap (λ b. said.No l.number (in_file b right.0)) (sym h.before_is);
      })
