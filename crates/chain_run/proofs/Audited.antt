-- The reports of a chain's legs, judged one after another.
use Rattle.std.proofs.Common.{ℕ, ◌≡◌, ◌+◌, List, [], ◌∷◌, Ok, refl, sym, ap, subst, ◌∙◌}
use Rattle.window_sites.specs.Window.{WindowValue}
use Rattle.cell_grid.specs.Grid.{GridValue}
use Rattle.chain_text.specs.Chain.{ChainValue}
use Rattle.chain_run.specs.Answers.{AuditsLegs}
use Rattle.chain_run.specs.Chains.{first_grid}
use Rattle.chain_run.specs.Judging.{JudgesLegs, judged_chain}
use Rattle.chain_run.specs.Reader.{Begins, Follows, IsTaken, LegValue, ReaderValue, next_leg, said_by}
use Rattle.chain_run.specs.Reading.{LegSaid, read_chain}
use Rattle.chain_run.specs.Standings.{IsKnownStanding, JudgesRest, StandsBehind, verdict}
use Rattle.chain_run.specs.declared.judgement.ChainJudgement.{ChainJudgement}
use Rattle.chain_run.specs.declared.standing.Standing.{Standing}
use Rattle.chain_run.specs.declared.standing.Standing.TheVariants.{Yes, No}
use Rattle.chain_run.proofs.Follows.{follow_end}
use Rattle.chain_run.proofs.Onward.{judged_on}
use Rattle.chain_run.proofs.Replayed.{begun, gone_on}

-- a judgement on the legs that are left is one on all
abbrev pub IsJudgedOn : ChainValue → (WindowValue → ℕ → WindowValue) → List (List ℕ) → ReaderValue → Standing → List LegSaid → List LegSaid → Type 0
IsJudgedOn c meaning names r standing ls said = (v : ChainJudgement) → JudgesRest (judged_chain c meaning names) (next_leg r) standing ls v → JudgesLegs (judged_chain c meaning names) c.first (first_grid c) said v

module _ (c : ChainValue) (meaning : WindowValue → ℕ → WindowValue) (names : List (List ℕ)) (bytes : List ℕ) where
  pub audit_first : (r : ReaderValue) (g : GridValue) → Begins c bytes (Ok r) → g ≡ first_grid c → Follows (said_by r) (read_chain c bytes) (IsJudgedOn c meaning names r (Yes g))
  audit_first r g h is =
      begun c bytes r (IsJudgedOn c meaning names r (Yes g)) h
      (λ ls v rest. subst (λ (x : GridValue). JudgesLegs (judged_chain c meaning names) c.first x ls v) is (subst (λ k. JudgesLegs (judged_chain c meaning names) k g ls v) h.1 rest))

  pub audit_on : (old new : ReaderValue) (l : LegValue) (before behind : Standing) → old.chain ≡ c → IsTaken old new l → StandsBehind (judged_chain l.chain meaning names) l before behind
      → Follows (said_by old) (read_chain c bytes) (IsJudgedOn c meaning names old before) → Follows (said_by new) (read_chain c bytes) (IsJudgedOn c meaning names new behind)
  audit_on old new l before behind of t stands rest =
      let chain = t.of_chain ∙ of in
      let here = subst (λ (d : ChainValue). StandsBehind (judged_chain d meaning names) l before behind) chain stands in
      let next : next_leg new ≡ l.number + 1 = t.on ∙ ap (λ k. k + 1) (sym t.here) in
      gone_on old new l (read_chain c bytes) (IsJudgedOn c meaning names old before) (IsJudgedOn c meaning names new behind) t
      (λ ls said was v later. was v (subst (λ k. JudgesRest (judged_chain c meaning names) k before (t.said ∷ ls) v) t.here
      (judged_on c meaning names l t.said ls before behind v chain t.is_said here (subst (λ k. JudgesRest (judged_chain c meaning names) k behind ls v) next later)))) rest

  ends : (k : ℕ) (s : Standing) → JudgesRest (judged_chain c meaning names) k s [] (verdict s)
  unfolding JudgesLegs
  ends k (Yes g) = refl
  ends k (No n j) = refl

  pub audit_end : (r : ReaderValue) (s : Standing) (v : ChainJudgement) → said_by r ≡ Ok [] → Follows (said_by r) (read_chain c bytes) (IsJudgedOn c meaning names r s) → v ≡ verdict s → AuditsLegs c meaning names bytes (Ok v)
  audit_end r s v none rest is =
      let end = follow_end (said_by r) (read_chain c bytes) (IsJudgedOn c meaning names r s) none rest in
      (end.0, end.1, end.2 v (subst (JudgesRest (judged_chain c meaning names) (next_leg r) s []) (sym is) (ends (next_leg r) s)))

-- the standing is known for another value of the same chain and meaning
pub known_of : (names : List (List ℕ)) (c d : ChainValue) (after other : WindowValue → ℕ → WindowValue) (s : Standing) → c ≡ d → after ≡ other → IsKnownStanding names c after s → IsKnownStanding names d other s
known_of names c d after other s chain meaning = subst (λ (x : ChainValue). IsKnownStanding names c after s → IsKnownStanding names x other s) chain (subst (λ (m : WindowValue → ℕ → WindowValue). IsKnownStanding names c after s → IsKnownStanding names c m s) meaning (λ h. h))
