-- Legs whose report says them: what it says leads to the grid that they leave.
use Rattle.std.proofs.Common.{ℕ, ◌≡◌, ◌≢◌, ◌+◌, List, [], ◌∷◌, Ok, refl, sym, ap, subst, ◌∙◌}
use Rattle.cell_grid.specs.Grid.{GridValue}
use Rattle.cell_grid.specs.Records.{replay}
use Rattle.chain_text.specs.Chain.{ChainValue}
use Rattle.chain_text.specs.declared.chain.Journal.{Journal}
use Rattle.chain_text.specs.declared.chain.Journal.TheVariants.{Counts}
use Rattle.report_judge.specs.declared.judgement.Judgement.{Judgement}
use Rattle.chain_run.specs.Audits.{AreSaidOf}
use Rattle.chain_run.specs.Judging.{chain_judgement_text, grid_said}
use Rattle.chain_run.specs.Legs.{AreLegs, Leg, Making, grid_after}
use Rattle.chain_run.specs.Reading.{LegSaid, read_chain, read_chain_by}
use Rattle.chain_run.specs.Replays.{grid_behind}
use Rattle.chain_run.specs.declared.judgement.ChainJudgement.{ChainJudgement}
use Rattle.chain_run.specs.declared.judgement.ChainJudgement.TheVariants.{Yes, No}

pub own_grid : (c : Making) (k : ℕ) (g : GridValue) (legs : List Leg) (said : List LegSaid) → AreLegs c k g legs → AreSaidOf legs said → grid_behind c k g said ≡ grid_after g legs
unfolding AreLegs AreSaidOf grid_after grid_behind
own_grid c k g [] [] follow own = refl
own_grid c k g [] (s ∷ ss) follow own = absurd own
own_grid c k g (l ∷ ls) [] follow own = absurd own
own_grid c k g (l ∷ ls) (s ∷ ss) follow own =
    let here : grid_said c k g s ≡ l.grid = ap (replay c.meaning (c.acts k g)) own.0.records ∙ sym follow.0.replayed in
    ap (λ (x : GridValue). grid_behind c (k + 1) x ss) here ∙ own_grid c (k + 1) l.grid ls ss follow.1 own.1

-- a report that is read is not one of counts
not_counts : (j : Journal) (period : ℕ) (c : ChainValue) (bytes : List ℕ) (said : List LegSaid) → read_chain_by j c bytes ≡ Ok said → j ≢ Counts period
not_counts j period c bytes said reads = λ is.
    let faulty = subst (λ (x : Journal). read_chain_by x c bytes ≡ Ok said) is reads in
    cc

pub readable_if_read : (c : ChainValue) (bytes : List ℕ) (said : List LegSaid) → read_chain c bytes ≡ Ok said → (period : ℕ) → c.journal ≢ Counts period
readable_if_read c bytes said reads period = not_counts c.journal period c bytes said reads

-- the line of no other judgement is that of yes
pub yes_alone : (v : ChainJudgement) → chain_judgement_text v ≡ chain_judgement_text Yes → v ≡ Yes
yes_alone Yes is = refl
yes_alone (No leg j) is = cc
