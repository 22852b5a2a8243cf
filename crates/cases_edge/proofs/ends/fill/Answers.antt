use Rattle.std.proofs.Common.{ℕ, ◌≡◌, ap, ◌∙◌, refl, arith}
use Rattle.edge_lock.specs.History.{site_count}
use Rattle.edge_lock.proofs.Counts.{sites_back}
use Rattle.cases_edge.proofs.ends.fill.Goals as goal

pub write-requires-4-clause-allowed : goal.write-requires-4-clause-allowed
write-requires-4-clause-allowed g c = λ site lt is.
    let E = g.D.Board.end in
    let same = c.write-3.ensures.change.same.1 ∙ c.write-2.ensures.change.same.1 ∙ c.write.ensures.change.same.1 ∙ c.try_take.ensures.change.same.1 in
    let one : site_count ((E c.write-3.new.self).registers 0) ≡ 1 = ap (λ (f : ℕ → ℕ). site_count (f 0)) same ∙ ap site_count c.requires.edge ∙ sites_back 1 in
    absurd (omega (arith, lt, one, is))

pub returns-clause-gap : goal.returns-clause-gap
returns-clause-gap g c =
    let E = g.D.Board.end in
    let same = c.read-news.ensures.change.same.1 ∙ c.write-4.ensures.change.same.1 ∙ c.write-3.ensures.change.same.1 ∙ c.write-2.ensures.change.same.1 ∙ c.write.ensures.change.same.1 ∙ c.try_take.ensures.change.same.1 in
    let one : site_count ((E c.read-news.new.self).registers 0) ≡ 1 = ap (λ (f : ℕ → ℕ). site_count (f 0)) same ∙ ap site_count c.requires.edge ∙ sites_back 1 in
    c.read-high.ensures.allowed 0 (omega (arith, one)) refl
