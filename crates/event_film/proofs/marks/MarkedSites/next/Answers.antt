use Rattle.std.proofs.Common.{◌≡◌, ◌-◌, ◌+◌, ◌∙◌, ap, arith, refl, subst, sym}
use Rattle.std.specs.Prelude.{false, length, replicate}
use Rattle.std.specs.Int.{trailing_zeros, w64}
use Rattle.event_film.specs.Marks.{SitesFrom}
use Rattle.event_film.proofs.Marking.{next_site, none_marked}
use Rattle.event_film.proofs.marks.MarkedSites.next.Goals as goal

pub returns-then-self-eq0 : goal.returns-then-self-eq0
returns-then-self-eq0 c =
    let s = c.self.inside in
    let marks = ap (λ (v : SitesFrom). v.marks) c.self.view_is in
    (subst (λ ms. ms ≡ replicate (length ms) false) marks (none_marked (41 - s.at) s.left c.if-self-eq0.true), refl)

pub invariant_of-self : goal.invariant_of-self
invariant_of-self c =
    let s = c.self.inside in
    let next = next_site (41 - s.at) s.left (omega arith) c.self.invariant.1 c.if-self-eq0.false in
    let less : 41 - s.at - (trailing_zeros w64 s.left + 1) ≡ 41 - (s.at + trailing_zeros w64 s.left + 1) = omega arith in
    (omega (arith, next.within, c.self.invariant.0), rw less at next.few)

pub returns : goal.returns
returns c =
    let s = c.self.inside in
    let skip = trailing_zeros w64 s.left in
    let next = next_site (41 - s.at) s.left (omega arith) c.self.invariant.1 c.if-self-eq0.false in
    let at = ap (λ (v : SitesFrom). v.at) c.self.view_is in
    let marks = ap (λ (v : SitesFrom). v.marks) c.self.view_is in
    let less : 41 - s.at - (skip + 1) ≡ 41 - (s.at + skip + 1) = omega arith in
    let skipped : skip ≡ s.at + skip - c.args.self.now.at = omega (arith, at) in
    (omega (arith, at), omega (arith, next.within), rw (sym skipped, sym less) (sym marks ∙ next.marks), refl)
