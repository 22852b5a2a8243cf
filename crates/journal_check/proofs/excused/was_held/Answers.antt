use Rattle.std.proofs.Common.{◌≡◌, ⊎_elim, inr, ap, sym, subst, ◌∙◌, arith, true, false}
use Rattle.std.proofs.lemmas.Option.{MatchOption-at_none, MatchOption-at_some}
use Rattle.event_journal.specs.declared.abandoned.Abandoned.{Abandoned}
use Rattle.journal_check.specs.Excuses.{IsFound, IsMissing, abandoned_needs}
use Rattle.journal_check.proofs.Splits.{one_found}
use Rattle.journal_check.proofs.excused.was_held.Goals as goal

pub returns-in_default : goal.returns-in_default
returns-in_default c =
    let e = c.args.entry.now in
    let none = MatchOption-at_none (IsMissing c.args.abandoned.now e.holder e.holder_attempt) (IsFound c.args.abandoned.now e.holder e.holder_attempt) c.in_default.is c.find.ensures in
    ((λ q. cc), (λ h. ⊎_elim {C = false ≡ true} (λ a. let yes = c.has_mark.ensures.1 a in let no = c.if-has_mark.false in cc) (λ k. absurd (none k.0 k.1.0 k.1.1 k.1.2)) h))

pub returns-then-entry-gone : goal.returns-then-entry-gone
returns-then-entry-gone c =
    let e = c.args.entry.now in
    let found = MatchOption-at_some (IsMissing c.args.abandoned.now e.holder e.holder_attempt) (IsFound c.args.abandoned.now e.holder e.holder_attempt) c.in-Some.gone c.in-Some.is c.find.ensures in (
      (λ q. cc),
      (λ h. ⊎_elim {C = false ≡ true} (λ a. let yes = c.has_mark.ensures.1 a in let no = c.if-has_mark.false in cc)
          (λ k. let same = one_found c.args.abandoned.now e.holder e.holder_attempt c.in-Some.gone k.0 c.requires.sorted found k.1 in
          absurd (omega (arith, k.2, ap (λ (g : Abandoned). g.edge) same))) h),
    )

pub returns : goal.returns
returns c =
    let e = c.args.entry.now in
    let found = MatchOption-at_some (IsMissing c.args.abandoned.now e.holder e.holder_attempt) (IsFound c.args.abandoned.now e.holder e.holder_attempt) c.in-Some.gone c.in-Some.is c.find.ensures in (
      (λ q. inr (c.in-Some.gone, found, omega arith, sym c.needs_edge.ensures ∙ q)),
      (λ h. ⊎_elim {C = c.needs_edge.result ≡ true} (λ a. let yes = c.has_mark.ensures.1 a in let no = c.if-has_mark.false in cc)
          (λ k. let same = one_found c.args.abandoned.now e.holder e.holder_attempt c.in-Some.gone k.0 c.requires.sorted found k.1 in
          c.needs_edge.ensures ∙ subst (λ (g : Abandoned). abandoned_needs c.args.map.now e.edge g ≡ true) same k.3) h),
    )
