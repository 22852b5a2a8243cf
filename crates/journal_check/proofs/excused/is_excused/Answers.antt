use Rattle.std.proofs.Common.{◌+◌, ap, sym, subst, ◌∙◌, List}
use Rattle.tile_map.specs.Plane.{site}
use Rattle.journal_check.specs.Excuses.{WasHeld}
use Rattle.journal_check.specs.declared.mark.Mark.{Mark}
use Rattle.journal_check.proofs.Excusing.{needs_known}
use Rattle.journal_check.proofs.Splits.{apart_same}
use Rattle.journal_check.proofs.excused.is_excused.Goals as goal

pub joins-requires : goal.joins-requires
joins-requires c = let g = c.args.entry.now in needs_known c.args.map.now g.tile (site g.x g.y) g.edge (sym c.needs_edge.ensures ∙ c.if-not-needs_edge.false)

pub returns-then-not-needs_edge : goal.returns-then-not-needs_edge
returns-then-not-needs_edge c = (
  (λ q. cc),
  (λ h.
      let yes = c.needs_edge.ensures ∙ h.needs in
      let no = c.if-not-needs_edge.true in cc),
)

pub returns-then-not-joins : goal.returns-then-not-joins
returns-then-not-joins c = (
  (λ q. cc),
  (λ h.
      let yes = c.joins.ensures.joins.1 h.ends in
      let no = c.if-not-joins.true in cc),
)

pub returns-then-not-was_held : goal.returns-then-not-was_held
returns-then-not-was_held c =
    let g = c.args.entry.now in (
      (λ q. cc),
      (λ h.
          let yes = c.was_held.ensures.1 (subst
          (λ (l : List Mark). WasHeld c.args.map.now l c.args.abandoned.now g)
          (sym c.marks_at-other.ensures.value) h.held) in
          let no = c.if-not-was_held.true in cc),
    )

pub returns-then-not-are_apart : goal.returns-then-not-are_apart
returns-then-not-are_apart c = (
  (λ q. cc),
  (λ h.
      let yes = c.are_apart.ensures.1 (apart_same _ _ _ _ _ _ _ _ (sym c.marks_at-own.ensures.value) (sym c.from-attempt.ensures) (sym c.marks_at-other.ensures.value) (sym c.from-held.ensures) h.after) in
      let no = c.if-not-are_apart.true in cc),
)

pub returns : goal.returns
returns c =
    let g = c.args.entry.now in (
      (λ q. record {
        needs = sym c.needs_edge.ensures ∙ c.if-not-needs_edge.false;
        ends = c.joins.ensures.joins.0 c.if-not-joins.false;
        held = subst (λ (l : List Mark). WasHeld c.args.map.now l c.args.abandoned.now g) c.marks_at-other.ensures.value (c.was_held.ensures.0 c.if-not-was_held.false);
        after = apart_same _ _ _ _ _ _ _ _ c.marks_at-own.ensures.value c.from-attempt.ensures c.marks_at-other.ensures.value c.from-held.ensures (c.are_apart.ensures.0 c.if-not-are_apart.false);
        before = apart_same _ _ _ _ _ _ _ _ c.marks_at-other.ensures.value (ap (λ n. n + 1) c.from-held.ensures) c.marks_at-own.ensures.value (ap (λ n. n + 1) c.from-attempt.ensures) (c.are_apart-2.ensures.0 q);
      }),
      (λ h. c.are_apart-2.ensures.1 (apart_same _ _ _ _ _ _ _ _ (sym c.marks_at-other.ensures.value) (sym (ap (λ n. n + 1) c.from-held.ensures)) (sym c.marks_at-own.ensures.value) (sym (ap (λ n. n + 1) c.from-attempt.ensures)) h.before)),
    )
