use Rattle.std.proofs.Common.{◌≡◌, ◌∷◌, List, ℕ, [], ap, sym, ◌∙◌, length, arith, length-append, ◌==◌, ◌<◌}
use Rattle.text_lines.proofs.Cuts.{lines_ended, lines_whole, lines_none}
use Rattle.text_lines.specs.Lines.{lines}
use Rattle.text_lines.proofs.cut.next_line.Goals as goal

pub returns-in-Some : goal.returns-in-Some
returns-in-Some c =
    let is = c.in-Some.ensures.1 in
    let size = ap length is in (
      lines_ended c.in-Some.line.now c.in-Some.rest.now c.args.bytes.now c.in-Some.ensures.0 is ∙ ap (λ z. z ∷ lines c.in-Some.rest.now) (sym c.without_cr.ensures),
      omega (arith, simp length-append at size),
    )

pub returns-in-None : goal.returns-in-None
returns-in-None c =
    let some : c.args.bytes.now ≡ [] → ⊥ = λ e. let t = sym c.if-is_empty.false ∙ c.is_empty.ensures ∙ ap (λ (z : List ℕ). length z == 0) e in cc in
    let whole = lines_whole c.args.bytes.now some c.in-None.ensures in
    let bytes_some : 0 < length c.args.bytes.now = grind (arith, c.if-is_empty.ensures) in
    (whole ∙ ap (λ z. c.args.bytes.now ∷ z) (sym lines_none), bytes_some)
