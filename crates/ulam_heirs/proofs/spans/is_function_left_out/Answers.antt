use Rattle.std.proofs.Common.{◌≡◌, ◌∙◌, sym, ap, ◌+◌, List, take, drop, Bool, ◌||◌, Some, nat_lt}
use Rattle.std.specs.Prelude.{◌&&◌}
use Rattle.ulam_tree.specs.Raw.{Word, Member}
use Rattle.ulam_tree.specs.RawViews.{member_of}
use Rattle.ulam_heirs.specs.declared.heir.Heir.{Heir as CodeHeir}
use Rattle.ulam_heirs.specs.Opened.{name_of}
use Rattle.ulam_heirs.specs.Spans.{span_by}
use Rattle.ulam_heirs.specs.Views.{heir_of, heirs_of}
use Rattle.ulam_heirs.proofs.Spanning.{around_of, left_by_span}
use Rattle.ulam_heirs.proofs.spans.is_function_left_out.Goals as goal

pub returns-in-Some : goal.returns-in-Some
returns-in-Some c =
    let xs : List CodeHeir = c.args.line.now in
    let m : Member = member_of c.args.member.now in
    let named : c.bytes.result.now ≡ name_of m = c.bytes.ensures ∙ ap (λ (w : Word). w.name) c.member_word.ensures in
    c.is_within.ensures
    ∙ ap (λ (w : Bool). (w || nat_lt c.in-Some.span.first c.args.index) && nat_lt c.args.index c.in-Some.span.last) c.has_word.ensures
    ∙ left_by_span c.args.index (heirs_of (take c.args.index xs)) (heirs_of (drop (c.args.index + 1) xs)) (heir_of c.args.heir.now) m c.in-Some.span c.requires.function
    (around_of xs c.args.index (name_of m) (Some c.in-Some.span) (c.requires.spans (name_of m) c.in-Some.span (sym (c.in-Some.ensures ∙ ap (λ n. span_by n c.args.spans.now.entries) named))))
