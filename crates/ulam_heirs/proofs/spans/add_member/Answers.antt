use Rattle.std.proofs.Common.{◌≡◌, ◌∙◌, sym, ap, Bool, true, Option}
use Rattle.ulam_tree.specs.Raw.{Word, Member}
use Rattle.ulam_tree.specs.RawViews.{member_of}
use Rattle.ulam_heirs.specs.declared.spans.Span.{Span}
use Rattle.ulam_heirs.specs.Flat.{is_function}
use Rattle.ulam_heirs.specs.Opened.{name_of}
use Rattle.ulam_heirs.specs.Spans.{span_by, longer_span}
use Rattle.ulam_heirs.specs.Views.{heir_of}
use Rattle.ulam_heirs.proofs.Spanning.{span_put}
use Rattle.ulam_heirs.proofs.spans.add_member.Goals as goal

pub returns : goal.returns
returns c =
    let m : Member = member_of c.args.member.now in
    let named : c.bytes-name.result.now ≡ name_of m = c.bytes-name.ensures ∙ ap (λ (w : Word). w.name) c.member_word.ensures in
    let fn : is_function m ≡ true = sym c.is_function.ensures ∙ c.if-not-is_function.false in
    span_put c.args.spans.now.entries c.insert.new.self.entries c.bytes-name.result c.in-Some.span (heir_of c.args.heir.now) c.args.index m fn named c.in_ok-insert.ensures.entries
    (c.in-Some.ensures ∙ ap (λ (o : Option Span). longer_span o c.has_word.result c.args.index) c.span_of.ensures ∙ ap (λ (w : Bool). longer_span (span_by c.bytes-name.result.now c.args.spans.now.entries) w c.args.index) c.has_word.ensures)
