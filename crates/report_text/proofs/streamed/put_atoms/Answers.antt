use Rattle.std.proofs.Common.{List, ◌≡◌, ◌+◌, ◌++◌, ◌∷◌, drop, map, sym, ap, ◌∙◌}
use Rattle.std.proofs.lemmas.List.{at_drop_all, at_drop_more, map-append}
use Rattle.std.proofs.lemmas.Grind.{flat_map-append}
use Rattle.bit_field.specs.Atom.{AtomValue}
use Rattle.text_lines.specs.Lines.{ended_line, text_of}
use Rattle.report_text.specs.Report.{atom_fields, shown_from, shown_one}
use Rattle.report_text.proofs.Putting.{underway_cut, underway_done, underway_more}
use Rattle.report_text.proofs.streamed.put_atoms.Goals as goal

pub loop-place-preserved : goal.loop-place-preserved
unfolding shown_from
loop-place-preserved g c =
    let atoms = c.args.atoms.now in
    let l = c.loop-place in
    let a = c.index-atoms-place.result in
    let fields = atom_fields c.args.names.now in
    let one = shown_one c.args.width l.place a in
    let more = shown_from c.args.width (l.place + 1) (drop (l.place + 1) atoms) in
    let text = λ (xs : List AtomValue). text_of (map fields (shown_from c.args.width l.place xs)) in
    let next : text (drop l.place atoms) ≡ text (a ∷ drop (l.place + 1) atoms) =
    at_drop_more text atoms l.place a c.loop-place-test.true ∙ ap (λ b. text (b ∷ drop (l.place + 1) atoms)) (sym c.index-atoms-place.is) in
    let split : text (a ∷ drop (l.place + 1) atoms) ≡ text_of (map fields one) ++ text_of (map fields more) =
    ap text_of (map-append fields one more) ∙ flat_map-append ended_line (map fields one) (map fields more) in
    underway_more _ (g.K.Sink.state l.sink) (g.K.Sink.state c.put_atom.new.sink) _ l.page _ _
    (text_of (map fields one)) (text_of (map fields more)) _ l.invariant (next ∙ split) c.in_ok-put_atom.ensures

pub returns-in_err-put_atom : goal.returns-in_err-put_atom
unfolding shown_from
returns-in_err-put_atom g c =
    let atoms = c.args.atoms.now in
    let l = c.loop-place in
    let a = c.index-atoms-place.result in
    let fields = atom_fields c.args.names.now in
    let one = shown_one c.args.width l.place a in
    let more = shown_from c.args.width (l.place + 1) (drop (l.place + 1) atoms) in
    let text = λ (xs : List AtomValue). text_of (map fields (shown_from c.args.width l.place xs)) in
    let next : text (drop l.place atoms) ≡ text (a ∷ drop (l.place + 1) atoms) =
    at_drop_more text atoms l.place a c.loop-place-test.true ∙ ap (λ b. text (b ∷ drop (l.place + 1) atoms)) (sym c.index-atoms-place.is) in
    let split : text (a ∷ drop (l.place + 1) atoms) ≡ text_of (map fields one) ++ text_of (map fields more) =
    ap text_of (map-append fields one more) ∙ flat_map-append ended_line (map fields one) (map fields more) in
    underway_cut _ (g.K.Sink.state l.sink) (g.K.Sink.state c.put_atom.new.sink) _ l.page _ _
    (text_of (map fields one)) (text_of (map fields more)) _
    c.from_residual.result c.from_residual.ensures.0 l.invariant (next ∙ split) c.in_err-put_atom.ensures

pub returns : goal.returns
unfolding shown_from
returns g c =
    let l = c.loop-place in
    let text = λ (xs : List AtomValue). text_of (map (atom_fields c.args.names.now) (shown_from c.args.width l.place xs)) in
    underway_done _ (g.K.Sink.state l.sink) _ l.page _ _ l.invariant (at_drop_all text c.args.atoms.now l.place c.loop-place-test.false)
