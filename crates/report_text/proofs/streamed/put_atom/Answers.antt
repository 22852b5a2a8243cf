use Rattle.std.proofs.Common.{◌≡◌, ◌-◌, ◌++◌, ap, drop, map, refl, rules, take, ◌∙◌}
use Rattle.feast_base.specs.TypeNames.{name_of}
use Rattle.text_lines.specs.Lines.{text_of}
use Rattle.report_text.specs.Report.{atom_fields, shown_one}
use Rattle.report_text.specs.Writing.{Streams, heading}
use Rattle.report_text.proofs.Putting.{underway_cut, underway_last, underway_more, underway_none}
use Rattle.report_text.proofs.WrittenLines.{atom_parts, end_part, end_written, site_part, three_parts}
use Rattle.report_text.proofs.streamed.put_atom.Goals as goal

pub returns-in_err-put_bytes : goal.returns-in_err-put_bytes
returns-in_err-put_bytes g c =
    let names = c.args.names.now in
    let a = c.args.atom in
    let site = site_part c.args.width c.args.place in
    let name = name_of names a.kind in
    let end = end_part a.state in
    let text = text_of (map (atom_fields names) (shown_one c.args.width c.args.place a)) in
    let w = c.write_site-site_start in
    let first = take (42 - w.result) (drop w.result w.new.line) in
    let one : first ≡ site = end_written 42 w.result w.new.line site (search rules) w.ensures.written in
    let parts : site ++ (name ++ end) ≡ text = atom_parts names c.args.width c.args.place a (λ none. c.if-kind-eq0.false (c.kind.ensures ∙ none)) in
    let begun = underway_none (g.K.Sink.state c.args.sink.now) c.args.page.now text in
    let left : text ≡ first ++ (name ++ end) = three_parts first name end site name end text one refl refl parts in
    underway_cut _ _ (g.K.Sink.state c.put_bytes.new.sink) _ _ _ text first (name ++ end) text
    c.from_residual.result c.from_residual.ensures.0 begun left c.in_err-put_bytes.ensures

pub returns-in_err-put_bytes-2 : goal.returns-in_err-put_bytes-2
returns-in_err-put_bytes-2 g c =
    let names = c.args.names.now in
    let a = c.args.atom in
    let site = site_part c.args.width c.args.place in
    let name = name_of names a.kind in
    let end = end_part a.state in
    let text = text_of (map (atom_fields names) (shown_one c.args.width c.args.place a)) in
    let w = c.write_site-site_start in
    let first = take (42 - w.result) (drop w.result w.new.line) in
    let one : first ≡ site = end_written 42 w.result w.new.line site (search rules) w.ensures.written in
    let parts : site ++ (name ++ end) ≡ text = atom_parts names c.args.width c.args.place a (λ none. c.if-kind-eq0.false (c.kind.ensures ∙ none)) in
    let begun = underway_none (g.K.Sink.state c.args.sink.now) c.args.page.now text in
    let v = c.name_of.result.now in
    let two : v ≡ name = c.name_of.ensures ∙ ap (λ n. name_of names n) c.kind-2.ensures in
    let left : text ≡ first ++ (v ++ end) = three_parts first v end site name end text one two refl parts in
    let begun_one = underway_more _ _ (g.K.Sink.state c.put_bytes.new.sink) _ _ c.put_bytes.new.page text first (v ++ end) text begun left c.in_ok-put_bytes.ensures in
    underway_cut _ (g.K.Sink.state c.put_bytes.new.sink) (g.K.Sink.state c.put_bytes-2.new.sink) _ c.put_bytes.new.page _ (v ++ end) v end text
    c.from_residual-in_err-put_bytes-2.result c.from_residual-in_err-put_bytes-2.ensures.0 begun_one refl c.in_err-put_bytes-2.ensures

pub returns : goal.returns
returns g c =
    let names = c.args.names.now in
    let a = c.args.atom in
    let site = site_part c.args.width c.args.place in
    let name = name_of names a.kind in
    let end = end_part a.state in
    let text = text_of (map (atom_fields names) (shown_one c.args.width c.args.place a)) in
    let w = c.write_site-site_start in
    let first = take (42 - w.result) (drop w.result w.new.line) in
    let one : first ≡ site = end_written 42 w.result w.new.line site (search rules) w.ensures.written in
    let parts : site ++ (name ++ end) ≡ text = atom_parts names c.args.width c.args.place a (λ none. c.if-kind-eq0.false (c.kind.ensures ∙ none)) in
    let begun = underway_none (g.K.Sink.state c.args.sink.now) c.args.page.now text in
    let v = c.name_of.result.now in
    let two : v ≡ name = c.name_of.ensures ∙ ap (λ n. name_of names n) c.kind-2.ensures in
    let left : text ≡ first ++ (v ++ end) = three_parts first v end site name end text one two refl parts in
    let begun_one = underway_more _ _ (g.K.Sink.state c.put_bytes.new.sink) _ _ c.put_bytes.new.page text first (v ++ end) text begun left c.in_ok-put_bytes.ensures in
    let e = c.write_atom_end-end_start in
    let last = take (20 - e.result) (drop e.result e.new.line) in
    let three : last ≡ end = end_written 20 e.result e.new.line (end_part c.state.result) (search rules) e.ensures.written ∙ ap end_part c.state.ensures.value in
    let begun_two = underway_more _ (g.K.Sink.state c.put_bytes.new.sink) (g.K.Sink.state c.put_bytes-2.new.sink) _ c.put_bytes.new.page c.put_bytes-2.new.page (v ++ end) v end text begun_one refl c.in_ok-put_bytes-2.ensures in
    let put : Streams (heading (g.K.Sink.state c.put_bytes-2.new.sink) c.put_bytes-2.new.page) (heading (g.K.Sink.state c.put_bytes-3.new.sink) c.put_bytes-3.new.page) last c.put_bytes-3.result = c.put_bytes-3.ensures in
    underway_last _ (g.K.Sink.state c.put_bytes-2.new.sink) (g.K.Sink.state c.put_bytes-3.new.sink) _ c.put_bytes-2.new.page _ end text c.put_bytes-3.result begun_two (rw three at put)
