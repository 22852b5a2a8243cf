use Rattle.std.proofs.Common.{◌≡◌, ◌++◌, ap, codes, map, refl, sym, ◌∙◌}
use Rattle.text_lines.specs.Lines.{ended_line, text_of}
use Rattle.report_text.specs.JournalText.{count_fields}
use Rattle.report_text.specs.Report.{atom_fields, atoms_text, shown_atoms, shown_from}
use Rattle.report_text.specs.Writing.{Streams, heading}
use Rattle.report_text.proofs.Putting.{underway_cut, underway_last, underway_more, underway_none}
use Rattle.report_text.proofs.streamed.put_grid.Goals as goal

pub returns-in_err-put_bytes : goal.returns-in_err-put_bytes
returns-in_err-put_bytes g c =
    let atoms = atoms_text c.args.names.now c.args.grid.now in
    let text = c.args.header.now ++ atoms in
    let begun = underway_none (g.K.Sink.state c.args.sink.now) c.args.page.now text in
    underway_cut _ _ (g.K.Sink.state c.put_bytes.new.sink) _ _ _ text c.args.header.now atoms text
    c.from_residual.result c.from_residual.ensures.0 begun refl c.in_err-put_bytes.ensures

pub returns-in_err-put_count : goal.returns-in_err-put_count
returns-in_err-put_count g c =
    let g' = c.args.grid.now in
    let atoms = atoms_text c.args.names.now g' in
    let text = c.args.header.now ++ atoms in
    let lines = text_of (map (atom_fields c.args.names.now) (shown_atoms g')) in
    let count = ended_line (count_fields (codes "atoms") c.count.result) in
    let begun = underway_none (g.K.Sink.state c.args.sink.now) c.args.page.now text in
    let one = underway_more _ _ (g.K.Sink.state c.put_bytes.new.sink) _ _ c.put_bytes.new.page text c.args.header.now atoms text begun refl c.in_ok-put_bytes.ensures in
    let is : atoms ≡ count ++ lines = ap (λ n. ended_line (count_fields (codes "atoms") n) ++ lines) (sym c.count.ensures) in
    underway_cut _ (g.K.Sink.state c.put_bytes.new.sink) (g.K.Sink.state c.put_count.new.sink) _ c.put_bytes.new.page _ atoms count lines text
    c.from_residual-in_err-put_count.result c.from_residual-in_err-put_count.ensures.0 one is c.in_err-put_count.ensures

pub returns : goal.returns
returns g c =
    let g' = c.args.grid.now in
    let fields = atom_fields c.args.names.now in
    let atoms = atoms_text c.args.names.now g' in
    let text = c.args.header.now ++ atoms in
    let lines = text_of (map fields (shown_atoms g')) in
    let count = ended_line (count_fields (codes "atoms") c.count.result) in
    let begun = underway_none (g.K.Sink.state c.args.sink.now) c.args.page.now text in
    let one = underway_more _ _ (g.K.Sink.state c.put_bytes.new.sink) _ _ c.put_bytes.new.page text c.args.header.now atoms text begun refl c.in_ok-put_bytes.ensures in
    let is : atoms ≡ count ++ lines = ap (λ n. ended_line (count_fields (codes "atoms") n) ++ lines) (sym c.count.ensures) in
    let two = underway_more _ (g.K.Sink.state c.put_bytes.new.sink) (g.K.Sink.state c.put_count.new.sink) _ c.put_bytes.new.page c.put_count.new.page atoms count lines text one is c.in_ok-put_count.ensures in
    let put : Streams (heading (g.K.Sink.state c.put_count.new.sink) c.put_count.new.page) (heading (g.K.Sink.state c.put_atoms.new.sink) c.put_atoms.new.page) (text_of (map fields (shown_from c.width.result 0 c.atoms.result.now))) c.put_atoms.result = c.put_atoms.ensures in
    let same : text_of (map fields (shown_from c.width.result 0 c.atoms.result.now)) ≡ lines =
    ap (λ n. text_of (map fields (shown_from n 0 c.atoms.result.now))) c.width.ensures.value ∙ ap (λ xs. text_of (map fields (shown_from g'.width 0 xs))) c.atoms.ensures in
    underway_last _ (g.K.Sink.state c.put_count.new.sink) (g.K.Sink.state c.put_atoms.new.sink) _ c.put_count.new.page _ lines text c.put_atoms.result two (rw same at put)
