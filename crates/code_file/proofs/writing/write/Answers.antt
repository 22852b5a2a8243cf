use Rattle.std.proofs.Common.{◌++◌, ◌∙◌, ap, sym, length}
use Rattle.std.specs.List.{flat_map}
use Rattle.feast_base.proofs.Appending.{Appends-then}
use Rattle.code_file.specs.Form.{element_bytes, elements, magic}
use Rattle.code_file.specs.Numbers.{be, with_length}
use Rattle.code_file.proofs.Sets.{elements_long}
use Rattle.code_file.proofs.writing.write.Goals as goal

pub returns : goal.returns
returns c =
    let es = elements c.args.names.now c.args.codes.now in
    let first = c.push.new.out.items in
    let long = elements_long c.args.names.now c.args.codes.now c.requires in
    Appends-then c.args.out.now.items first c.push_elements.new.out.items magic (with_length 2 element_bytes es) c.push_elements.result c.in_ok-push.ensures
    (Appends-then first c.push_number.new.out.items c.push_elements.new.out.items (be 2 (length es)) (flat_map element_bytes es) c.push_elements.result (c.in_ok-push_number.ensures ∙ ap (λ n. first ++ be 2 n) (sym long)) c.push_elements.ensures)
