use Rattle.std.proofs.Common.{List, ◌++◌, ◌∙◌, ap, map, subst}
use Rattle.feast_base.specs.Appending.{Appends}
use Rattle.world_text.specs.Printed.{atom_line, lines_text as world_text_of, off_lines}
use Rattle.world_text.specs.declared.world.Placed.{Placed}
use Rattle.chain_text.specs.Line.{plain}
use Rattle.chain_text.specs.Printed.{act_lines, number_lines, placed_line, plane_lines}
use Rattle.chain_text.specs.Values.{chain_value}
use Rattle.chain_text.proofs.Prints.{lines_then, plain_text, plain_texts}
use Rattle.chain_text.proofs.printed.print.Goals as goal

pub returns : goal.returns
returns c =
    let names = c.args.names.now in
    let v = chain_value c.args.chain.now in
    let last = c.push_atoms.new.out.items in
    let r = c.push_atoms.result in
    let marks = off_lines 0 v.plane.off in
    let atoms = subst (λ (z : List Placed). Appends c.push_acts.new.out.items last r (world_text_of (map (atom_line names) z))) c.as_slice.ensures.value c.push_atoms.ensures in
    lines_then c.args.out.now.items _ last (plane_lines v.plane) _ r c.in_ok-push_plane.ensures
    (lines_then _ _ last (map plain marks) _ r (c.in_ok-push_off.ensures ∙ ap (λ z. c.push_plane.new.out.items ++ z) (plain_text marks))
    (lines_then _ _ last (number_lines v) _ r c.in_ok-push_numbers.ensures
    (lines_then _ _ last (act_lines names v.schedule) (map (placed_line names) v.atoms) r c.in_ok-push_acts.ensures
    (subst (Appends c.push_acts.new.out.items last r) (plain_texts (atom_line names) v.atoms) atoms))))
