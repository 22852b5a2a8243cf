use Rattle.std.proofs.Common.{List, [], ◌∷◌, ◌++◌, ◌≤◌, ◌∙◌, All, ap, length, sym, subst, map}
use Rattle.world_text.specs.declared.world.Placed.{Placed}
use Rattle.std.specs.List.{list_any}
use Rattle.feast_base.specs.Appending.{Appends}
use Rattle.feast_base.proofs.Appending.{Appends-at_exit, Appends-then, more_after}
use Rattle.world_text.proofs.Prints.{named_prints, parts_joined}
use Rattle.world_text.specs.Line.{Line, header, tiles, size}
use Rattle.world_text.specs.Printed.{atom_line, lines_text, off_lines, order_lines, plan_lines}
use Rattle.world_text.specs.Values.{world_value}
use Rattle.world_text.proofs.printed.print.Goals as goal

pub push_plan-requires : goal.push_plan-requires
push_plan-requires c = let p = named_prints c.args.names.now c.requires.0 (world_value c.args.world.now) c.requires.1 c.requires.2 in p.lists

pub push_atoms-requires : goal.push_atoms-requires
push_atoms-requires c = let p = named_prints c.args.names.now c.requires.0 (world_value c.args.world.now) c.requires.1 c.requires.2 in
    subst (All (λ (p : Placed). (1 ≤ p.atom.kind) × (p.atom.kind ≤ length c.args.names.now))) (sym c.as_slice.ensures.value) p.atoms

pub returns-in_err-push_off : goal.returns-in_err-push_off
returns-in_err-push_off c =
    Appends-at_exit _ c.args.out.now.items _ _ _ c.from_residual-in_err-push_off.result
    c.from_residual-in_err-push_off.ensures.1 (_, c.in_ok-push_plane.ensures) c.in_err-push_off.ensures

pub returns-in_err-push_plan : goal.returns-in_err-push_plan
returns-in_err-push_plan c =
    Appends-at_exit _ c.args.out.now.items _ _ _ c.from_residual-in_err-push_plan.result
    c.from_residual-in_err-push_plan.ensures.1
    (more_after _ _ _ (_, c.in_ok-push_plane.ensures) (_, c.in_ok-push_off.ensures))
    c.in_err-push_plan.ensures

pub returns-in_err-push_atoms : goal.returns-in_err-push_atoms
returns-in_err-push_atoms c =
    Appends-at_exit _ c.args.out.now.items _ _ _ c.from_residual-in_err-push_atoms.result
    c.from_residual-in_err-push_atoms.ensures.1
    (more_after _ _ _ (more_after _ _ _ (_, c.in_ok-push_plane.ensures) (_, c.in_ok-push_off.ensures))
    (_, c.in_ok-push_plan.ensures)) c.in_err-push_atoms.ensures

pub returns : goal.returns
returns c =
    let w = world_value c.args.world.now in
    let head : List Line = header (list_any (λ o. o) w.plane.off) ∷ tiles w.plane.tx w.plane.ty ∷ size w.plane.w w.plane.h ∷ [] in
    let marks = off_lines 0 w.plane.off in
    let plan = plan_lines w.plane w.plan.lists w.plan.origin in
    let atoms = map (atom_line c.args.names.now) w.atoms in
    let order = order_lines w.order in
    let out = c.args.out.now.items in
    let last = c.push_order.new.out.items in
    subst (λ t. Appends out last c.push_order.result t) (parts_joined head marks plan atoms order)
    (Appends-then out _ last (lines_text head) _ c.push_order.result c.in_ok-push_plane.ensures
    (Appends-then _ _ last (lines_text marks) _ c.push_order.result c.in_ok-push_off.ensures
    (Appends-then _ _ last (lines_text plan) _ c.push_order.result c.in_ok-push_plan.ensures
    (Appends-then _ _ last (lines_text atoms) (lines_text order) c.push_order.result
    (c.in_ok-push_atoms.ensures ∙ ap (λ (z : List Placed). c.push_plan.new.out.items ++ lines_text (map (atom_line c.args.names.now) z)) c.as_slice.ensures.value) c.push_order.ensures))))
