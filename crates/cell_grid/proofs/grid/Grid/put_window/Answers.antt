use Rattle.std.proofs.Common.{rules, subst, sym, ap, ◌∙◌, ◌≡◌, List, length}
use Rattle.std.specs.Vec.{with_items}
use Rattle.std.proofs.lemmas.List.{with_items_is}
use Rattle.bit_field.specs.Atom.{AtomValue}
use Rattle.cell_grid.specs.Grid.{GridValue, IsGrid, put_window}
use Rattle.cell_grid.specs.Calm.{IsCorner}
use Rattle.cell_grid.specs.Inner.{with_inner}
use Rattle.cell_grid.proofs.Corners.{IsGrid-inner, put_window-inner, length-with_inner}
use Rattle.cell_grid.proofs.grid.Grid.put_window.Goals as goal

-- what stands in the grid's list after the fast way
is-inner : (c : goal.After-self-1) → (with_items c.self.inside.atoms c.put_inner.new.atoms).items ≡ with_inner c.self.inside.atoms.items c.in-Some.low c.self.inside.width c.args.window.now.atoms
is-inner c =
    let s = c.self.inside in
    let e : c.put_inner.new.atoms ≡ with_inner s.atoms.items c.in-Some.low s.width c.args.window.now.atoms = search rules in
    let long : length c.put_inner.new.atoms ≡ s.atoms.len = ap length e ∙ length-with_inner s.atoms.items c.in-Some.low s.width c.args.window.now.atoms ∙ sym s.atoms.ok.0 in
    with_items_is s.atoms c.put_inner.new.atoms long ∙ e

corner : (c : goal.After-self-1) → IsCorner (record { width = c.self.inside.width; height = c.self.inside.height; atoms = c.self.inside.atoms.items; live = c.self.inside.live.items }) c.args.x c.args.y c.in-Some.low
corner c = subst (λ (g : GridValue). IsCorner g c.args.x c.args.y c.in-Some.low) (sym c.self.view_is) c.in-Some.ensures

pub invariant_of-self : goal.invariant_of-self
invariant_of-self c =
    let s = c.self.inside in
    let g : GridValue = record { width = s.width; height = s.height; atoms = s.atoms.items; live = s.live.items } in
    let h = IsGrid-inner g c.args.x c.args.y c.in-Some.low c.args.window.now c.self.invariant.0 (corner c) in
    (subst (λ (v : List AtomValue). IsGrid (record { width = s.width; height = s.height; atoms = v; live = s.live.items })) (sym (is-inner c)) h, c.self.invariant.1)

pub returns-in-Some-clause-grid : goal.returns-in-Some-clause-grid
returns-in-Some-clause-grid c =
    let s = c.self.inside in
    let g : GridValue = record { width = s.width; height = s.height; atoms = s.atoms.items; live = s.live.items } in
    ap (λ (v : List AtomValue). record { width = s.width; height = s.height; atoms = v; live = s.live.items }) (is-inner c)
    ∙ put_window-inner g c.args.x c.args.y c.in-Some.low c.args.window.now (corner c)
    ∙ ap (λ (g : GridValue). put_window g c.args.x c.args.y c.args.window.now) c.self.view_is
