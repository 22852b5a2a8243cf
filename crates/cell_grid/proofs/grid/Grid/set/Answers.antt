use Rattle.std.proofs.Common.{rules, subst, sym, ◌≡◌, ◌+◌, ◌*◌, true, false, get_or}
use Rattle.cell_grid.specs.Grid.{GridValue}
use Rattle.cell_grid.proofs.Places.{IsGrid-set}
use Rattle.cell_grid.proofs.grid.Grid.set.Goals as goal

pub invariant_of-self : goal.invariant_of-self
invariant_of-self c =
    let s = c.self.inside in
    let g : GridValue = record { width = s.width; height = s.height; atoms = s.atoms.items; live = s.live.items } in
    let live : get_or s.live.items (c.args.y * s.width + c.args.x) false ≡ true =
    subst (λ (g : GridValue). get_or g.live (c.args.y * g.width + c.args.x) false ≡ true) (sym c.self.view_is) c.requires.live.marked in
    (IsGrid-set g (c.args.y * s.width + c.args.x) c.args.atom live c.self.invariant.0, c.self.invariant.1)

pub returns : goal.returns
returns c = search rules
