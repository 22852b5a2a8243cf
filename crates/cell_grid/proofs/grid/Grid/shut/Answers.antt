use Rattle.std.proofs.Common.{rules, subst, sym, ap, ◌∙◌, ◌≡◌, ◌≤◌, List, Bool, length}
use Rattle.std.specs.Vec.{with_items}
use Rattle.std.proofs.lemmas.List.{with_items_is}
use Rattle.cell_grid.specs.Grid.{GridValue, IsGrid}
use Rattle.cell_grid.specs.Calm.{AreCalm}
use Rattle.cell_grid.specs.Shut.{rectangle, widen, IsEmptyIn, marks_outside}
use Rattle.cell_grid.proofs.Cleared.{IsGrid-shut, AreCalm-shut, length-cleared}
use Rattle.cell_grid.proofs.grid.Grid.shut.Goals as goal

pub invariant_of-self : goal.invariant_of-self
invariant_of-self c =
    let s = c.self.inside in
    let g : GridValue = record { width = s.width; height = s.height; atoms = s.atoms.items; live = s.live.items } in
    let r = rectangle c.args.x c.args.y c.args.w c.args.h in
    let a = widen r in
    let e : c.clear.new.marks ≡ marks_outside s.live.items s.width r = search rules in
    let f : c.clear-2.new.marks ≡ marks_outside s.calm.items s.width a = search rules in
    let live = with_items_is s.live c.clear.new.marks (ap length e ∙ length-cleared s.live.items s.width r ∙ sym s.live.ok.0) ∙ e in
    let calm = with_items_is s.calm c.clear-2.new.marks (ap length f ∙ length-cleared s.calm.items s.width a ∙ sym s.calm.ok.0) ∙ f in
    let empty = subst (λ (g : GridValue). IsEmptyIn g r) (sym c.self.view_is) c.requires.empty in
    let right : r.right ≤ s.width = subst (λ (g : GridValue). r.right ≤ g.width) (sym c.self.view_is) c.requires.columns in
    let bottom : r.bottom ≤ s.height = subst (λ (g : GridValue). r.bottom ≤ g.height) (sym c.self.view_is) c.requires.rows in
    let i = IsGrid-shut g r c.self.invariant.0 empty in
    let k = AreCalm-shut s.width s.height s.live.items s.calm.items r c.self.invariant.0.marked right bottom c.self.invariant.1 in (
      subst (λ (v : List Bool). IsGrid (record { width = s.width; height = s.height; atoms = s.atoms.items; live = v })) (sym live) i,
      subst (λ (v : List Bool). AreCalm s.width s.height v (with_items s.calm c.clear-2.new.marks).items) (sym live) (subst (λ (v : List Bool). AreCalm s.width s.height (marks_outside s.live.items s.width r) v) (sym calm) k),
    )
