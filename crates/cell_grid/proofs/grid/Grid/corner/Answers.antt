use Rattle.std.proofs.Common.{subst, sym, ◌∙◌, refl, arith, ◌+◌, ◌-◌, ◌*◌, ◌<◌, false, length}
use Rattle.std.proofs.lemmas.List.{get_or_read_under}
use Rattle.std.proofs.lemmas.Nat.{mul-add-lt}
use Rattle.cell_grid.specs.Grid.{GridValue}
use Rattle.cell_grid.specs.Calm.{IsCalm, IsCorner}
use Rattle.cell_grid.proofs.Corners.{corner-is, not-calm}
use Rattle.cell_grid.proofs.grid.Grid.corner.Goals as goal

pub returns-then-index : goal.returns-then-index
returns-then-index c =
    let x = c.args.x in
    let y = c.args.y in
    let s = c.self.inside in
    let i = c.self.invariant.0 in
    let k = c.self.invariant.1 in
    let right : x + 4 < s.width = omega (arith, c.if-width-x.false) in
    let bottom : y + 4 < s.height = omega (arith, c.if-height-y.false) in
    let b = mul-add-lt y s.width x s.height (omega (arith, bottom)) (omega (arith, right)) in
    let v = get_or_read_under s.calm.items (y * s.width + x) (length s.calm.items) c.index.result.now false c.index.ensures (omega (arith, b, k.size, i.marked)) refl in
    let m = sym v ∙ c.if-index.true in
    let n = corner-is (record { width = s.width; height = s.height; atoms = s.atoms.items; live = s.live.items }) s.calm.items x y i k
    (omega (arith, c.if-x-lt4.false)) right (omega (arith, c.if-y-lt4.false)) bottom m in
    subst (λ (g : GridValue). IsCorner g x y ((y - 4) * s.width + (x - 4))) c.self.view_is n

pub returns-else-index : goal.returns-else-index
returns-else-index c =
    let x = c.args.x in
    let y = c.args.y in
    let s = c.self.inside in
    let i = c.self.invariant.0 in
    let k = c.self.invariant.1 in
    let right : x + 4 < s.width = omega (arith, c.if-width-x.false) in
    let bottom : y + 4 < s.height = omega (arith, c.if-height-y.false) in
    let b = mul-add-lt y s.width x s.height (omega (arith, bottom)) (omega (arith, right)) in
    let v = get_or_read_under s.calm.items (y * s.width + x) (length s.calm.items) c.index.result.now false c.index.ensures (omega (arith, b, k.size, i.marked)) refl in
    let m = sym v ∙ c.if-index.false in
    let n = not-calm (record { width = s.width; height = s.height; atoms = s.atoms.items; live = s.live.items }) s.calm.items x y k (omega (arith, right)) (omega (arith, bottom)) m in
    subst (λ (g : GridValue). IsCalm g x y → ⊥) c.self.view_is n
