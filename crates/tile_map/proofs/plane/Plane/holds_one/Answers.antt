use Rattle.std.proofs.Common.{sym, ◌∙◌, arith}
use Rattle.tile_map.specs.Plane.{site}
use Rattle.tile_map.proofs.Near.{reaches-at, reaches-none}
use Rattle.tile_map.proofs.plane.Plane.holds_one.Goals as goal

pub returns-then-holds_at : goal.returns-then-holds_at
returns-then-holds_at c = sym (reaches-at c.args.self.now (site c.args.x c.args.y) c.args.tile c.loop-n.n c.loop-n-test.true (sym c.holds_at.ensures ∙ c.if-holds_at.true))

pub returns : goal.returns
returns c = sym (reaches-none c.args.self.now (site c.args.x c.args.y) c.args.tile (λ k lt. c.loop-n.invariant k (omega (arith, lt, c.loop-n-test.false))))
