use Rattle.std.proofs.Common.{◌+◌, ◌*◌, [], ◌∷◌, refl}
use Rattle.edge_lock.specs.declared.history.Access.TheVariants.{Write}
use Rattle.border_cache.proofs.Runs.{adds_write, adds_then, held_adds}
use Rattle.border_cache.proofs.news.put_cell.Goals as goal

pub write-requires-2-clause-held : goal.write-requires-2-clause-held
write-requires-2-clause-held g c =
    let a = (g.D.Board.end c.args.board.now).lists in
    let b = (g.D.Board.end c.write.new.self).lists in
    let e = c.args.border.edge in
    let k = c.args.place in
    held_adds a b e (Write (1 + 2 * k) c.words-low.result.0 ∷ []) c.requires.hold.held (adds_write a b e (1 + 2 * k) c.words-low.result.0 c.write.ensures.change.lists)

pub returns-clause-put : goal.returns-clause-put
returns-clause-put g c =
    let a = (g.D.Board.end c.args.board.now).lists in
    let b = (g.D.Board.end c.write.new.self).lists in
    let d = (g.D.Board.end c.write-2.new.self).lists in
    let e = c.args.border.edge in
    let k = c.args.place in
    let low = c.words-low.result.0 in
    let high = c.words-low.result.1 in (
      Write (1 + 2 * k) low ∷ Write (2 + 2 * k) high ∷ [],
      adds_then a b d e (Write (1 + 2 * k) low ∷ []) (Write (2 + 2 * k) high ∷ []) c.requires.hold.held (adds_write a b e (1 + 2 * k) low c.write.ensures.change.lists) (adds_write b d e (2 + 2 * k) high c.write-2.ensures.change.lists),
      (low, high, refl, c.words-low.ensures.cell),
    )
