use Rattle.std.proofs.Common.{◌≡◌, [], ◌∷◌, ap, sym, ◌∙◌, subst}
use Rattle.edge_lock.specs.declared.history.Access.TheVariants.{Read, Write}
use Rattle.edge_lock.specs.History.{site_count, IsAllowed}
use Rattle.edge_lock.proofs.Counts.{sites_back}
use Rattle.border_cache.proofs.Runs.{adds_read, adds_write, adds_then, held_adds}
use Rattle.border_cache.proofs.Words.{word_allowed}
use Rattle.border_cache.proofs.news.put_word.Goals as goal

pub write-requires-clause-held : goal.write-requires-clause-held
write-requires-clause-held g c =
    let a = (g.D.Board.end c.args.board.now).lists in
    let b = (g.D.Board.end c.read-old.new.self).lists in
    let e = c.args.border.edge in
    let w = c.news_word-register.result in
    let v = c.read-old.result in
    held_adds a b e (Read w v ∷ []) c.requires.hold.held (adds_read a b e w v c.read-old.ensures.change.lists c.read-old.ensures.value)

pub write-requires-clause-allowed : goal.write-requires-clause-allowed
write-requires-clause-allowed g c =
    let n = c.args.border.sites in
    let size : (g.D.Board.end c.read-old.new.self).registers c.args.border.edge ≡ _ = ap (λ f. f c.args.border.edge) c.read-old.ensures.change.same.1 ∙ c.requires.hold.registers in
    let sites : site_count ((g.D.Board.end c.read-old.new.self).registers c.args.border.edge) ≡ n = ap site_count size ∙ sites_back n in
    subst (λ m. IsAllowed m c.news_word-register.result c.with_mask.result) (sym sites)
    (subst (λ r. IsAllowed n r c.with_mask.result) (sym c.news_word-register.ensures.value) (word_allowed n c.args.border.end c.args.word c.with_mask.result))

pub returns-clause-put : goal.returns-clause-put
returns-clause-put g c =
    let a = (g.D.Board.end c.args.board.now).lists in
    let b = (g.D.Board.end c.read-old.new.self).lists in
    let d = (g.D.Board.end c.write.new.self).lists in
    let e = c.args.border.edge in
    let w = c.news_word-register.result in
    let v = c.read-old.result in
    let u = c.with_mask.result in
    let one = adds_read a b e w v c.read-old.ensures.change.lists c.read-old.ensures.value in
    let two = adds_write b d e w u c.write.ensures.change.lists in (
      Read w v ∷ Write w u ∷ [],
      adds_then a b d e (Read w v ∷ []) (Write w u ∷ []) c.requires.hold.held one two,
      (v, u, ap (λ r. Read r v ∷ Write r u ∷ []) c.news_word-register.ensures.value, c.with_mask.ensures),
    )
