use Rattle.std.proofs.Common.{◌≡◌, ◌+◌, ◌*◌, ◌%◌, ◌/◌, [], ◌∷◌, refl, ap, sym, ◌∙◌, subst}
use Rattle.std.specs.Prelude.{slice_index_or}
use Rattle.std.proofs.lemmas.Nat.Bits.{shr_and_one}
use Rattle.edge_lock.specs.declared.history.Access.TheVariants.{Read}
use Rattle.edge_lock.specs.History.{site_count, IsAllowed}
use Rattle.edge_lock.proofs.Counts.{sites_back}
use Rattle.border_cache.proofs.Runs.{adds_none, adds_read, adds_then, held_adds}
use Rattle.border_cache.proofs.Words.{bit_one}
use Rattle.border_cache.proofs.news.read_site.Goals as goal

pub returns-then-word-place-eq0-clause-read : goal.returns-then-word-place-eq0-clause-read
returns-then-word-place-eq0-clause-read g c =
    let k = c.args.place in (
      [],
      adds_none (g.D.Board.end c.args.board.now).lists c.args.news.now.border.edge,
      (refl, sym (shr_and_one (slice_index_or c.args.news.now.words (k / 64) 0) (k % 64)) ∙ c.if-word-place-eq0.true),
    )

pub read-high-requires-clause-held : goal.read-high-requires-clause-held
read-high-requires-clause-held g c =
    let a = (g.D.Board.end c.args.board.now).lists in
    let b = (g.D.Board.end c.read-low.new.self).lists in
    let e = c.args.news.now.border.edge in
    held_adds a b e (Read (1 + 2 * c.args.place) c.read-low.result ∷ []) c.requires.hold.held (adds_read a b e (1 + 2 * c.args.place) c.read-low.result c.read-low.ensures.change.lists c.read-low.ensures.value)

pub from_words-requires : goal.from_words-requires
from_words-requires g c =
    let n = c.args.news.now.border.sites in
    let k = c.args.place in
    let size : (g.D.Board.end c.read-low.new.self).registers c.args.news.now.border.edge ≡ _ = ap (λ f. f c.args.news.now.border.edge) c.read-low.ensures.change.same.1 ∙ c.requires.hold.registers in
    let sites : site_count ((g.D.Board.end c.read-low.new.self).registers c.args.news.now.border.edge) ≡ n = ap site_count size ∙ sites_back n in
    subst (λ m. IsAllowed m (2 + 2 * k) c.read-high.result) sites c.read-high.ensures.allowed k c.requires.place refl

pub returns-clause-read : goal.returns-clause-read
returns-clause-read g c =
    let a = (g.D.Board.end c.args.board.now).lists in
    let b = (g.D.Board.end c.read-low.new.self).lists in
    let d = (g.D.Board.end c.read-high.new.self).lists in
    let e = c.args.news.now.border.edge in
    let k = c.args.place in
    let l = c.read-low.result in
    let h = c.read-high.result in
    let one = adds_read a b e (1 + 2 * k) l c.read-low.ensures.change.lists c.read-low.ensures.value in
    let two = adds_read b d e (2 + 2 * k) h c.read-high.ensures.change.lists c.read-high.ensures.value in
    let word = slice_index_or c.args.news.now.words (k / 64) 0 in (
      Read (1 + 2 * k) l ∷ Read (2 + 2 * k) h ∷ [],
      adds_then a b d e (Read (1 + 2 * k) l ∷ []) (Read (2 + 2 * k) h ∷ []) c.requires.hold.held one two,
      (
        l,
        h,
        refl,
        bit_one word (k % 64) (λ z. c.if-word-place-eq0.false (shr_and_one word (k % 64) ∙ z)),
        c.from_words.ensures,
      ),
    )
