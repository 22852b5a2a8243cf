use Rattle.std.proofs.Common.{◌≡◌, ℕ, ◌+◌, ◌<◌, Bool, true, false, Some, None, refl, arith}
use Rattle.std.specs.Prelude.{nat_le, is_some, if◌then◌else◌}
use Rattle.std.proofs.lemmas.Bool.{lt-leb}
use Rattle.code_gen.specs.Pieces.{size}
use Rattle.code_gen.specs.Drafts.{key_piece}
use Rattle.code_gen.specs.Depths.{depth}
use Rattle.code_gen.specs.Gathers.{longer}
use Rattle.code_gen.specs.Views.{piece_of, key_of}
use Rattle.code_gen.proofs.LayRounds.{size_same}
use Rattle.code_gen.proofs.gather.longer.Goals as goal

too_long : (b : Bool) (n : ℕ) → 65536 < n → None ≡ (if b then (if nat_le n 65536 then Some n else None) else None)
too_long true n h = rw (lt-leb n 65536 h) refl
too_long false n h = refl

pub returns-then-size-sum : goal.returns-then-size-sum
unfolding longer
returns-then-size-sum g c =
    let p = g.S.Source.drafts c.args.source.now in
    let f = key_of c.args.key in
    let head = c.head-head.result in
    let whole = size_same p f (piece_of c.args.body.now) head.answer head.blank c.requires.body c.head-head.ensures.answer c.head-head.ensures.blank in
    let end = c.end_size.ensures.value head.blank in
    too_long (is_some (depth p (key_piece p f) 0)) (c.args.sum + size (key_piece p f)) (omega (arith, whole, end))
