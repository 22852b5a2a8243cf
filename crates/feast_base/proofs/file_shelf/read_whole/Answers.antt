use Rattle.std.proofs.Common.{ℕ, List, ◌++◌, Option, Some, None, ap, sym, ◌∙◌, arith}
use Rattle.std.specs.Io.KnownBytes.{Consumes, Keeps}
use Rattle.feast_base.proofs.file_shelf.read_whole.Goals as goal

-- what was consumed is, after a read that consumed nothing
kept : (a b c : Option (List ℕ)) (xs : List ℕ) → Consumes a b xs → Keeps b c → Consumes a c xs
kept None b c xs h k = tt
kept (Some a) None c xs h k = absurd h
kept (Some a) (Some b) None xs h k = absurd k
kept (Some a) (Some b) (Some c) xs h k = h ∙ ap (λ ys. xs ++ ys) (sym k)

pub returns-in-Err : goal.returns-in-Err
returns-in-Err g c =
    let invariant = c.loop-left.invariant in (
      invariant.0,
      invariant.1,
      (omega (arith, invariant.2, c.loop-left-test.true), kept _ _ _ _ invariant.3 c.in-Err.ensures.bytes),
    )
