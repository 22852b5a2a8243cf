use Rattle.std.proofs.Common.{◌≡◌, ◌-◌, ◌<◌, ◌∷◌, ◌++◌, None, ap, sym, ◌∙◌, arith}
use Rattle.std.specs.Prelude.{flat_map}
use Rattle.draw_stream.specs.declared.attempt.Attempt.{Attempt}
use Rattle.draw_stream.specs.Attempts.{next_attempt, next_attempts}
use Rattle.world_runs.specs.Turns.{pair_of}
use Rattle.world_runs.proofs.Drawing.{turns_none, turns_two}
use Rattle.world_runs.proofs.turns.DrawnTurns.next.Goals as goal

pub returns-then-self-eq0-clause-value : goal.returns-then-self-eq0-clause-value
returns-then-self-eq0-clause-value c =
    let d = c.args.self.now in
    let none : d.second ≡ None = sym c.take.ensures.value ∙ c.in_default.is in
    (turns_none d none c.if-self-eq0.true, turns_none (record { second = c.take.new.self; stream = d.stream; tiles = d.tiles; pairs = d.pairs }) c.take.ensures.after c.if-self-eq0.true)

pub returns-clause-value : goal.returns-clause-value
returns-clause-value c =
    let d = c.args.self.now in
    let none : d.second ≡ None = sym c.take.ensures.value ∙ c.in_default.is in
    let some : 0 < d.pairs = omega (arith, c.if-self-eq0.false) in
    let others = flat_map (pair_of d.tiles) (next_attempts c.attempt-words.new.self d.tiles (d.pairs - 1)) in
    turns_two d none some
    ∙ ap (λ s. pair_of d.tiles (next_attempt d.stream d.tiles) ++ flat_map (pair_of d.tiles) (next_attempts s d.tiles (d.pairs - 1))) (sym c.attempt-words.ensures.moved)
    ∙ ap (λ (a : Attempt). pair_of d.tiles a ++ others) (sym c.attempt-words.ensures.value)
    ∙ ap (λ t. c.attempt-words.result.centre ∷ t ∷ others) (sym c.remainder.ensures)
