use Rattle.std.proofs.Common.{◌≡◌, All, length}
use Rattle.feast_run.specs.Acting.{acts}
use Rattle.feast_run.specs.Values.{elements_value}
use Rattle.feast_run.specs.declared.elements.ElementActor.{ElementActor}
use Rattle.feast_run.proofs.acting.actors.Given as goal

abbrev pub invariant-loop-tile : goal.invariant-loop-tile
invariant-loop-tile l = record {
  many : length l.actors.items ≡ l._tile;
  acts : All (λ (a : ElementActor). acts a ≡ (elements_value l.elements).meaning) l.actors.items;
}
