use Rattle.ulam_heirs.proofs.PlaceSets.{indexed_on}
use Rattle.ulam_heirs.proofs.place_set.keys_of.Goals as goal

pub loop-place-preserved : goal.loop-place-preserved
loop-place-preserved c = indexed_on c.loop-place.keys.keys c.insert.new.self.keys c.args.places.now c.loop-place.place-index _ c.loop-place-test.true c.in_ok-insert.ensures.keys c.loop-place.invariant
