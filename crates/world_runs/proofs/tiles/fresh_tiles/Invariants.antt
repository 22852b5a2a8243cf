use Rattle.std.proofs.Common.{◌≡◌, ◌++◌, length, map}
use Rattle.tile_core.specs.Values.{TileWith}
use Rattle.world_runs.proofs.Beginning.{EachFresh}
use Rattle.world_runs.proofs.tiles.fresh_tiles.Given as goal

abbrev pub invariant-loop-behave : goal.invariant-loop-behave
invariant-loop-behave g l = record {
  fresh : EachFresh l.map l.start l.plan l.tiles.items;
  acts : map (λ (x : TileWith g.row.B.Denot). x.behave) l.tiles.items ++ l.behave-iterator.rest.items ≡ l.fn.behaves.items;
  count : l.behave-iterator.rest.len ≡ length l.behave-iterator.rest.items;
}
