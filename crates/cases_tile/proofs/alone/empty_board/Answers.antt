use Rattle.std.proofs.Common.{ap, ◌∙◌, map}
use Rattle.edge_lock.specs.Edges.{sizes_of}
use Rattle.edge_lock.specs.PlainBoard.{untouched_edge}
use Rattle.cases_tile.proofs.alone.empty_board.Goals as goal

pub returns : goal.returns
returns c = record {
  map = c.requires;
  acting = c.in_ok-board.ensures.acting;
  edges = c.in_ok-board.ensures.edges ∙ ap (λ m. map untouched_edge (sizes_of m)) c.requires;
}
