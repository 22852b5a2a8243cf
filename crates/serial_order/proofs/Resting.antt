-- Two tiles that are at rest at the ends of an edge of one plain board have played there.
use Rattle.std.proofs.Common.{ℕ, ◌≡◌, List, length, take, refl, sym, ap, subst, ◌∙◌, arith, inl, ⊎_elim}
use Rattle.std.specs.Prelude.{min}
use Rattle.std.proofs.lemmas.List.{length-take}
use Rattle.draw_stream.specs.declared.attempt.Attempt.{Attempt}
use Rattle.edge_lock.specs.History.{own, site_count, IsEdgeHistory}
use Rattle.edge_lock.specs.PlainEdges.{IsKept, view_of}
use Rattle.edge_lock.specs.PlainBoard.{PlainBoardValue, edge_at, lists_of_tile}
use Rattle.edge_lock.proofs.Counts.{sites_back}
use Rattle.border_cache.specs.Windows.{end_at, sites_on}
use Rattle.tile_core.specs.declared.phase.Phase.TheVariants.{Draw}
use Rattle.tile_core.specs.Values.{TileValue}
use Rattle.tile_core.specs.Turns.{Common}
use Rattle.tile_core.specs.Underway.{tile_at, IsUnderway, InPhase, is_refreshed}
use Rattle.tile_core.specs.Boards.{IsEdgeOf}
use Rattle.tile_core.proofs.Boards.{edge_end}
use Rattle.serial_order.specs.OneEdge.{HasPlayedOn}
use Rattle.serial_order.specs.Boards.{HasStopped, IsAtRest, RestingEndsHavePlayed}
use Rattle.serial_order.proofs.Boards.{few_turns, first_turns, has_ended}

module _ (c : Common) (board : PlainBoardValue) (e : ℕ) (k : IsEdgeOf c.map e (edge_at board e)) (tile : TileValue) (given : List Attempt) (u : IsUnderway c given tile (lists_of_tile board tile.number)) where
  here : own (end_at c.map tile.number e) (edge_at board e).holds ≡ (lists_of_tile board tile.number e).holds
  here = ap (λ b. own b (edge_at board e).holds) (sym (edge_end c.map e (edge_at board e) k tile.number))

  between : tile.phase ≡ Draw → HasPlayedOn c e (edge_at board e).holds tile
  between is = record {
    attempts = take tile.taken given;
    lists = lists_of_tile board tile.number;
    played = record {
      turns = u.turns;
      each = u.each;
      all = length-take tile.taken given ∙ count;
      made = first_turns c.map tile.number given tile.taken u.turns (omega (arith, taken)) u.made;
      records_are = u.records;
      abandoned_are = u.abandoned;
      lists_are = h.2;
    };
    here = here;
    cells = λ s held. u.cells s held (inl (ap is_refreshed is));
  }
    where
      h : InPhase c given u.turns (tile_at tile (lists_of_tile board tile.number)) Draw
      h = subst (InPhase c given u.turns (tile_at tile (lists_of_tile board tile.number))) is u.hand

      taken : tile.taken ≡ length u.turns
      taken = h.0

      count : min tile.taken (length given) ≡ length u.turns
      count = let le = few_turns c.map tile.number given u.turns u.made in omega (arith, taken, le)

  stopped : HasStopped tile → HasPlayedOn c e (edge_at board e).holds tile
  stopped is =
      let end = has_ended c.map c.meaning c.start given tile (lists_of_tile board tile.number) (lists_of_tile board tile.number) u (λ d own. refl) is in
      record { attempts = end.made; lists = lists_of_tile board tile.number; played = end.played; here = here; cells = end.cells }

  pub played_on : IsAtRest tile → HasPlayedOn c e (edge_at board e).holds tile
  played_on rests = ⊎_elim between stopped rests

history_of : (c : Common) (board : PlainBoardValue) (e : ℕ) → IsEdgeOf c.map e (edge_at board e) → IsEdgeHistory (sites_on c.map e) (edge_at board e).holds (edge_at board e).low (edge_at board e).high
history_of c board e k =
    let count : site_count (edge_at board e).registers ≡ sites_on c.map e = ap site_count k.registers ∙ sites_back (sites_on c.map e) in
    let kept : IsKept (view_of (edge_at board e)) = k.kept in
    subst (λ n. IsEdgeHistory n (edge_at board e).holds (edge_at board e).low (edge_at board e).high) count kept

pub resting : RestingEndsHavePlayed
resting c board e lower higher r = record {
  valid = r.valid;
  known = r.known;
  history = history_of c board e (r.edges.each e r.known);
  low_tile = r.low_tile;
  high_tile = r.high_tile;
  low_played = played_on c board e (r.edges.each e r.known) lower r.low_rests.attempts r.low_rests.underway r.low_rests.rests;
  high_played = played_on c board e (r.edges.each e r.known) higher r.high_rests.attempts r.high_rests.underway r.high_rests.rests;
}
