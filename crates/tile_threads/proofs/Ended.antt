-- A tile that is over stays so when the edges that it still has are given back.
use Rattle.std.proofs.Common.{◌≡◌, ℕ, Bool, true, false, List, [], ◌∷◌, ◌++◌, length, refl, sym, ap, ◌∙◌, subst, ⊎_elim}
use Rattle.std.specs.Prelude.{if◌then◌else◌}
use Rattle.std.proofs.lemmas.List.{append-nil}
use Rattle.bit_field.specs.Atom.{AtomValue}
use Rattle.window_sites.specs.Window.{WindowValue}
use Rattle.tile_map.specs.Plane.{Site, MapValue}
use Rattle.tile_map.specs.Edges.{needs_of}
use Rattle.cell_grid.specs.declared.record.Record.{Record}
use Rattle.draw_stream.specs.declared.attempt.Attempt.{Attempt}
use Rattle.event_journal.specs.declared.abandoned.Abandoned.{Abandoned}
use Rattle.edge_lock.specs.declared.history.Hold.{Hold}
use Rattle.edge_lock.specs.EndLists.{EndLists, end_lists, hold_of, closed_hold, is_last_open, after_give}
use Rattle.edge_lock.proofs.LastHolds.{is_held-snoc, change_last-snoc}
use Rattle.border_cache.specs.Windows.{has}
use Rattle.tile_core.specs.declared.phase.Phase.TheVariants.{Finished, Worn as WornPhase}
use Rattle.tile_core.specs.Values.{TileValue}
use Rattle.tile_core.specs.Turns.{made_of, common, Turn, Worn, Wins, Loses, Wears, Wearless, AreTurns, AreAttempts, HasPlayed, AgreeOnEdges, lists_of, with_more, one_if, records_in_turns, abandoned_in_turns, cells_of}
use Rattle.tile_core.proofs.Lists.{free_of}
use Rattle.serial_order.specs.Scene.{WearsLast, IsStopped, HasEnded}
use Rattle.serial_order.specs.Boards.{HasStopped}
use Rattle.tile_threads.specs.Passes.{let_go}
use Rattle.tile_threads.proofs.LettingGo.{let_go_none}

-- the last hold, given back
one_back : (h : Hold) (past : EndLists) (b : Bool) → h.is_open ≡ b → let_go (with_more (h ∷ []) [] past) ≡ with_more (closed_hold h ∷ []) [] past
one_back h past true is =
    ap (λ x. if x then after_give (with_more (h ∷ []) [] past) else with_more (h ∷ []) [] past) (is_held-snoc past.holds h ∙ is)
    ∙ ap (λ hs. end_lists hs (past.refusals ++ [])) (change_last-snoc closed_hold past.holds h)
one_back h past false is =
    let same : h ≡ closed_hold h = λ i. hold_of h.end h.attempt h.accesses (is i) in
    ap (λ x. if x then after_give (with_more (h ∷ []) [] past) else with_more (h ∷ []) [] past) (is_held-snoc past.holds h ∙ is)
    ∙ ap (λ g. with_more (g ∷ []) [] past) same

none_back : (past : EndLists) → is_last_open past.holds ≡ false → let_go (with_more [] [] past) ≡ with_more [] [] past
none_back past free = let_go_none (with_more [] [] past) (ap is_last_open (append-nil past.holds) ∙ free)

-- the worn turn with its holds given back
abbrev shut : Worn → Worn
shut w = record { site = w.site; hold = λ e. closed_hold (w.hold e) }

module _ (m : MapValue) (meaning : WindowValue → ℕ → WindowValue) (start : Site → AtomValue) (t : ℕ) (a b : ℕ → EndLists) (back : AgreeOnEdges m t b (λ e. let_go (a e))) where
  worn_lists : (w : Worn) (older : List Turn) → AreTurns (common m meaning start) t older → Wearless older → AgreeOnEdges m t a (lists_of m t (Wears w ∷ older)) → AgreeOnEdges m t b (lists_of m t (Wears (shut w) ∷ older))
  worn_lists w older each unworn was e own = back e own ∙ (ap let_go (was e own) ∙ go (has e (needs_of m t w.site)))
    where
      past : EndLists
      past = lists_of m t older e

      go : (x : Bool) → let_go (with_more (one_if x (w.hold e)) [] past) ≡ with_more (one_if x (closed_hold (w.hold e))) [] past
      go true = one_back (w.hold e) past (w.hold e).is_open refl
      go false = none_back past (free_of m meaning start t older e each unworn)

  unworn_lists : (turns : List Turn) → AreTurns (common m meaning start) t turns → Wearless turns → AgreeOnEdges m t a (lists_of m t turns) → AgreeOnEdges m t b (lists_of m t turns)
  unworn_lists turns each unworn was e own = back e own ∙ (ap let_go (was e own) ∙ let_go_none (lists_of m t turns e) (free_of m meaning start t turns e each unworn))

  worn_played : (made : List Attempt) (records : List Record) (abandoned : List Abandoned) (p : HasPlayed (common m meaning start) t made (made_of records abandoned a)) (turns : List Turn) → p.turns ≡ turns → WearsLast turns
      → (q : HasPlayed (common m meaning start) t made (made_of records abandoned b)) × WearsLast q.turns × ((s : Site) → cells_of m start q.turns s ≡ cells_of m start turns s)
  worn_played made records abandoned p [] is w = absurd w
  worn_played made records abandoned p (Wins x ∷ older) is w = absurd w
  worn_played made records abandoned p (Loses x ∷ older) is w = absurd w
  worn_played made records abandoned p (Wears x ∷ older) is w =
      let each = subst (AreTurns (common m meaning start) t) is p.each in
      let attempts = subst (AreAttempts m t made) is p.made in (
        record {
          turns = Wears (shut x) ∷ older;
          each = (record { centre = each.0.centre; holds = each.0.holds; high = each.0.high }, each.1, each.2);
          all = p.all ∙ ap (λ l. length l) is;
          made = (attempts.0, attempts.1);
          records_are = p.records_are ∙ ap records_in_turns is;
          abandoned_are = p.abandoned_are ∙ ap abandoned_in_turns is;
          lists_are = worn_lists x older each.2 each.1 (subst (λ l. AgreeOnEdges m t a (lists_of m t l)) is p.lists_are);
        },
        tt,
        λ s. refl,
      )

module _ (m : MapValue) (meaning : WindowValue → ℕ → WindowValue) (start : Site → AtomValue) (given : List Attempt) (a b : ℕ → EndLists) (tile : TileValue) (back : AgreeOnEdges m tile.number b (λ e. let_go (a e))) (h : HasEnded (common m meaning start) given a tile) where
  finished_back : tile.phase ≡ Finished → HasEnded (common m meaning start) given b tile
  finished_back is =
      let s = subst (λ p. IsStopped p h.rest h.played.turns) is h.ends in
      record {
        made = h.made;
        rest = h.rest;
        all = h.all;
        played = record {
          turns = h.played.turns;
          each = h.played.each;
          all = h.played.all;
          made = h.played.made;
          records_are = h.played.records_are;
          abandoned_are = h.played.abandoned_are;
          lists_are = unworn_lists m meaning start tile.number a b back h.played.turns h.played.each s.1 h.played.lists_are;
        };
        ends = h.ends;
        cells = h.cells;
      }

  worn_back : tile.phase ≡ WornPhase → HasEnded (common m meaning start) given b tile
  worn_back is =
      let s = subst (λ p. IsStopped p h.rest h.played.turns) is h.ends in
      let q = worn_played m meaning start tile.number a b back h.made tile.records tile.abandoned h.played h.played.turns refl s in
      record {
        made = h.made;
        rest = h.rest;
        all = h.all;
        played = q.0;
        ends = subst (λ p. IsStopped p h.rest q.0.turns) (sym is) q.1;
        cells = λ site held. h.cells site held ∙ sym (q.2 site);
      }

  pub ended_back : HasStopped tile → HasEnded (common m meaning start) given b tile
  ended_back stopped = ⊎_elim finished_back worn_back stopped
