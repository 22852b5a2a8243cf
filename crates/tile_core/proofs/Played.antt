-- What is over is played, and the entries of the turns make a log.
use Rattle.std.proofs.Common.{◌≡◌, ℕ, zero, suc, ◌<◌, ◌≤◌, Bool, true, List, [], ◌∷◌, length, take, refl, sym, ap, ◌∙◌, subst, arith}
use Rattle.std.specs.Prelude.{max, All, AllPairs, slice_get}
use Rattle.std.proofs.lemmas.List.{take_all}
use Rattle.std.proofs.lemmas.List.Elements.{All-push}
use Rattle.std.proofs.lemmas.List.Quantifiers.{all_pairs_push}
use Rattle.std.proofs.lemmas.Option.{slice_get_within}
use Rattle.list_laws.proofs.Slots.{get_take, drop_none}
use Rattle.bit_field.specs.Atom.{AtomValue}
use Rattle.window_sites.specs.Window.{WindowValue}
use Rattle.tile_map.specs.Plane.{Site, MapValue}
use Rattle.tile_map.specs.Edges.{needs_of}
use Rattle.cell_grid.specs.declared.record.Record.{Record}
use Rattle.draw_stream.specs.declared.attempt.Attempt.{Attempt}
use Rattle.event_journal.specs.declared.abandoned.Abandoned.{Abandoned}
use Rattle.event_journal.specs.Logs.{RisesTo, IsLog, log_of}
use Rattle.edge_lock.specs.History.{found_value}
use Rattle.edge_lock.specs.EndLists.{EndLists, hold_of, writes_nothing}
use Rattle.border_cache.specs.Windows.{has, end_at}
use Rattle.tile_core.specs.declared.phase.Phase.TheVariants.{Draw, Finished, Worn as WornPhase}
use Rattle.tile_core.specs.Values.{TileValue, centre, event_site, given_up_site}
use Rattle.tile_core.specs.Turns.{Turn, Wins, Loses, Wears, Worn, AreTurns, IsAttemptOf, AreAttempts, IsWorn, HasPlayed, accesses_at, AgreeOnEdges, lists_of, with_more, one_if, stamp_of, clock_in, greatest, records_in_turns, abandoned_in_turns, common, made_of, IsAttemptAt}
use Rattle.tile_core.specs.Underway.{IsUnderway, InPhase, IsDrawn, tile_at}

length_take : {A : Type 0} (n : ℕ) (xs : List A) → n ≤ length xs → length (take n xs) ≡ n
length_take zero xs le = refl
length_take (suc n) [] le = absurd (omega (arith, le))
length_take (suc n) (x ∷ xs) le = ap (λ k. suc k) (length_take n xs (omega (arith, le)))

module _ (m : MapValue) (t : ℕ) (attempts : List Attempt) where
  attempt_within : (n k : ℕ) (s : Site) (seed : ℕ) → k < n → IsAttemptAt m t (slice_get attempts k) s seed → IsAttemptAt m t (slice_get (take n attempts) k) s seed
  attempt_within n k s seed lt a = record { attempt = a.attempt; is = get_take k n attempts lt ∙ a.is; site_is = a.site_is; seed_is = a.seed_is }

  turn_within : (n k : ℕ) (x : Turn) → k < n → IsAttemptOf m t attempts k x → IsAttemptOf m t (take n attempts) k x
  turn_within n k (Wins w) lt a = attempt_within n k (event_site w.note) w.note.seed lt a
  turn_within n k (Loses l) lt a = (a.0, attempt_within n k (given_up_site l.gone) a.0 lt a.1)
  turn_within n k (Wears w) lt a = (a.0, attempt_within n k w.site a.0 lt a.1)

  made_within : (n : ℕ) (turns : List Turn) → length turns ≤ n → AreAttempts m t attempts turns → AreAttempts m t (take n attempts) turns
  made_within n [] le a = tt
  made_within n (x ∷ xs) le a = (turn_within n (length xs) x (omega (arith, le)) a.0, made_within n xs (omega (arith, le)) a.1)

  turn_there : (k : ℕ) (x : Turn) → IsAttemptOf m t attempts k x → k < length attempts
  turn_there k (Wins w) a = slice_get_within attempts k a.attempt a.is
  turn_there k (Loses l) a = slice_get_within attempts k a.1.attempt a.1.is
  turn_there k (Wears w) a = slice_get_within attempts k a.1.attempt a.1.is

  turns_few : (turns : List Turn) → AreAttempts m t attempts turns → length turns ≤ length attempts
  turns_few [] a = omega arith
  turns_few (x ∷ xs) a = let lt = turn_there (length xs) x a.0 in omega (arith, lt)

module _ (m : MapValue) (meaning : WindowValue → ℕ → WindowValue) (start : Site → AtomValue) (attempts : List Attempt) (tile : TileValue) (lists : ℕ → EndLists) (u : IsUnderway (common m meaning start) attempts tile lists) where
  with_turns : (n : ℕ) → length u.turns ≡ n → AgreeOnEdges m tile.number lists (lists_of m tile.number u.turns) → HasPlayed (common m meaning start) tile.number (take n attempts) (made_of tile.records tile.abandoned lists)
  with_turns n count ends = record {
    turns = u.turns;
    each = u.each;
    all = (let le = turns_few m tile.number attempts u.turns u.made in length_take n attempts (omega (arith, le, count))) ∙ sym count;
    made = made_within m tile.number attempts n u.turns (omega (arith, count)) u.made;
    records_are = u.records;
    abandoned_are = u.abandoned;
    lists_are = ends;
  }

  -- between attempts a tile has played those that it drew
  pub played_at_draw : tile.phase ≡ Draw → HasPlayed (common m meaning start) tile.number (take tile.taken attempts) (made_of tile.records tile.abandoned lists)
  played_at_draw is = let h = subst (InPhase (common m meaning start) attempts u.turns (tile_at tile lists)) is u.hand in with_turns tile.taken (sym h.0) h.2

  -- a finished tile has played all its attempts
  pub played_at_end : tile.phase ≡ Finished → HasPlayed (common m meaning start) tile.number attempts (made_of tile.records tile.abandoned lists)
  played_at_end is =
      let h = subst (InPhase (common m meaning start) attempts u.turns (tile_at tile lists)) is u.hand in
      let le = drop_none tile.taken attempts (sym u.left ∙ h.1) in
      subst (λ as_played. HasPlayed (common m meaning start) tile.number as_played (made_of tile.records tile.abandoned lists)) (take_all tile.taken attempts le) (with_turns tile.taken (sym h.0) h.2)

  -- a tile that is worn out has played the attempts that it drew, and the holds of the last are open
  pub played_at_wear : tile.phase ≡ WornPhase → HasPlayed (common m meaning start) tile.number (take tile.taken attempts) (made_of tile.records tile.abandoned lists)
  played_at_wear is = record {
    turns = Wears worn ∷ u.turns;
    each = (is_worn, u.unworn, u.each);
    all = length_take tile.taken attempts (let lt = slice_get_within attempts (length u.turns) d.made.attempt d.made.is in omega (arith, taken, lt)) ∙ taken;
    made = made_within m tile.number attempts tile.taken (Wears worn ∷ u.turns) (omega (arith, taken)) ((tile.seed, d.made), u.made);
    records_are = u.records;
    abandoned_are = u.abandoned;
    lists_are = λ e own. h.1.1 e own ∙ go e (has e tile.needs) refl;
  }
    where
      h : InPhase (common m meaning start) attempts u.turns (tile_at tile lists) WornPhase
      h = subst (InPhase (common m meaning start) attempts u.turns (tile_at tile lists)) is u.hand

      d : IsDrawn m attempts u.turns tile
      d = h.0

      taken : tile.taken ≡ suc (length u.turns)
      taken = let k = d.taken in omega (arith, k)

      worn : Worn
      worn = record { site = centre tile; hold = λ e. hold_of (end_at m tile.number e) (length u.turns) (h.1.0 e) true }

      is_worn : IsWorn m tile.number u.turns worn
      is_worn = record {
        centre = d.centre_is;
        holds = λ e q. let r = h.1.2.is e (ap (has e) d.needs ∙ q) in (refl, refl, ap writes_nothing r, (h.1.2.clock e, ap (λ xs. found_value xs 0) r));
        high = subst (λ es. 4294967295 ≤ greatest (stamp_of u.turns) (λ e. clock_in (h.1.0 e)) es) d.needs h.1.2.high;
      }

      go : (e : ℕ) (b : Bool) → has e tile.needs ≡ b → with_more (one_if (has e tile.needs) (worn.hold e)) [] (lists_of m tile.number u.turns e) ≡ with_more (one_if (has e (needs_of m tile.number (centre tile))) (worn.hold e)) [] (lists_of m tile.number u.turns e)
      go e b q = ap (λ es. with_more (one_if (has e es) (worn.hold e)) [] (lists_of m tile.number u.turns e)) d.needs

-- the greatest of some numbers is not below the first
pub greatest_above : (n : ℕ) (f : ℕ → ℕ) (es : List ℕ) → n ≤ greatest n f es
greatest_above n f [] = omega arith
greatest_above n f (e ∷ es) = let le = greatest_above (max n (f e)) f es in grind (arith, le)

-- the entries of the turns
module _ (m : MapValue) (meaning : WindowValue → ℕ → WindowValue) (start : Site → AtomValue) (t : ℕ) where
  abbrev IsOfTile : Record → Type 0
  IsOfTile r = r.tile ≡ t

  abbrev IsEarlier : ℕ → ℕ → Record → Type 0
  IsEarlier n stamp r = (r.attempt < n) × (r.stamp ≤ stamp)

  abbrev IsGivenUp : Abandoned → Type 0
  IsGivenUp a = a.tile ≡ t

  record_tiles : (turns : List Turn) → AreTurns (common m meaning start) t turns → All IsOfTile (records_in_turns turns)
  record_tiles [] a = λ k d lt. absurd (omega (arith, lt))
  record_tiles (Wins w ∷ xs) a = All-push IsOfTile (records_in_turns xs) w.note (record_tiles xs a.2) a.0.tile
  record_tiles (Loses l ∷ xs) a = record_tiles xs a.2
  record_tiles (Wears w ∷ xs) a = record_tiles xs a.2

  abandoned_tiles : (turns : List Turn) → AreTurns (common m meaning start) t turns → All IsGivenUp (abandoned_in_turns turns)
  abandoned_tiles [] a = λ k d lt. absurd (omega (arith, lt))
  abandoned_tiles (Wins w ∷ xs) a = abandoned_tiles xs a.2
  abandoned_tiles (Loses l ∷ xs) a = All-push IsGivenUp (abandoned_in_turns xs) l.gone (abandoned_tiles xs a.2) a.0.tile
  abandoned_tiles (Wears w ∷ xs) a = abandoned_tiles xs a.2

  earlier : (turns : List Turn) → AreTurns (common m meaning start) t turns → (n stamp : ℕ) → length turns ≤ n → stamp_of turns ≤ stamp → All (IsEarlier n stamp) (records_in_turns turns)
  earlier [] a n stamp le up = λ k d lt. absurd (omega (arith, lt))
  earlier (Wins w ∷ xs) a n stamp le up =
      let above = greatest_above (stamp_of xs) (λ e. clock_in (accesses_at w e)) (needs_of m t (event_site w.note)) in
      let is = a.0.stamp in let number = a.0.attempt in
      All-push (IsEarlier n stamp) (records_in_turns xs) w.note (earlier xs a.2 n stamp (omega (arith, le)) (omega (arith, above, is, up))) (omega (arith, number, le), up)
  earlier (Loses l ∷ xs) a n stamp le up = earlier xs a.2 n stamp (omega (arith, le)) up
  earlier (Wears w ∷ xs) a n stamp le up = earlier xs a.2 n stamp (omega (arith, le)) up

  refused_earlier : (turns : List Turn) → AreTurns (common m meaning start) t turns → (n : ℕ) → length turns ≤ n → All (λ (g : Abandoned). g.attempt < n) (abandoned_in_turns turns)
  refused_earlier [] a n le = λ k d lt. absurd (omega (arith, lt))
  refused_earlier (Wins w ∷ xs) a n le = refused_earlier xs a.2 n (omega (arith, le))
  refused_earlier (Loses l ∷ xs) a n le = let number = a.0.attempt in All-push (λ (g : Abandoned). g.attempt < n) (abandoned_in_turns xs) l.gone (refused_earlier xs a.2 n (omega (arith, le))) (omega (arith, number, le))
  refused_earlier (Wears w ∷ xs) a n le = refused_earlier xs a.2 n (omega (arith, le))

  records_rise : (turns : List Turn) → AreTurns (common m meaning start) t turns → AllPairs RisesTo (records_in_turns turns)
  records_rise [] a = λ j k d lt less. absurd (omega (arith, less))
  records_rise (Wins w ∷ xs) a =
      let above = greatest_above (stamp_of xs) (λ e. clock_in (accesses_at w e)) (needs_of m t (event_site w.note)) in
      let is = a.0.stamp in let number = a.0.attempt in
      all_pairs_push RisesTo (records_in_turns xs) w.note (records_rise xs a.2) (λ k d lt. let p = earlier xs a.2 (length xs) (stamp_of xs) (omega arith) (omega arith) k d lt in (omega (arith, p.0, number), omega (arith, p.1, is, above)))
  records_rise (Loses l ∷ xs) a = records_rise xs a.2
  records_rise (Wears w ∷ xs) a = records_rise xs a.2

  abandoned_rise : (turns : List Turn) → AreTurns (common m meaning start) t turns → AllPairs (λ (g h : Abandoned). g.attempt < h.attempt) (abandoned_in_turns turns)
  abandoned_rise [] a = λ j k d lt less. absurd (omega (arith, less))
  abandoned_rise (Wins w ∷ xs) a = abandoned_rise xs a.2
  abandoned_rise (Loses l ∷ xs) a = let number = a.0.attempt in
      all_pairs_push (λ (g h : Abandoned). g.attempt < h.attempt) (abandoned_in_turns xs) l.gone (abandoned_rise xs a.2) (λ k d lt. let p = refused_earlier xs a.2 (length xs) (omega arith) k d lt in omega (arith, p, number))
  abandoned_rise (Wears w ∷ xs) a = abandoned_rise xs a.2

pub is_log : (m : MapValue) (meaning : WindowValue → ℕ → WindowValue) (start : Site → AtomValue) (attempts : List Attempt) (tile : TileValue) (lists : ℕ → EndLists) → IsUnderway (common m meaning start) attempts tile lists → IsLog (log_of tile.number tile.records tile.abandoned)
is_log m meaning start attempts tile lists u = subst (λ (x : List Record × List Abandoned). IsLog (log_of tile.number x.0 x.1)) (λ i. (sym u.records i, sym u.abandoned i)) (record {
  records = record_tiles m meaning start tile.number u.turns u.each;
  abandoned = abandoned_tiles m meaning start tile.number u.turns u.each;
  rising = records_rise m meaning start tile.number u.turns u.each;
  attempts = abandoned_rise m meaning start tile.number u.turns u.each;
})
