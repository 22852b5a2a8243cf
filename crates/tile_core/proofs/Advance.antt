-- A step keeps a tile underway, by its phase.
use Rattle.std.proofs.Common.{◌≡◌, ℕ, ◌+◌, Bool, true, false, true≢false, List, [], length, refl, sym, ap, ◌∙◌, subst, inl, ⊎_elim}
use Rattle.std.specs.Prelude.{nat_lt, drop}
use Rattle.window_sites.specs.Window.{WindowValue}
use Rattle.tile_map.specs.Plane.{MapValue}
use Rattle.tile_map.specs.Edges.{needs_of}
use Rattle.tile_map.specs.Laws.{IsPlane}
use Rattle.cell_grid.specs.Grid.{GridValue}
use Rattle.draw_stream.specs.declared.attempt.Attempt.{Attempt}
use Rattle.edge_lock.specs.declared.board.Take.{Take}
use Rattle.edge_lock.specs.declared.board.Take.TheVariants.{Got, Busy}
use Rattle.edge_lock.specs.EndLists.{EndLists}
use Rattle.border_cache.specs.Copies.{IsEndOf, IsFirstCopy}
use Rattle.border_cache.proofs.Needs.{has_at}
use Rattle.tile_core.specs.declared.phase.Phase.{Phase}
use Rattle.tile_core.specs.declared.phase.Phase.TheVariants.{Draw, Lock, Refresh, Behave, Write, Give, Back, Finished, Worn}
use Rattle.tile_core.specs.Values.{TileValue, centre, atoms_of}
use Rattle.tile_core.specs.Underway.{Onward, GoesOn, CanAttempt, IsFreshTile, InPhase, AreNeeds, tile_at}
use Rattle.tile_core.specs.Steps.{StepsIn, Rests, WearsOut, Renews, is_over, over, next_edge, tile_with_edge, tile_after_try, tile_after_give, rules_of}
use Rattle.tile_core.proofs.Laws.{drawn_on, lock_lt, tries_on, gives_on, backs_on, over_hand, needs_of_tile}
use Rattle.tile_core.proofs.Refreshing.{refreshes_on}
use Rattle.tile_core.proofs.Behaving.{behaves_on}
use Rattle.tile_core.proofs.Writes.{writes_on}
use Rattle.edge_lock.specs.EndValues.{EndValue}
use Rattle.tile_core.specs.Turns.{common}

module _ (m : MapValue) (plane : IsPlane m) (meaning : WindowValue → ℕ → WindowValue) (end : EndValue) (old new : TileValue) (a b : ℕ → EndLists) (board : IsEndOf m old.number end) where
  pub steps_on : StepsIn (rules_of m meaning end.end_of) (tile_at old a) (tile_at new b) old.phase → GoesOn m meaning (tile_at old a) (tile_at new b)
  steps_on s start attempts u = go old.phase refl s
    where
      same_lists : b ≡ a → Onward (common m meaning start) attempts u.turns (tile_at new a) → Onward (common m meaning start) attempts u.turns (tile_at new b)
      same_lists e n = subst (λ c. Onward (common m meaning start) attempts u.turns (tile_at new c)) (sym e) n

      rests : Rests (tile_at old a) (tile_at new b) → Onward (common m meaning start) attempts u.turns (tile_at new b)
      rests r = subst (λ (x : TileValue × (ℕ → EndLists)). Onward (common m meaning start) attempts u.turns (tile_at x.0 x.1)) (λ i. (sym r.is i, sym r.lists_are i)) (u, inl refl)

      go : (p : Phase) → old.phase ≡ p → StepsIn (rules_of m meaning end.end_of) (tile_at old a) (tile_at new b) p → Onward (common m meaning start) attempts u.turns (tile_at new b)
      go Draw is s = same_lists s.1 (drawn_on m meaning start attempts old a u is plane new s.0)
      go Lock is s =
          let e = next_edge old in
          tries_on m meaning start attempts old a u is b end.end_of new (board.end_is e (u.needs.ends e (has_at old.next old.needs (lock_lt m meaning start attempts old a u is)))) s
      go Refresh is s = refreshes_on m meaning start attempts old a u is plane new b s
      go Behave is s = same_lists s.1 (behaves_on m meaning start attempts old a u is new s.0)
      go Write is s = writes_on m meaning start attempts old a u is plane new b s
      go Give is s = gives_on m meaning start attempts old a u is b new s
      go Back is s = backs_on m meaning start attempts old a u is b new s
      go Finished is s = rests s
      go Worn is s = rests s

got_number : (x : Bool) (tile : TileValue) → (tile_with_edge x tile).number ≡ tile.number
got_number true tile = refl
got_number false tile = refl

freed_number : (x : Bool) (tile : TileValue) → (tile_after_give x tile).number ≡ tile.number
freed_number true tile = refl
freed_number false tile = refl

tried_number : (m : MapValue) (tile : TileValue) (r : Take) → (tile_after_try m tile r).number ≡ tile.number
tried_number m tile Got = got_number (nat_lt (tile.next + 1) (length tile.needs)) tile
tried_number m tile (Busy j) = refl

-- a step leaves the tile its number
pub same_number : (m : MapValue) (meaning : WindowValue → ℕ → WindowValue) (end_of : ℕ → ℕ) (old new : TileValue) (a b : ℕ → EndLists) (p : Phase) → StepsIn (rules_of m meaning end_of) (tile_at old a) (tile_at new b) p → new.number ≡ old.number
same_number m meaning end_of old new a b Draw s = ap (λ t. t.number) s.0.begins.is
same_number m meaning end_of old new a b Lock s = ap (λ t. t.number) s.is ∙ tried_number m old s.answer
same_number m meaning end_of old new a b Refresh s = ⊎_elim (λ (w : WearsOut old new s.top s.between b). ap (λ t. t.number) w.is) (λ (w : Renews old new s.top s.between b). ap (λ t. t.number) w.is) s.step
same_number m meaning end_of old new a b Behave s = ap (λ t. t.number) s.0.is
same_number m meaning end_of old new a b Write s = ap (λ t. t.number) s.is
same_number m meaning end_of old new a b Give s = ap (λ t. t.number) s.is ∙ freed_number (nat_lt (old.next + 1) (length old.needs)) old
same_number m meaning end_of old new a b Back s = ap (λ t. t.number) s.is ∙ freed_number (nat_lt (old.next + 1) old.count) old
same_number m meaning end_of old new a b Finished s = ap (λ t. t.number) s.is
same_number m meaning end_of old new a b Worn s = ap (λ t. t.number) s.is

got_map : (x : Bool) (tile : TileValue) → (tile_with_edge x tile).cache.map ≡ tile.cache.map
got_map true tile = refl
got_map false tile = refl

freed_map : (x : Bool) (tile : TileValue) → (tile_after_give x tile).cache.map ≡ tile.cache.map
freed_map true tile = refl
freed_map false tile = refl

tried_map : (m : MapValue) (tile : TileValue) (r : Take) → (tile_after_try m tile r).cache.map ≡ tile.cache.map
tried_map m tile Got = got_map (nat_lt (tile.next + 1) (length tile.needs)) tile
tried_map m tile (Busy j) = refl

-- and the map that it was made with
pub same_map : (m : MapValue) (meaning : WindowValue → ℕ → WindowValue) (end_of : ℕ → ℕ) (old new : TileValue) (a b : ℕ → EndLists) (p : Phase) → StepsIn (rules_of m meaning end_of) (tile_at old a) (tile_at new b) p → new.cache.map ≡ old.cache.map
same_map m meaning end_of old new a b Draw s = ap (λ t. t.cache.map) s.0.begins.is
same_map m meaning end_of old new a b Lock s = ap (λ t. t.cache.map) s.is ∙ tried_map m old s.answer
same_map m meaning end_of old new a b Refresh s = ⊎_elim (λ (w : WearsOut old new s.top s.between b). ap (λ t. t.cache.map) w.is) (λ (w : Renews old new s.top s.between b). w.cells.stores.differs.map) s.step
same_map m meaning end_of old new a b Behave s = ap (λ t. t.cache.map) s.0.is
same_map m meaning end_of old new a b Write s = s.marks.differs.map
same_map m meaning end_of old new a b Give s = ap (λ t. t.cache.map) s.is ∙ freed_map (nat_lt (old.next + 1) (length old.needs)) old
same_map m meaning end_of old new a b Back s = ap (λ t. t.cache.map) s.is ∙ freed_map (nat_lt (old.next + 1) old.count) old
same_map m meaning end_of old new a b Finished s = ap (λ t. t.cache.map) s.is
same_map m meaning end_of old new a b Worn s = ap (λ t. t.cache.map) s.is

-- a tile that was made
pub fresh_tile : (m : MapValue) → IsPlane m → (g : GridValue) (attempts : List Attempt) (tile : TileValue) → CanAttempt m tile.number attempts → IsFirstCopy m tile.number g tile.cache → tile.left ≡ attempts → tile.taken ≡ 0 → tile.stamp ≡ 0
    → tile.records ≡ [] → tile.abandoned ≡ [] → tile.needs ≡ needs_of m tile.number (centre tile) → tile.phase ≡ over tile.left → IsFreshTile m tile.number (atoms_of g) attempts tile
fresh_tile m plane g attempts tile can copy left taken stamp records abandoned needs phase = record {
  number = refl;
  map = copy.map;
  taken = taken;
  left = left;
  underway = λ meaning lists empty. record {
    turns = [];
    each = tt;
    made = tt;
    records = records;
    abandoned = abandoned;
    stamp = stamp;
    unworn = tt;
    needs = subst (AreNeeds m tile.number) (sym needs) (needs_of_tile m plane tile.number (centre tile) can.inside);
    map = copy.map;
    owner = copy.tile;
    can = can;
    left = left ∙ ap (λ n. drop n attempts) (sym taken);
    cells = λ s h q. copy.cells s h;
    hand = subst (InPhase (common m meaning (atoms_of g)) attempts [] (tile_at tile lists)) (sym phase) (over_hand m meaning (atoms_of g) attempts [] tile lists taken empty);
  };
}

got_taken : (x : Bool) (tile : TileValue) → (tile_with_edge x tile).taken ≡ tile.taken
got_taken true tile = refl
got_taken false tile = refl

freed_taken : (x : Bool) (tile : TileValue) → (tile_after_give x tile).taken ≡ tile.taken
freed_taken true tile = refl
freed_taken false tile = refl

tried_taken : (m : MapValue) (tile : TileValue) (r : Take) → (tile_after_try m tile r).taken ≡ tile.taken
tried_taken m tile Got = got_taken (nat_lt (tile.next + 1) (length tile.needs)) tile
tried_taken m tile (Busy j) = refl

-- only Draw takes an attempt
pub same_taken : (m : MapValue) (meaning : WindowValue → ℕ → WindowValue) (end_of : ℕ → ℕ) (old new : TileValue) (a b : ℕ → EndLists) (p : Phase) → is_over p ≡ false → StepsIn (rules_of m meaning end_of) (tile_at old a) (tile_at new b) p → new.taken ≡ old.taken
same_taken m meaning end_of old new a b Draw f s = absurd (true≢false f)
same_taken m meaning end_of old new a b Lock f s = ap (λ t. t.taken) s.is ∙ tried_taken m old s.answer
same_taken m meaning end_of old new a b Refresh f s = ⊎_elim (λ (w : WearsOut old new s.top s.between b). ap (λ t. t.taken) w.is) (λ (w : Renews old new s.top s.between b). ap (λ t. t.taken) w.is) s.step
same_taken m meaning end_of old new a b Behave f s = ap (λ t. t.taken) s.0.is
same_taken m meaning end_of old new a b Write f s = ap (λ t. t.taken) s.is
same_taken m meaning end_of old new a b Give f s = ap (λ t. t.taken) s.is ∙ freed_taken (nat_lt (old.next + 1) (length old.needs)) old
same_taken m meaning end_of old new a b Back f s = ap (λ t. t.taken) s.is ∙ freed_taken (nat_lt (old.next + 1) old.count) old
same_taken m meaning end_of old new a b Finished f s = absurd (true≢false f)
same_taken m meaning end_of old new a b Worn f s = absurd (true≢false f)

pub drawn_taken : (m : MapValue) (meaning : WindowValue → ℕ → WindowValue) (end_of : ℕ → ℕ) (old new : TileValue) (a b : ℕ → EndLists) (p : Phase) → p ≡ Draw → StepsIn (rules_of m meaning end_of) (tile_at old a) (tile_at new b) p → new.taken ≡ old.taken + 1
drawn_taken m meaning end_of old new a b p is s = let d = subst (StepsIn (rules_of m meaning end_of) (tile_at old a) (tile_at new b)) is s in ap (λ t. t.taken) d.0.begins.is
