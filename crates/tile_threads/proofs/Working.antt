-- A worker at work, one attempt after another.
use Rattle.std.proofs.Common.{◌≡◌, ◌⊎◌, ℕ, ◌+◌, ◌-◌, ◌<◌, true, false, List, length, refl, sym, ap, ◌∙◌, subst, arith, inl, inr, length-drop}
use Rattle.bit_field.specs.Atom.{AtomValue}
use Rattle.window_sites.specs.Window.{WindowValue}
use Rattle.tile_map.specs.Plane.{Site, MapValue}
use Rattle.draw_stream.specs.declared.attempt.Attempt.{Attempt}
use Rattle.edge_lock.specs.EndLists.{EndLists}
use Rattle.edge_lock.specs.EndValues.{SameEnd}
use Rattle.tile_core.specs.declared.phase.Phase.{Phase}
use Rattle.tile_core.specs.declared.phase.Phase.TheVariants.{Draw, Lock, Refresh, Behave, Write, Give, Back, Finished, Worn}
use Rattle.tile_core.specs.Values.{TileValue}
use Rattle.tile_core.specs.Steps.{is_over}
use Rattle.tile_core.specs.Underway.{tile_at, IsUnderway, GoesFar, InPhase}
use Rattle.serial_order.specs.Boards.{HasStopped}
use Rattle.border_cache.proofs.Stored.{end_stays}
use Rattle.serial_order.proofs.Boards.{has_ended}
use Rattle.tile_threads.specs.Runs.{is_drawing, WorkerValue, tile_in, IsReady, HasWorked}
use Rattle.tile_core.specs.Turns.{common}

pub draws : (p : Phase) → is_drawing p ≡ true → p ≡ Draw
draws Draw is = refl
draws Lock is = absurd (cc is)
draws Refresh is = absurd (cc is)
draws Behave is = absurd (cc is)
draws Write is = absurd (cc is)
draws Give is = absurd (cc is)
draws Back is = absurd (cc is)
draws Finished is = absurd (cc is)
draws Worn is = absurd (cc is)

stops : (p : Phase) → is_over p ≡ true → is_drawing p ≡ false → (p ≡ Finished) ⊎ (p ≡ Worn)
stops Draw over is = absurd (cc is)
stops Lock over is = absurd (cc over)
stops Refresh over is = absurd (cc over)
stops Behave over is = absurd (cc over)
stops Write over is = absurd (cc over)
stops Give over is = absurd (cc over)
stops Back over is = absurd (cc over)
stops Finished over is = inl refl
stops Worn over is = inr refl

-- an attempt more leaves fewer
pub attempts_fall : (m : MapValue) (meaning : WindowValue → ℕ → WindowValue) (start : Site → AtomValue) (attempts : List Attempt) (old new : TileValue) (a b : ℕ → EndLists) → IsUnderway (common m meaning start) attempts old a → IsUnderway (common m meaning start) attempts new b
    → old.phase ≡ Draw → new.taken ≡ old.taken + 1 → length new.left < length old.left
attempts_fall m meaning start attempts old new a b u v is taken =
    let h = subst (InPhase (common m meaning start) attempts u.turns (tile_at old a)) is u.hand in
    let some_left = h.1 in
    let was : length old.left ≡ length attempts - old.taken = ap (λ xs. length xs) u.left ∙ length-drop old.taken attempts in
    let now : length new.left ≡ length attempts - new.taken = ap (λ xs. length xs) v.left ∙ length-drop new.taken attempts in
    omega (arith, some_left, was, now, taken)

-- what a worker has done so far
pub record SoFar (m : MapValue) (old new : WorkerValue) : Type 0 where
  pub between : is_over new.tile.phase ≡ true
  pub far : GoesFar m old.meaning (tile_in old) (tile_in new)
  pub number : new.tile.number ≡ old.tile.number
  pub map : new.tile.cache.map ≡ old.tile.cache.map
  pub meaning : new.meaning ≡ old.meaning
  pub same : SameEnd old.end new.end

pub begins : (m : MapValue) (w : WorkerValue) → IsReady m w → SoFar m w w
begins m w ready = record { between = ready.between; far = λ start attempts u. u; number = refl; map = refl; meaning = refl; same = (refl, refl, refl) }

module _ (m : MapValue) (old new : WorkerValue) (ready : IsReady m old) (s : SoFar m old new) where
  -- it can go on
  pub goes_on : IsReady m new
  goes_on = record {
    map = s.map ∙ ready.map;
    board = end_stays m old.tile.number new.tile.number old.end new.end s.number s.same ready.board;
    between = s.between;
    underway = (ready.underway.0, ready.underway.1, subst (λ meaning. IsUnderway (common m meaning ready.underway.0) ready.underway.1 new.tile new.end.lists) (sym s.meaning) (s.far ready.underway.0 ready.underway.1 ready.underway.2));
  }

  -- one attempt more
  pub went_on : (next : WorkerValue) → GoesFar m new.meaning (tile_in new) (tile_in next) → is_over next.tile.phase ≡ true → next.tile.number ≡ new.tile.number → next.tile.cache.map ≡ new.tile.cache.map → next.meaning ≡ new.meaning → SameEnd new.end next.end → SoFar m old next
  went_on next far over number map meaning same = record {
    between = over;
    far = λ start attempts u. subst (λ mean. GoesFar m mean (tile_in new) (tile_in next)) s.meaning far start attempts (s.far start attempts u);
    number = number ∙ s.number;
    map = map ∙ s.map;
    meaning = meaning ∙ s.meaning;
    same = (same.0 ∙ s.same.0, same.1 ∙ s.same.1, same.2 ∙ s.same.2);
  }

  -- and it is done where no attempt is left
  pub is_done : is_drawing new.tile.phase ≡ false → HasWorked m old new
  is_done is = record {
    stopped = stopped;
    far = s.far;
    ends = λ start attempts u. has_ended m old.meaning start attempts new.tile new.end.lists new.end.lists (s.far start attempts u) (λ e own. refl) stopped;
    number = s.number;
    map = s.map;
    meaning = s.meaning;
    same = s.same;
  }
    where
      stopped : HasStopped new.tile
      stopped = stops new.tile.phase s.between is
