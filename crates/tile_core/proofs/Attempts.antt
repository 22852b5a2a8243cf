-- The steps of an attempt, one after another.
use Rattle.std.proofs.Common.{◌≡◌, ◌<◌, ℕ, false, refl, sym, ap, ◌∙◌, subst}
use Rattle.window_sites.specs.Window.{WindowValue}
use Rattle.tile_map.specs.Plane.{MapValue}
use Rattle.tile_map.specs.Laws.{IsPlane}
use Rattle.edge_lock.specs.EndValues.{EndValue, SameEnd}
use Rattle.edge_lock.proofs.BoardLaws.{same_end_here}
use Rattle.border_cache.specs.Copies.{IsEndOf}
use Rattle.border_cache.proofs.Stored.{end_stays}
use Rattle.tile_core.specs.declared.phase.Phase.{Phase}
use Rattle.tile_core.specs.declared.state.State.{State}
use Rattle.tile_core.specs.Kept.{at, value_of, HasRoom, IsIn, IsReady}
use Rattle.tile_core.specs.declared.phase.Phase.TheVariants.{Draw}
use Rattle.tile_core.specs.Steps.{StepsIn, Draws, is_over, rules_of}
use Rattle.tile_core.specs.Underway.{TileAt, GoesFar, GoesThrough}
use Rattle.tile_core.proofs.Advance.{steps_on, same_number, same_taken}
use Rattle.tile_core.proofs.Falls.{steps_fall, steps_left}

module _ (m : MapValue) where
  pub goes_nowhere : (meaning : WindowValue → ℕ → WindowValue) (a : TileAt) → GoesThrough m meaning a a
  goes_nowhere meaning a = record { far = λ start attempts u. u; taken = refl; number = refl }

  pub goes_on : (meaning : WindowValue → ℕ → WindowValue) (a b c : TileAt) → GoesThrough m meaning a b → GoesThrough m meaning b c → GoesThrough m meaning a c
  goes_on meaning a b c p q = record {
    far = λ start attempts u. q.far start attempts (p.far start attempts u);
    taken = q.taken ∙ p.taken;
    number = q.number ∙ p.number;
  }

  -- after such steps a further one can be made
  pub ready_on : (meaning : WindowValue → ℕ → WindowValue) (s t : State) (end end' : EndValue) → IsReady m meaning s end → GoesThrough m meaning (at s end) (at t end') → HasRoom t → SameEnd end end' → IsReady m meaning t end'
  ready_on meaning s t end end' r g room same =
      let u = r.underway in
      record {
        underway = (u.0, u.1, g.far u.0 u.1 u.2);
        board = end_stays m s.number t.number end end' g.number same r.board;
        room = room;
      }

  pub ready_in : (meaning : WindowValue → ℕ → WindowValue) (s : State) (end : EndValue) (p : Phase) → IsReady m meaning s end → s.phase ≡ p → IsIn m (value_of s) end.lists p
  ready_in meaning s end p r is = let u = r.underway in (meaning, u.0, u.1, is, u.2)

  -- a step of a phase
  module _ (meaning : WindowValue → ℕ → WindowValue) (s t : State) (end end' : EndValue) where
    abbrev IsStep : Phase → Type 0
    IsStep p = StepsIn (rules_of m meaning end.end_of) (at s end) (at t end') p

    pub goes_far : IsPlane m → IsEndOf m s.number end → (p : Phase) → s.phase ≡ p → IsStep p → GoesFar m meaning (at s end) (at t end')
    goes_far plane board p is step start attempts u = (steps_on m plane meaning end (value_of s) (value_of t) end.lists end'.lists board (subst IsStep (sym is) step) start attempts u).0

    pub goes_by : IsPlane m → IsEndOf m s.number end → (p : Phase) → s.phase ≡ p → IsStep p → is_over p ≡ false → GoesThrough m meaning (at s end) (at t end')
    goes_by plane board p is step on = record {
      far = goes_far plane board p is step;
      taken = same_taken m meaning end.end_of (value_of s) (value_of t) end.lists end'.lists p on step;
      number = same_number m meaning end.end_of (value_of s) (value_of t) end.lists end'.lists p step;
    }

    pub falls_by : IsReady m meaning s end → (p : Phase) → s.phase ≡ p → IsStep p → is_over p ≡ false → steps_left (value_of t) < steps_left (value_of s)
    falls_by ready p is step on =
        let u = ready.underway in
        steps_fall m meaning u.0 u.1 (value_of s) end.lists u.2 end.end_of (value_of t) end'.lists (ap is_over is ∙ on) (subst IsStep (sym is) step)

  -- after the draw as well
  pub drawn_ready : (meaning : WindowValue → ℕ → WindowValue) (s t : State) (end : EndValue) → IsPlane m → IsReady m meaning s end → s.phase ≡ Draw → Draws m (value_of s) (value_of t) → HasRoom t → IsReady m meaning t end
  drawn_ready meaning s t end plane r is d room =
      let u = r.underway in
      let number = same_number m meaning end.end_of (value_of s) (value_of t) end.lists end.lists Draw (d, refl) in
      record {
        underway = (u.0, u.1, goes_far meaning s t end end plane r.board Draw is (d, refl) u.0 u.1 u.2);
        board = end_stays m s.number t.number end end number (same_end_here end) r.board;
        room = room;
      }
