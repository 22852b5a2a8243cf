-- What contracts see of a state after some of its fields have changed.
use Rattle.std.proofs.Common.{◌≡◌, ℕ, zero, suc, ◌+◌, [], ◌∷◌, Bool, true, false, List, length, refl, sym, ap, ◌∙◌, subst, arith}
use Rattle.std.specs.Prelude.{if◌then◌else◌}
use Rattle.window_sites.specs.Window.{WindowValue}
use Rattle.tile_map.specs.Plane.{Site, MapValue, site, is_live}
use Rattle.border_cache.specs.Windows.{IsView}
use Rattle.border_cache.specs.Copies.{window_cells}
use Rattle.tile_core.specs.declared.phase.Phase.{Phase}
use Rattle.tile_core.specs.declared.phase.Phase.TheVariants.{Draw, Lock, Refresh, Write, Back}
use Rattle.draw_stream.specs.declared.attempt.Attempt.{Attempt}
use Rattle.tile_core.specs.declared.state.State.{State}
use Rattle.tile_core.specs.Values.{no_window}
use Rattle.tile_core.specs.Steps.{first_phase, over, refused_phase, Behaves}
use Rattle.tile_core.specs.Kept.{value_of, window_seen, until_written}
use Rattle.tile_core.proofs.Idle.{seen_view}

-- with an attempt in hand
begun_window : (es : List ℕ) (w : WindowValue) → until_written (first_phase es) w ≡ no_window
begun_window [] w = refl
begun_window (e ∷ es) w = refl

pub begun_none : (es : List ℕ) → length es ≡ 0 → first_phase es ≡ Refresh
begun_none [] h = refl
begun_none (e ∷ es) h = absurd (omega (arith, h))

pub begun_some : (es : List ℕ) → (length es ≡ 0 → ⊥) → first_phase es ≡ Lock
begun_some [] h = absurd (h refl)
begun_some (e ∷ es) h = refl

pub begun_value : (s : State) (x y seed : ℕ) (found needs : List ℕ) (p : Phase) → s.phase ≡ Draw → found ≡ needs → p ≡ first_phase found
    → value_of (record s { taken = s.taken + 1; x = x; y = y; seed = seed; needs = found; next = 0; phase = p })
    ≡ record (value_of s) { taken = s.taken + 1; x = x; y = y; seed = seed; needs = needs; next = 0; phase = first_phase needs }
begun_value s x y seed found needs p draw same is =
    let a = (if s.idle then window_seen s.cache (site x y) else s.window) in
    let b = (if s.idle then window_seen s.cache (site s.x s.y) else s.window) in
    let none : until_written p a ≡ until_written s.phase b = ap (λ q. until_written q a) is ∙ begun_window found a ∙ sym (ap (λ q. until_written q b) draw) in
    let phase : p ≡ first_phase needs = is ∙ ap first_phase same in
    λ i. record (value_of s) { taken = s.taken + 1; x = x; y = y; seed = seed; needs = same i; next = 0; window = none i; phase = phase i }

-- after a refusal
refused_window : (n : ℕ) (left : List Attempt) (w : WindowValue) → until_written (refused_phase n left) w ≡ no_window
refused_window zero [] w = refl
refused_window zero (a ∷ others) w = refl
refused_window (suc n) left w = refl

pub refused_none : (n : ℕ) (left : List Attempt) → n ≡ 0 → refused_phase n left ≡ over left
refused_none zero left h = refl
refused_none (suc n) left h = absurd (omega (arith, h))

pub refused_some : (n : ℕ) (left : List Attempt) → (n ≡ 0 → ⊥) → refused_phase n left ≡ Back
refused_some zero left h = absurd (h refl)
refused_some (suc n) left h = refl

pub refused_value : (s : State) (p : Phase) → s.phase ≡ Lock → p ≡ refused_phase s.next s.attempts
    → record (value_of s) { next = 0; count = s.next; window = until_written p (if s.idle then window_seen s.cache (site s.x s.y) else s.window); phase = p }
    ≡ record (value_of s) { next = 0; count = s.next; phase = refused_phase s.next s.attempts }
refused_value s p lock is =
    let w = (if s.idle then window_seen s.cache (site s.x s.y) else s.window) in
    let none : until_written p w ≡ until_written s.phase w = ap (λ q. until_written q w) is ∙ refused_window s.next s.attempts w ∙ sym (ap (λ q. until_written q w) lock) in
    λ i. record (value_of s) { next = 0; count = s.next; window = none i; phase = is i }

module _ (m : MapValue) (meaning : WindowValue → ℕ → WindowValue) (s : State) where
  abbrev c : Site
  c = site s.x s.y

  -- an event found an empty centre
  pub idled : (b : Bool) → b ≡ true → s.cache.map ≡ m → is_live m c ≡ true → meaning (window_seen s.cache c) s.seed ≡ window_seen s.cache c
      → Behaves m meaning (value_of s) (value_of (record s { idle = b; phase = Write }))
  idled b idle map live quiet = record {
    view = window_seen s.cache c;
    shows = subst (λ k. IsView k c (window_cells s.cache c) (window_seen s.cache c)) map (seen_view s.cache c (subst (λ k. is_live k c ≡ true) (sym map) live));
    is = let same = ap (λ k. if k then window_seen s.cache c else s.window) idle ∙ sym quiet in λ i. record (value_of s) { window = same i; phase = Write };
  }

  -- an event ran
  pub acted : (b : Bool) (view w : WindowValue) → b ≡ false → IsView m c (window_cells s.cache c) view → w ≡ meaning view s.seed
      → Behaves m meaning (value_of s) (value_of (record s { idle = b; window = w; phase = Write }))
  acted b view w idle shows left = record {
    view = view;
    shows = shows;
    is = let same = ap (λ k. if k then window_seen s.cache c else w) idle ∙ left in λ i. record (value_of s) { window = same i; phase = Write };
  }
