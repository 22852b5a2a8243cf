-- The edges of an attempt, given back one by one.
use Rattle.std.proofs.Common.{◌≡◌, ℕ, zero, suc, ◌+◌, ◌<◌, ◌≤◌, Bool, true, false, true≢false, List, [], ◌∷◌, length, get_or, take, refl, sym, ap, ◌∙◌, arith}
use Rattle.std.specs.Prelude.{if◌then◌else◌, ◌==◌}
use Rattle.std.proofs.lemmas.Bool.Decides.{nat_tests}
use Rattle.std.proofs.lemmas.List.{length-take, get_or-take}
use Rattle.border_cache.specs.Windows.{has}
use Rattle.border_cache.proofs.Needs.{Rises}
use Rattle.bit_field.specs.Atom.{AtomValue}
use Rattle.window_sites.specs.Window.{WindowValue}
use Rattle.tile_map.specs.Plane.{Site, MapValue}
use Rattle.tile_map.specs.Edges.{has_end}
use Rattle.edge_lock.specs.EndLists.{EndLists, IsHeld, HasNoWrite, after_give, replace_at}
use Rattle.border_cache.proofs.Needs.{has_at}
use Rattle.tile_core.specs.Values.{TileValue}
use Rattle.tile_core.specs.Turns.{before, Turn, Wins, Loses, Wears, turn_edges, AreTurns, Wearless, common}
use Rattle.tile_core.specs.Underway.{IsGiving, AreTurnsOver, IsBack, tile_at}
use Rattle.tile_core.proofs.Lists.{here_held, here_quiet, gave_left, all_left, given_of}

-- the edges before the one at n are the first n
pub before_take : (n : ℕ) (xs : List ℕ) → n < length xs → Rises xs → before (get_or xs n 0) xs ≡ take n xs
before_take n [] lt rise = absurd (omega (arith, lt))
before_take zero (x ∷ xs) lt rise = let q : (x == x) ≡ true = grind (arith, nat_tests) in ap (λ b. if b then [] else x ∷ before x xs) q
before_take (suc n) (x ∷ xs) lt rise =
    let less = rise 0 (suc n) (omega arith) lt in
    let q : (x == get_or xs n 0) ≡ false = grind (arith, nat_tests, less) in
    ap (λ b. if b then [] else x ∷ before (get_or xs n 0) xs) q ∙ ap (λ ys. x ∷ ys) (before_take n xs (omega (arith, lt)) (λ j k a b. rise (suc j) (suc k) (omega (arith, a)) (omega (arith, b))))

pub has_taken : (e n : ℕ) (xs : List ℕ) → has e (take n xs) ≡ true → has e xs ≡ true
has_taken e zero xs h = absurd (true≢false (sym h))
has_taken e (suc n) [] h = h
has_taken e (suc n) (x ∷ xs) h = go (e == x) h (has_taken e n xs)
  where
    go : (b : Bool) → (if b then true else has e (take n xs)) ≡ true → (has e (take n xs) ≡ true → has e xs ≡ true) → (if b then true else has e xs) ≡ true
    go true h f = refl
    go false h f = f h

pub rises_take : (n : ℕ) (xs : List ℕ) → Rises xs → Rises (take n xs)
rises_take n xs rise j k lt less =
    let small : k < n = omega (arith, less, length-take {A = ℕ}) in
    let in_xs : k < length xs = omega (arith, less, length-take {A = ℕ}) in
    omega (arith, get_or-take n xs j 0 (omega (arith, lt, small)), get_or-take n xs k 0 small, rise j k lt in_xs)

-- the holds of the last turn, given back one by one
module _ (m : MapValue) (tile : TileValue) (e : ℕ) (edges : List ℕ) (a b : ℕ → EndLists) (rise : Rises edges) (lt : tile.next < length edges) (at : e ≡ get_or edges tile.next 0) (mine : has_end m tile.number e ≡ true) where
  abbrev t : ℕ
  t = tile.number

  abbrev n : ℕ
  n = tile.next

  pub giving_held : (turns : List Turn) → IsGiving m turns (tile_at tile a) edges → IsHeld (a e)
  giving_held [] g = absurd g
  giving_held (x ∷ older) g = here_held m t n e x older edges a b rise lt at mine g.0 g.1

  pub gave_on : (turns : List Turn) → IsGiving m turns (tile_at tile a) edges → b ≡ replace_at a e (after_give (a e)) → IsGiving m turns (tile_at (record tile { next = tile.next + 1 }) b) edges
  gave_on [] g is = g
  gave_on (x ∷ older) g is = (g.0, gave_left m t n e x older edges a b rise lt at mine g.0 g.1 is)

  -- an abandoned attempt has written nothing
  pub giving_quiet : (meaning : WindowValue → ℕ → WindowValue) (start : Site → AtomValue) (turns : List Turn) → AreTurns (common m meaning start) t turns → IsBack turns → IsGiving m turns (tile_at tile a) edges → HasNoWrite (a e)
  giving_quiet meaning start [] u k g = absurd g
  giving_quiet meaning start (Wins w ∷ older) u k g = absurd k
  giving_quiet meaning start (Wears w ∷ older) u k g = absurd k
  giving_quiet meaning start (Loses l ∷ older) u k g =
      let there : has e (turn_edges m t (Loses l)) ≡ true = ap (has e) (sym g.0) ∙ (ap (λ d. has d edges) at ∙ has_at n edges lt) in
      here_quiet m t n e (Loses l) older edges a b rise lt at mine g.0 g.1 (u.0.given e there).1

pub gave_all : (m : MapValue) (meaning : WindowValue → ℕ → WindowValue) (start : Site → AtomValue) (tile : TileValue) (edges : List ℕ) (a : ℕ → EndLists) (turns : List Turn) → AreTurns (common m meaning start) tile.number turns → Wearless turns
    → length edges ≤ tile.next → IsGiving m turns (tile_at tile a) edges → AreTurnsOver m tile.number turns a
gave_all m meaning start tile edges a [] u w le g = absurd g
gave_all m meaning start tile edges a (x ∷ older) u w le g = all_left m tile.number x older edges a g.0 (λ d h. (given_of m meaning start tile.number x older u.0 w d h).closed) tile.next le g.1

-- an edge of a list stands at a place of it
pub has_place : (e : ℕ) (es : List ℕ) → has e es ≡ true → (k : ℕ) × (k < length es) × (get_or es k e ≡ e)
has_place e [] h = absurd (true≢false (sym h))
has_place e (d ∷ ds) h = go (e == d) refl h (has_place e ds)
  where
    go : (b : Bool) → (e == d) ≡ b → (if b then true else has e ds) ≡ true → (has e ds ≡ true → (k : ℕ) × (k < length ds) × (get_or ds k e ≡ e)) → (k : ℕ) × (k < length (d ∷ ds)) × (get_or (d ∷ ds) k e ≡ e)
    go true is h f = let q : d ≡ e = grind (arith, nat_tests, is) in (0, omega arith, q)
    go false is h f = let r = f h in (suc r.0, omega (arith, r.1), r.2)
