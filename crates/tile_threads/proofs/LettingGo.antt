-- The edges of a worn tile, given back one by one.
use Rattle.std.proofs.Common.{◌≡◌, ℕ, ◌+◌, ◌*◌, ◌<◌, ◌≤◌, eqb, Bool, true, false, List, [], ◌∷◌, length, get_or, take, refl, sym, ap, ◌∙◌, subst, arith}
use Rattle.std.specs.Prelude.{if◌then◌else◌, ◌==◌, nat_lt}
use Rattle.std.proofs.lemmas.List.{take_all, append-nil}
use Rattle.std.proofs.lemmas.Bool.Decides.{nat_tests}
use Rattle.std.proofs.lemmas.Bool.{eqb-false}
use Rattle.list_laws.proofs.Tests.{both}
use Rattle.bit_field.specs.Atom.{AtomValue}
use Rattle.window_sites.specs.Window.{WindowValue}
use Rattle.tile_map.specs.Plane.{Site, MapValue, in_plane, is_live, is_on, owner_of}
use Rattle.tile_map.specs.Edges.{needs_of, has_end}
use Rattle.draw_stream.specs.declared.attempt.Attempt.{Attempt}
use Rattle.edge_lock.specs.declared.history.Hold.{Hold}
use Rattle.edge_lock.specs.EndLists.{EndLists, hold_of, is_last_open, writes_nothing, IsHeld, IsFree, HasNoWrite, after_give, replace_at}
use Rattle.edge_lock.proofs.BoardLaws.{here_after, else_after, free_given}
use Rattle.border_cache.specs.Windows.{has, end_at}
use Rattle.border_cache.specs.Copies.{IsCentre}
use Rattle.border_cache.proofs.Needs.{Rises, rises, has_more, has_at, not_yet}
use Rattle.tile_core.specs.declared.phase.Phase.TheVariants.{Finished, Worn}
use Rattle.tile_core.specs.Values.{TileValue, centre}
use Rattle.tile_core.specs.Turns.{common, AgreeOnEdges, lists_of, with_more, one_if}
use Rattle.tile_core.specs.Underway.{tile_at, IsUnderway, InPhase}
use Rattle.tile_core.proofs.Lists.{free_of, held_more, quiet_more, eqb_of}
use Rattle.tile_threads.specs.Passes.{let_go}

-- the end has these edges, on which its holds have written nothing, and no other
pub record HasHolds (m : MapValue) (t : ℕ) (needs : List ℕ) (a : ℕ → EndLists) : Type 0 where
  pub rise : Rises needs
  pub ends : (e : ℕ) → has e needs ≡ true → has_end m t e ≡ true
  pub held : (e : ℕ) → has e needs ≡ true → IsHeld (a e)
  pub quiet : (e : ℕ) → has e needs ≡ true → HasNoWrite (a e)
  pub free : (e : ℕ) → has_end m t e ≡ true → has e needs ≡ false → IsFree (a e)

-- the lists once the first n of the edges were given back
abbrev pub after_some : (ℕ → EndLists) → List ℕ → ℕ → ℕ → EndLists
after_some a needs n e = if has e (take n needs) then after_give (a e) else a e

module _ (m : MapValue) (t : ℕ) (needs : List ℕ) (a b : ℕ → EndLists) (h : HasHolds m t needs a) (n e : ℕ) (lt : n < length needs) (at : e ≡ get_or needs n 0) (so_far : AgreeOnEdges m t b (after_some a needs n)) where
  pub there : has e needs ≡ true
  there = ap (λ d. has d needs) at ∙ has_at n needs lt

  still : b e ≡ a e
  still = so_far e (h.ends e there) ∙ ap (λ x. if x then after_give (a e) else a e) (ap (λ d. has d (take n needs)) at ∙ not_yet n needs lt h.rise)

  pub next_held : IsHeld (b e)
  next_held = subst IsHeld (sym still) (h.held e there)

  pub next_quiet : HasNoWrite (b e)
  next_quiet = subst HasNoWrite (sym still) (h.quiet e there)

  pub gave_one : (c : ℕ → EndLists) → c ≡ replace_at b e (after_give (b e)) → AgreeOnEdges m t c (after_some a needs (n + 1))
  gave_one c is d own = go (eqb d e) refl
    where
      aim : Bool → EndLists
      aim x = if x then after_give (a d) else a d

      more : has d (take (n + 1) needs) ≡ (if eqb d e then true else has d (take n needs))
      more = has_more d n needs lt ∙ ap (λ x. if d == x then true else has d (take n needs)) (sym at)

      go : (x : Bool) → eqb d e ≡ x → c d ≡ aim (has d (take (n + 1) needs))
      go true q =
          let same : e ≡ d = eqb_of d e q in
          let here : c e ≡ after_give (a e) = here_after b c e (after_give (b e)) is ∙ ap after_give still in
          subst (λ k. c k ≡ after_give (a k)) same here ∙ ap aim (sym (more ∙ ap (λ x. if x then true else has d (take n needs)) q))
      go false q = else_after b c e d (after_give (b e)) is (eqb-false d e q) ∙ (so_far d own ∙ ap aim (sym (more ∙ ap (λ x. if x then true else has d (take n needs)) q)))

-- nothing is given back yet
pub gave_none : (m : MapValue) (t : ℕ) (needs : List ℕ) (a : ℕ → EndLists) → AgreeOnEdges m t a (after_some a needs 0)
gave_none m t needs a e own = refl

-- all were given back
pub gave_all : (m : MapValue) (t : ℕ) (needs : List ℕ) (a b : ℕ → EndLists) → HasHolds m t needs a → (n : ℕ) → length needs ≤ n → AgreeOnEdges m t b (after_some a needs n) → AgreeOnEdges m t b (λ e. let_go (a e))
gave_all m t needs a b h n le so_far e own = so_far e own ∙ (ap (λ es. if has e es then after_give (a e) else a e) (take_all n needs le) ∙ go (has e needs) refl)
  where
    go : (x : Bool) → has e needs ≡ x → (if x then after_give (a e) else a e) ≡ let_go (a e)
    go true q = sym (ap (λ y. if y then after_give (a e) else a e) (h.held e q))
    go false q = sym (ap (λ y. if y then after_give (a e) else a e) (h.free e own q))

-- an end that has given back what it had has nothing
pub let_go_free : (l : EndLists) → IsFree (let_go l)
let_go_free l = go (is_last_open l.holds) refl
  where
    go : (x : Bool) → is_last_open l.holds ≡ x → IsFree (if x then after_give l else l)
    go true q = free_given l
    go false q = q

-- and where it had nothing its lists stay
pub let_go_none : (l : EndLists) → IsFree l → let_go l ≡ l
let_go_none l f = ap (λ y. if y then after_give l else l) f

module _ (m : MapValue) (meaning : WindowValue → ℕ → WindowValue) (start : Site → AtomValue) (attempts : List Attempt) (tile : TileValue) (a : ℕ → EndLists) (u : IsUnderway (common m meaning start) attempts tile a) where
  -- a finished tile has no edge
  pub finished_free : tile.phase ≡ Finished → (e : ℕ) → has_end m tile.number e ≡ true → IsFree (a e)
  finished_free is e own =
      let h = subst (InPhase (common m meaning start) attempts u.turns (tile_at tile a)) is u.hand in
      subst IsFree (sym (h.2 e own)) (free_of m meaning start tile.number u.turns e u.each u.unworn)

  -- a worn tile has the edges of its last attempt
  pub worn_holds : tile.phase ≡ Worn → HasHolds m tile.number tile.needs a
  worn_holds is = record {
    rise = rises tile.needs u.needs.rising;
    ends = u.needs.ends;
    held = λ e q. subst IsHeld (sym (here e q)) (held_more (hold e) [] (past e) refl);
    quiet = λ e q. subst HasNoWrite (sym (here e q)) (quiet_more (hold e) [] (past e) (ap writes_nothing (h.1.2.is e q)));
    free = λ e own q. subst IsFree (sym (h.1.1 e own ∙ ap (λ x. with_more (one_if x (hold e)) [] (past e)) q)) (ap is_last_open (append-nil (past e).holds) ∙ free_of m meaning start tile.number u.turns e u.each u.unworn);
  }
    where
      h : InPhase (common m meaning start) attempts u.turns (tile_at tile a) Worn
      h = subst (InPhase (common m meaning start) attempts u.turns (tile_at tile a)) is u.hand

      past : ℕ → EndLists
      past e = lists_of m tile.number u.turns e

      hold : ℕ → Hold
      hold e = hold_of (end_at m tile.number e) (length u.turns) (h.1.0 e) true

      here : (e : ℕ) → has e tile.needs ≡ true → a e ≡ with_more (hold e ∷ []) [] (past e)
      here e q = h.1.1 e (u.needs.ends e q) ∙ ap (λ x. with_more (one_if x (hold e)) [] (past e)) q

  pub worn_needs : tile.phase ≡ Worn → tile.needs ≡ needs_of m tile.number (centre tile)
  worn_needs is = (subst (InPhase (common m meaning start) attempts u.turns (tile_at tile a)) is u.hand).0.needs

  pub worn_centre : tile.phase ≡ Worn → IsCentre m tile.number (centre tile)
  worn_centre is = (subst (InPhase (common m meaning start) attempts u.turns (tile_at tile a)) is u.hand).0.centre_is

-- a live site lies in the plane
pub live_inside : (m : MapValue) (s : Site) → is_live m s ≡ true → (s.x < m.tx * m.w) × (s.y < m.ty * m.h)
live_inside m s live =
    let b = both (in_plane m s) (is_on m (owner_of m s)) live in
    let p = both (nat_lt s.x (m.tx * m.w)) (nat_lt s.y (m.ty * m.h)) b.0 in
    let px = p.0 in
    let py = p.1 in
    (grind (arith, nat_tests, px), grind (arith, nat_tests, py))
