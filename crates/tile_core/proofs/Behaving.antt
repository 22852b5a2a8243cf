-- The step Behave keeps a tile underway.
use Rattle.std.proofs.Common.{◌≡◌, ◌≢◌, ℕ, zero, suc, ◌<◌, ◌≤◌, Bool, true, false, true≢false, List, refl, sym, ap, ◌∙◌, subst, arith, Option, Some, None, inl, inr, ⊎_elim}
use Rattle.std.specs.Prelude.{if◌then◌else◌, ◌==◌, ◌&&◌}
use Rattle.std.proofs.lemmas.Bool.Decides.{nat_tests}
use mathlib.Core.Logic.{dite}
use native.Mathlib.Decide.{ℕ_discrete}
use Rattle.bit_field.specs.Atom.{AtomValue, empty_atom}
use Rattle.window_sites.specs.Window.{WindowValue, atom_at}
use Rattle.tile_map.specs.Plane.{Site, MapValue, in_window}
use Rattle.tile_map.specs.Edges.{window_site}
use Rattle.draw_stream.specs.declared.attempt.Attempt.{Attempt}
use Rattle.edge_lock.specs.EndLists.{EndLists}
use Rattle.border_cache.specs.Cells.{CellValue}
use Rattle.border_cache.proofs.Apart.{sites_apart}
use Rattle.tile_core.specs.declared.phase.Phase.TheVariants.{Behave}
use Rattle.tile_core.specs.Values.{TileValue, centre}
use Rattle.tile_core.specs.Underway.{Onward, IsUnderway, InPhase, tile_at}
use Rattle.tile_core.specs.Steps.{Behaves}
use Rattle.tile_core.proofs.Copies.{window_cell, shown_site}
use Rattle.tile_core.specs.Turns.{common}

abbrev is_at : Option Site → Site → Bool
is_at None s = false
is_at (Some q) s = q.x == s.x && q.y == s.y

at_same : (o : Option Site) (s : Site) → is_at o s ≡ true → o ≡ Some s
at_same None s h = absurd (cc h)
at_same (Some q) s h =
    let x : q.x ≡ s.x = grind (arith, nat_tests, h) in
    let y : q.y ≡ s.y = grind (arith, nat_tests, h) in
    λ z. Some (record { x = x z; y = y z })

is_same : (s : Site) → is_at (Some s) s ≡ true
is_same s = grind (arith, nat_tests)

-- the atom that a window has for a site, among its first k
pick : MapValue → Site → WindowValue → ℕ → Site → AtomValue
pick m c w zero s = empty_atom
pick m c w (suc k) s = if is_at (window_site m c k) s then atom_at w k else pick m c w k s

picked : (m : MapValue) (c s : Site) (w : WindowValue) (k n : ℕ) → n < k → k ≤ 41 → window_site m c n ≡ Some s → pick m c w k s ≡ atom_at w n
unfolding pick
picked m c s w zero n lt few at = absurd (omega (arith, lt))
picked m c s w (suc k) n lt few at = go (is_at (window_site m c k) s) refl (λ less. picked m c s w k n less (omega (arith, few)) at)
  where
    go : (b : Bool) → is_at (window_site m c k) s ≡ b → (n < k → pick m c w k s ≡ atom_at w n) → (if b then atom_at w k else pick m c w k s) ≡ atom_at w n
    go true is f = ap (atom_at w) (sites_apart m c s k n (omega (arith, few)) (omega (arith, lt, few)) (at_same (window_site m c k) s is) at)
    go false is f = dite (ℕ_discrete n k)
        (λ (e : n ≡ k). absurd (cc (is, ap (λ o. is_at o s) (ap (window_site m c) (sym e) ∙ at), is_same s)))
        (λ (ne : n ≢ k). f (omega (arith, ne, lt)))

module _ (m : MapValue) (meaning : WindowValue → ℕ → WindowValue) (start : Site → AtomValue) (attempts : List Attempt) (tile : TileValue) (a : ℕ → EndLists) (u : IsUnderway (common m meaning start) attempts tile a) (is : tile.phase ≡ Behave) where
  pub behaving : InPhase (common m meaning start) attempts u.turns (tile_at tile a) Behave
  behaving = subst (InPhase (common m meaning start) attempts u.turns (tile_at tile a)) is u.hand

  pub behaves_on : (new : TileValue) → Behaves m meaning tile new → Onward (common m meaning start) attempts u.turns (tile_at new a)
  behaves_on new r = subst (λ w. Onward (common m meaning start) attempts u.turns (tile_at w a)) (sym r.is) (
    record {
      turns = u.turns;
      each = u.each;
      made = u.made;
      records = u.records;
      abandoned = u.abandoned;
      stamp = u.stamp;
      unworn = u.unworn;
      needs = u.needs;
      map = u.map;
      owner = u.owner;
      can = u.can;
      left = u.left;
      cells = λ s h q. ⊎_elim (λ (f : true ≡ false). absurd (true≢false f)) (λ (f : in_window m (centre tile) s ≡ false). u.cells s h (inr f)) q;
      hand = let k = behaving.0 in let p = behaving.1 in let w = meaning r.view tile.seed in let c = centre tile in (
        record { taken = k.taken; made = k.made; centre_is = k.centre_is; needs = k.needs },
        (
          p.0,
          p.1,
          record { clock = p.2.clock; reads = p.2.reads; is = p.2.is; refresh = p.2.refresh; honest = p.2.honest },
          record {
            after = pick m c w 41;
            view = r.view;
            stamp = p.3.stamp;
            small = p.3.small;
            shows = record {
              valid = r.shows.valid;
              live = r.shows.live;
              atoms = λ n lt on. let s = shown_site m c n on in
                  r.shows.atoms n lt on ∙ ap (λ (x : CellValue). x.atom) (window_cell m c s.0 n tile.cache u.map s.1 ∙ p.3.cells n s.0 lt s.1);
            };
            acts = λ n s lt at. picked m c s w 41 n lt (omega arith) at;
            left = λ n s lt at. picked m c s w 41 n lt (omega arith) at;
          },
        ),
      );
    },
    inl refl,
  )
