-- What an event did in its hold of a needed edge: what it found, and what it left in each register.
use Rattle.std.proofs.Common.{ℕ, ◌≡◌, ◌≢◌, ◌≤◌, ◌<◌, ◌+◌, ◌-◌, ◌*◌, ◌/◌, ◌%◌, ◌^◌, List, refl, sym, ap, subst, arith, ◌⊎◌, inl, inr, ⊎_elim, Bool, true, false, Option, Some, None, ◌∙◌, ◌==◌}
use Rattle.std.specs.Prelude.{slice_get}
use Rattle.std.specs.Int.{bit_at}
use Rattle.std.proofs.lemmas.Nat.{pow_pos, div_below}
use Rattle.std.proofs.lemmas.Option.{slice_get_within}
use Rattle.std.proofs.lemmas.Bool.{both_ways}
use Rattle.list_laws.specs.Booleans.{digit}
use Rattle.list_laws.proofs.Options.{none_from}
use Rattle.bit_field.specs.Atom.{AtomValue, empty_atom}
use Rattle.window_sites.specs.Window.{WindowValue}
use Rattle.edge_lock.specs.Edges.{news_words}
use Rattle.tile_map.specs.Plane.{Site, MapValue, in_window}
use Rattle.tile_map.specs.Edges.{shared_of, needs_of, window_site}
use Rattle.tile_map.specs.Laws.{IsPlane}
use Rattle.edge_lock.specs.declared.history.Access.{Access}
use Rattle.edge_lock.specs.History.{found_value}
use Rattle.border_cache.specs.Cells.{cell_value, cell_of}
use Rattle.border_cache.specs.News.{border, Covers, word_of, has_bit, is_news}
use Rattle.border_cache.specs.Published.{IsWordMarked}
use Rattle.border_cache.specs.Windows.{border_at, place_in, edge_place_some, end_at, sites_on}
use Rattle.border_cache.proofs.Covered.{covered_in, in_covered}
use Rattle.list_laws.proofs.Members.{In}
use Rattle.tile_core.specs.Values.{event_site}
use Rattle.tile_core.specs.Turns.{common, Won, Turn, IsWon, IsEventHold, accesses_at, cell_left, atom_for}
use Rattle.serial_order.proofs.Ground.{in_has, end_small, placed, inside}
use Rattle.serial_order.proofs.Histories.{left_in, end_two}

-- whether the shared site k of the edge is a live site of the window at c
abbrev pub is_near : MapValue → Site → Option Site → Bool
is_near m c None = false
is_near m c (Some s) = in_window m c s

abbrev pub covers : MapValue → ℕ → Site → ℕ → Bool
covers m e c k = is_near m c (slice_get (shared_of m e) k)

pub near_site : (m : MapValue) (c : Site) (o : Option Site) → is_near m c o ≡ true → (s : Site) × (o ≡ Some s) × (in_window m c s ≡ true)
near_site m c None h = absurd cc
near_site m c (Some s) h = (s, refl, h)

-- what a function says of a site, where there is one
abbrev pub at_place : {A : Type 0} → A → (Site → A) → Option Site → A
at_place a f None = a
at_place a f (Some s) = f s

-- the bit of place k in a news word
abbrev pub bit_in : ℕ → ℕ → Bool
bit_in word k = bit_at word (k % 64) == 1

pub bit_clear : (k : ℕ) → bit_in 0 k ≡ false
bit_clear k = let p : 0 < 2 ^ (k % 64) = pow_pos (k % 64) in let z : 0 / 2 ^ (k % 64) < 1 = div_below 0 (2 ^ (k % 64)) 1 p (omega (arith, p)) in let w : 0 / 2 ^ (k % 64) ≡ 0 = omega (arith, z) in rw w refl

word_inside : (sites k : ℕ) → k < sites → k / 64 < news_words sites
word_inside sites k lt = omega (arith, lt)

-- the news words of two ends are apart
same_word : (sites b c k j : ℕ) → b < 2 → c < 2 → k < sites → j < sites → word_of sites b k ≡ word_of sites c j → (b ≡ c) × (k / 64 ≡ j / 64)
same_word sites b c k j small small' lt lt' e = go (end_two b small) (end_two c small')
  where
    x : k / 64 < news_words sites
    x = word_inside sites k lt

    y : j / 64 < news_words sites
    y = word_inside sites j lt'

    at : (d i : ℕ) (n : ℕ) → d ≡ n → word_of sites d i ≡ 1 + 2 * sites + n * news_words sites + i / 64
    at d i n q = ap (λ z. 1 + 2 * sites + z * news_words sites + i / 64) q

    go : (b ≡ 0) ⊎ (b ≡ 1) → (c ≡ 0) ⊎ (c ≡ 1) → (b ≡ c) × (k / 64 ≡ j / 64)
    go (inl p) (inl q) = (p ∙ sym q, omega (arith, at b k 0 p, at c j 0 q, e))
    go (inr p) (inr q) = (p ∙ sym q, omega (arith, at b k 1 p, at c j 1 q, e))
    go (inl p) (inr q) = absurd (omega (arith, at b k 0 p, at c j 1 q, e, x))
    go (inr p) (inl q) = absurd (omega (arith, at b k 1 p, at c j 0 q, e, y))

place_again : (k : ℕ) → k ≡ 64 * (k / 64) + k % 64
place_again k = omega arith

below_64 : (k : ℕ) → k % 64 < 64
below_64 k = omega arith

module _ (m : MapValue) (plane : IsPlane m) (meaning : WindowValue → ℕ → WindowValue) (start : Site → AtomValue) (t : ℕ) (past : List Turn) (w : Won) (won : IsWon (common m meaning start) t past w) (e : ℕ) (i : In e (needs_of m t (event_site w.note))) where
  abbrev centre : Site
  centre = event_site w.note

  abbrev sites : ℕ
  sites = sites_on m e

  abbrev end : ℕ
  end = end_at m t e

  abbrev places : ℕ → Option ℕ
  places = place_in m (event_site w.note) e

  abbrev done : List Access
  done = accesses_at w e

  pub event_hold : IsEventHold (border_at m t (event_site w.note) e) (cell_left m w) w.note.stamp (accesses_at w e)
  event_hold = won.holds e (in_has e (needs_of m t (event_site w.note)) i)

  pub covered : (k : ℕ) → covers m e (event_site w.note) k ≡ true → Covers (place_in m (event_site w.note) e) 41 k
  covered k h = in_covered m plane (event_site w.note) e k (inside m plane t (event_site w.note) e i) (near_site m (event_site w.note) (slice_get (shared_of m e) k) h)

  uncovered : (k : ℕ) → Covers (place_in m (event_site w.note) e) 41 k → covers m e (event_site w.note) k ≡ true
  uncovered k c = let r = covered_in m plane (event_site w.note) e k c in ap (is_near m (event_site w.note)) r.1 ∙ r.2

  small : (k : ℕ) → Covers (place_in m (event_site w.note) e) 41 k → k < sites_on m e
  small k c = let r = covered_in m plane (event_site w.note) e k c in slice_get_within (shared_of m e) k r.0 r.1

  -- the cells that it left
  left_cell : (n k : ℕ) → place_in m (event_site w.note) e n ≡ Some k → cell_left m w n ≡ cell_value w.note.stamp (at_place empty_atom w.after (slice_get (shared_of m e) k))
  left_cell n k h = go (window_site m (event_site w.note) n) h
    where
      go : (o : Option Site) → edge_place_some m e o ≡ Some k → cell_value w.note.stamp (atom_for o w.after) ≡ cell_value w.note.stamp (at_place empty_atom w.after (slice_get (shared_of m e) k))
      go None q = absurd (cc (q))
      go (Some s) q = ap (λ o. cell_value w.note.stamp (at_place empty_atom w.after o)) (sym (placed m plane e k s q))

  pub writes : (k : ℕ) → covers m e (event_site w.note) k ≡ true
      → (low : ℕ) × (high : ℕ) × (left_in (accesses_at w e) (1 + 2 * k) ≡ Some low) × (left_in (accesses_at w e) (2 + 2 * k) ≡ Some high) × (cell_of low high ≡ cell_value w.note.stamp (at_place empty_atom w.after (slice_get (shared_of m e) k)))
  writes k h = let c = covered k h in let f = event_hold.leaves c.0 k c.1 c.2 in (f.0, f.1, f.2, f.3, f.4 ∙ left_cell c.0 k c.2)

  -- the cells that it left as they were
  unwritten : (k r v : ℕ) → k < sites_on m e → covers m e (event_site w.note) k ≡ false → (r ≡ 1 + 2 * k) ⊎ (r ≡ 2 + 2 * k) → left_in (accesses_at w e) r ≡ Some v → ⊥
  unwritten k r v lt h is l = go (event_hold.spares r v l)
    where
      low : r ≤ 2 + 2 * k
      low = ⊎_elim {C = r ≤ 2 + 2 * k} (λ a. omega (arith, a)) (λ a. omega (arith, a)) is

      same : (j : ℕ) → (r ≡ 1 + 2 * j) ⊎ (r ≡ 2 + 2 * j) → j ≡ k
      same j (inl a) = ⊎_elim {C = j ≡ k} (λ b. omega (arith, a, b)) (λ b. omega (arith, a, b)) is
      same j (inr a) = ⊎_elim {C = j ≡ k} (λ b. omega (arith, a, b)) (λ b. omega (arith, a, b)) is

      at : (j : ℕ) → Covers places 41 j → (r ≡ 1 + 2 * j) ⊎ (r ≡ 2 + 2 * j) → ⊥
      at j c a = both_ways (covers m e centre k) h (subst (λ q. covers m e centre q ≡ true) (same j a) (uncovered j c))

      go : (r ≡ 0) ⊎ ((j : ℕ) × Covers places 41 j × ((r ≡ 1 + 2 * j) ⊎ ((r ≡ 2 + 2 * j) ⊎ ((r ≡ word_of sites end j) ⊎ (r ≡ word_of sites (1 - end) j))))) → ⊥
      go (inl z) = ⊎_elim {C = ⊥} (λ a. omega (arith, a, z)) (λ a. omega (arith, a, z)) is
      go (inr p) = ⊎_elim {C = ⊥} (λ a. at p.0 p.1 (inl a)) (λ q. ⊎_elim {C = ⊥} (λ a. at p.0 p.1 (inr a)) (λ s. ⊎_elim {C = ⊥} (λ a. omega (arith, a, low, lt)) (λ a. omega (arith, a, low, lt)) s) q) p.2

  pub spares : (k : ℕ) → k < sites_on m e → covers m e (event_site w.note) k ≡ false → (left_in (accesses_at w e) (1 + 2 * k) ≡ None) × (left_in (accesses_at w e) (2 + 2 * k) ≡ None)
  spares k lt h = (none_from (left_in done (1 + 2 * k)) (λ v l. unwritten k (1 + 2 * k) v lt h (inl refl) l), none_from (left_in done (2 + 2 * k)) (λ v l. unwritten k (2 + 2 * k) v lt h (inr refl) l))

  -- the news words that it left
  bit_marked : (b : ℕ) (bit : Bool) (k : ℕ) → Covers (place_in m (event_site w.note) e) 41 k → IsWordMarked (border (sites_on m e) b (place_in m (event_site w.note) e) 41) bit (accesses_at w e) (k / 64)
      → (x : ℕ) × (left_in (accesses_at w e) (word_of (sites_on m e) b k) ≡ Some x) × (bit_in x k ≡ (digit bit == 1))
  bit_marked b bit k c r = (r.last, r.written, ap (λ z. z == 1) (r.marked (k % 64) (below_64 k) (subst (Covers places 41) (place_again k) c)))

  pub mine : (k : ℕ) → covers m e (event_site w.note) k ≡ true → (x : ℕ) × (left_in (accesses_at w e) (word_of (sites_on m e) (end_at m t e) k) ≡ Some x) × (bit_in x k ≡ false)
  mine k h = let c = covered k h in bit_marked end false k c (event_hold.mine k c)

  pub theirs : (b k : ℕ) → b < 2 → b ≢ end_at m t e → covers m e (event_site w.note) k ≡ true → (x : ℕ) × (left_in (accesses_at w e) (word_of (sites_on m e) b k) ≡ Some x) × (bit_in x k ≡ true)
  theirs b k lt ne h = let c = covered k h in subst (λ d. (x : ℕ) × (left_in done (word_of sites d k) ≡ Some x) × (bit_in x k ≡ true)) (other (end_two b lt) (end_two end (end_small m e t))) (bit_marked (1 - end) true k c (event_hold.theirs k c))
    where
      other : (b ≡ 0) ⊎ (b ≡ 1) → (end ≡ 0) ⊎ (end ≡ 1) → 1 - end ≡ b
      other (inl p) (inl q) = absurd (ne (p ∙ sym q))
      other (inl p) (inr q) = omega (arith, p, q)
      other (inr p) (inl q) = omega (arith, p, q)
      other (inr p) (inr q) = absurd (ne (p ∙ sym q))

  abbrev pub IsSpared : ℕ → ℕ → Type 0
  IsSpared b k = (left_in (accesses_at w e) (word_of (sites_on m e) b k) ≡ None) ⊎ ((x : ℕ) × (y : ℕ) × (found_value (accesses_at w e) (word_of (sites_on m e) b k) ≡ Some y) × (left_in (accesses_at w e) (word_of (sites_on m e) b k) ≡ Some x) × (bit_in x k ≡ bit_in y k))

  -- a bit of a word that was marked, of a place that the window does not cover
  bit_kept : (b c k j : ℕ) (bit : Bool) → b < 2 → c < 2 → k < sites_on m e → covers m e (event_site w.note) k ≡ false → Covers (place_in m (event_site w.note) e) 41 j
      → IsWordMarked (border (sites_on m e) c (place_in m (event_site w.note) e) 41) bit (accesses_at w e) (j / 64) → word_of (sites_on m e) b k ≡ word_of (sites_on m e) c j → IsSpared b k
  bit_kept b c k j bit lb lc lt h cov r is =
      let s = same_word sites b c k j lb lc lt (small j cov) is in
      let again : 64 * (j / 64) + k % 64 ≡ k = omega (arith, s.1, place_again k) in
      inr (
        r.last,
        r.first,
        ap (found_value done) is ∙ r.found,
        ap (left_in done) is ∙ r.written,
        ap (λ z. z == 1) (r.kept (k % 64) (below_64 k) (λ q. both_ways (covers m e centre k) h (uncovered k (subst (Covers places 41) again q)))),
      )

  pub spared : (b k : ℕ) → b < 2 → k < sites_on m e → covers m e (event_site w.note) k ≡ false → IsSpared b k
  spared b k lb lt h = pick (left_in done (word_of sites b k)) refl
    where
      high : 1 + 2 * sites ≤ word_of sites b k
      high = omega arith

      go : (x : ℕ) → (word_of sites b k ≡ 0) ⊎ ((j : ℕ) × Covers places 41 j × ((word_of sites b k ≡ 1 + 2 * j) ⊎ ((word_of sites b k ≡ 2 + 2 * j) ⊎ ((word_of sites b k ≡ word_of sites end j) ⊎ (word_of sites b k ≡ word_of sites (1 - end) j))))) → IsSpared b k
      go x (inl z) = absurd (omega (arith, z, high))
      go x (inr p) =
          let lj : p.0 < sites = small p.0 p.1 in
          ⊎_elim {C = IsSpared b k} (λ a. absurd (omega (arith, a, high, lj)))
          (λ q. ⊎_elim {C = IsSpared b k} (λ a. absurd (omega (arith, a, high, lj)))
          (λ s. ⊎_elim {C = IsSpared b k} (λ a. bit_kept b end k p.0 false lb (end_small m e t) lt h p.1 (event_hold.mine p.0 p.1) a) (λ a. bit_kept b (1 - end) k p.0 true lb (omega arith) lt h p.1 (event_hold.theirs p.0 p.1) a) s) q) p.2

      pick : (o : Option ℕ) → left_in done (word_of sites b k) ≡ o → IsSpared b k
      pick None is = inl is
      pick (Some x) is = go x (event_hold.spares (word_of sites b k) x is)

  -- the news bit that it went by
  pub bits : (k : ℕ) → covers m e (event_site w.note) k ≡ true → (y : ℕ) × (found_value (accesses_at w e) (word_of (sites_on m e) (end_at m t e) k) ≡ Some y) × (bit_in y k ≡ is_news (sites_on m e) (end_at m t e) (accesses_at w e) k)
  bits k h = let r = event_hold.mine k (covered k h) in (r.first, r.found, sym (ap (λ o. has_bit o k) r.found))
