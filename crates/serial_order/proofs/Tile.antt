-- One tile: its stamps rise, and its own cells are its last writes.
use Rattle.std.proofs.Common.{ℕ, ◌≡◌, ◌≤◌, ◌<◌, List, [], ◌∷◌, refl, sym, ap, subst, arith, ◌⊎◌, inl, inr, ⊎_elim, Bool, true, false, ◌∙◌}
use Rattle.std.specs.Prelude.{if◌then◌else◌, max}
use Rattle.tile_core.proofs.Played.{greatest_above}
use Rattle.bit_field.specs.Atom.{AtomValue}
use Rattle.window_sites.specs.Window.{WindowValue}
use Rattle.tile_map.specs.Plane.{Site, MapValue, in_window}
use Rattle.tile_map.specs.Edges.{needs_of}
use Rattle.border_cache.specs.Cells.{CellValue, cell_value}
use Rattle.list_laws.proofs.Members.{In}
use Rattle.tile_core.specs.Values.{event_site}
use Rattle.tile_core.specs.Turns.{common, Won, Lost, Worn, Turn, Wins, Loses, Wears, cells_of, stamp_of, greatest, clock_in, accesses_at, IsWon, IsTurn, AreTurns}
use Rattle.serial_order.proofs.Coherence.{Latest, untouched, touched}

-- each turn is as what came before it makes it
abbrev pub Played : MapValue → (WindowValue → ℕ → WindowValue) → (Site → AtomValue) → ℕ → List Turn → Type 0
Played m meaning start t [] = Unit {0}
Played m meaning start t (x ∷ xs) = IsTurn (common m meaning start) t xs x × Played m meaning start t xs

pub are_played : (m : MapValue) (meaning : WindowValue → ℕ → WindowValue) (start : Site → AtomValue) (t : ℕ) (xs : List Turn) → AreTurns (common m meaning start) t xs → Played m meaning start t xs
are_played m meaning start t [] a = tt
are_played m meaning start t (x ∷ xs) a = (a.0, are_played m meaning start t xs a.2)

pub max_cases : (a b : ℕ) → (max a b ≡ a) ⊎ (max a b ≡ b)
max_cases a b = grind arith

pub greatest_each : (n : ℕ) (f : ℕ → ℕ) (es : List ℕ) (e : ℕ) → In e es → f e ≤ greatest n f es
greatest_each n f [] e i = absurd i
greatest_each n f (d ∷ es) e i = ⊎_elim {C = f e ≤ greatest n f (d ∷ es)} (λ (same : e ≡ d). omega (arith, ap f same, greatest_above (max n (f d)) f es)) (λ j. greatest_each (max n (f d)) f es e j) i

pub greatest_is : (n : ℕ) (f : ℕ → ℕ) (es : List ℕ) → (greatest n f es ≡ n) ⊎ ((e : ℕ) × In e es × (greatest n f es ≡ f e))
greatest_is n f [] = inl refl
greatest_is n f (d ∷ es) =
    ⊎_elim (λ (a : greatest (max n (f d)) f es ≡ max n (f d)). ⊎_elim (λ (b : max n (f d) ≡ n). inl (a ∙ b)) (λ (b : max n (f d) ≡ f d). inr (d, inl refl, a ∙ b)) (max_cases n (f d)))
    (λ (p : (e : ℕ) × In e es × (greatest (max n (f d)) f es ≡ f e)). inr (p.0, inr p.1, p.2)) (greatest_is (max n (f d)) f es)

abbrev pub cell_by : Won → Site → CellValue
cell_by w s = cell_value w.note.stamp (w.after s)

wins_same : (w v : Won) → Wins w ≡ Wins v → w ≡ v
wins_same w v e = cc

not_lost : (w : Won) (l : Lost) → Wins w ≡ Loses l → ⊥
not_lost w l e = absurd cc

not_worn : (w : Won) (l : Worn) → Wins w ≡ Wears l → ⊥
not_worn w l e = absurd cc

abbrev pub Did : List Turn → Won → Type 0
Did xs w = In (Wins w) xs

-- the events that wrote a site
abbrev pub DidWrite : MapValue → List Turn → Site → Won → Type 0
DidWrite m xs s w = Did xs w × (in_window m (event_site w.note) s ≡ true)

module _ (m : MapValue) (meaning : WindowValue → ℕ → WindowValue) (start : Site → AtomValue) (t : ℕ) where
  of_won : {C : Type 0} (v w : Won) (xs : List Turn) → (w ≡ v → C) → (Did xs w → C) → Did (Wins v ∷ xs) w → C
  of_won v w xs a b i = ⊎_elim (λ e. a (wins_same w v e)) b i

  of_lost : (l : Lost) (w : Won) (xs : List Turn) → Did (Loses l ∷ xs) w → Did xs w
  of_lost l w xs i = ⊎_elim (λ e. absurd (not_lost w l e)) (λ j. j) i

  of_worn : (l : Worn) (w : Won) (xs : List Turn) → Did (Wears l ∷ xs) w → Did xs w
  of_worn l w xs i = ⊎_elim (λ e. absurd (not_worn w l e)) (λ j. j) i

  pub grows : (xs : List Turn) (w : Won) → IsWon (common m meaning start) t xs w → stamp_of xs < w.note.stamp
  grows xs w k = omega (arith, k.stamp, greatest_above (stamp_of xs) (λ e. clock_in (accesses_at w e)) (needs_of m t (event_site w.note)))

  pub stamps : (xs : List Turn) → Played m meaning start t xs → (w : Won) → Did xs w → w.note.stamp ≤ stamp_of xs
  stamps [] p w i = absurd i
  stamps (Wins v ∷ xs) p w i = of_won {C = w.note.stamp ≤ v.note.stamp} v w xs (λ e. omega (arith, ap (λ (u : Won). u.note.stamp) e)) (λ j. omega (arith, stamps xs p.1 w j, grows xs v p.0)) i
  stamps (Loses l ∷ xs) p w i = stamps xs p.1 w (of_lost l w xs i)
  stamps (Wears l ∷ xs) p w i = stamps xs p.1 w (of_worn l w xs i)

  -- the last stamp is that of an event, or 0
  pub stamp_by : (xs : List Turn) → (stamp_of xs ≡ 0) ⊎ ((w : Won) × Did xs w × (stamp_of xs ≡ w.note.stamp))
  stamp_by [] = inl refl
  stamp_by (Wins v ∷ xs) = inr (v, inl refl, refl)
  stamp_by (Loses l ∷ xs) = ⊎_elim (λ z. inl z) (λ (p : (w : Won) × Did xs w × (stamp_of xs ≡ w.note.stamp)). inr (p.0, inr p.1, p.2)) (stamp_by xs)
  stamp_by (Wears l ∷ xs) = ⊎_elim (λ z. inl z) (λ (p : (w : Won) × Did xs w × (stamp_of xs ≡ w.note.stamp)). inr (p.0, inr p.1, p.2)) (stamp_by xs)

  -- what was before an event of the tile
  pub record Past (xs : List Turn) (w : Won) : Type 0 where
    pub before : List Turn
    pub won : IsWon (common m meaning start) t before w
    pub played : Played m meaning start t before
    pub part : (v : Won) → Did before v → Did xs v
    pub rest : (v : Won) → Did xs v → (v ≡ w) ⊎ (Did before v ⊎ (w.note.stamp < v.note.stamp))

  past_more : (x : Turn) (xs : List Turn) (w : Won) → ((v : Won) → Did (x ∷ xs) v → Did xs v ⊎ (w.note.stamp < v.note.stamp)) → Past xs w → Past (x ∷ xs) w
  past_more x xs w new k = record {
    before = k.before;
    won = k.won;
    played = k.played;
    part = λ v i. inr (k.part v i);
    rest = λ v i. ⊎_elim (λ j. k.rest v j) (λ (h : w.note.stamp < v.note.stamp). inr (inr h)) (new v i);
  }

  past_here : (w v : Won) (xs : List Turn) → w ≡ v → IsWon (common m meaning start) t xs v → Played m meaning start t xs → Past (Wins v ∷ xs) w
  past_here w v xs e k p = record {
    before = xs;
    won = subst (IsWon (common m meaning start) t xs) (sym e) k;
    played = p;
    part = λ u i. inr i;
    rest = λ u i. of_won v u xs (λ is. inl (is ∙ sym e)) (λ j. inr (inl j)) i;
  }

  pub past : (xs : List Turn) → Played m meaning start t xs → (w : Won) → Did xs w → Past xs w
  past [] p w i = absurd i
  past (Wins v ∷ xs) p w i =
      of_won v w xs (λ e. past_here w v xs e p.0 p.1)
      (λ j. past_more (Wins v) xs w (λ u h. of_won v u xs (λ e. inr (omega (arith, ap (λ (q : Won). q.note.stamp) e, stamps xs p.1 w j, grows xs v p.0))) (λ g. inl g) h) (past xs p.1 w j)) i
  past (Loses l ∷ xs) p w i = past_more (Loses l) xs w (λ u h. inl (of_lost l u xs h)) (past xs p.1 w (of_lost l w xs i))
  past (Wears l ∷ xs) p w i = past_more (Wears l) xs w (λ u h. inl (of_worn l u xs h)) (past xs p.1 w (of_worn l w xs i))

  abbrev pub IsLast : List Turn → Site → CellValue → Type 0
  IsLast xs s c = Latest (DidWrite m xs s) (λ w. cell_by w s) (cell_value 0 (start s)) c

  last_more : (x : Turn) (xs : List Turn) (s : Site) (c : CellValue) → ((v : Won) → DidWrite m (x ∷ xs) s v → DidWrite m xs s v) → IsLast xs s c → IsLast (x ∷ xs) s c
  last_more x xs s c new (untouched is none) = untouched is (λ v p. none v (new v p))
  last_more x xs s c new (touched w i is low) = touched w (inr i.0, i.1) is (λ v p. low v (new v p))

  last_won : (v : Won) (xs : List Turn) (s : Site) (b : Bool) → in_window m (event_site v.note) s ≡ b → Played m meaning start t xs → IsWon (common m meaning start) t xs v → IsLast xs s (cells_of m start xs s)
      → IsLast (Wins v ∷ xs) s (if b then cell_value v.note.stamp (v.after s) else cells_of m start xs s)
  last_won v xs s true is p k l = touched v (inl refl, is) refl (λ u q. of_won {C = u.note.stamp ≤ v.note.stamp} v u xs (λ e. omega (arith, ap (λ (w : Won). w.note.stamp) e)) (λ j. omega (arith, stamps xs p u j, grows xs v k)) q.0)
  last_won v xs s false is p k l = last_more (Wins v) xs s (cells_of m start xs s) (λ u q. (of_won v u xs (λ e. absurd (cc (ap (λ (w : Won). in_window m (event_site w.note) s) e, q.1, is))) (λ j. j) q.0, q.1)) l

  pub last_is : (xs : List Turn) → Played m meaning start t xs → (s : Site) → IsLast xs s (cells_of m start xs s)
  last_is [] p s = untouched refl (λ w q. absurd q.0)
  last_is (Wins v ∷ xs) p s = last_won v xs s (in_window m (event_site v.note) s) refl p.1 p.0 (last_is xs p.1 s)
  last_is (Loses l ∷ xs) p s = last_more (Loses l) xs s (cells_of m start xs s) (λ u q. (of_lost l u xs q.0, q.1)) (last_is xs p.1 s)
  last_is (Wears l ∷ xs) p s = last_more (Wears l) xs s (cells_of m start xs s) (λ u q. (of_worn l u xs q.0, q.1)) (last_is xs p.1 s)
