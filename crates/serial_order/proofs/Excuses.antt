-- Each abandoned attempt is excused.
use Rattle.std.proofs.Common.{ℕ, ◌≡◌, ◌≢◌, ◌≤◌, ◌<◌, List, [], ◌∷◌, ◌++◌, refl, sym, ap, subst, arith, ◌⊎◌, inl, inr, ⊎_elim, Some, ◌∙◌}
use Rattle.std.proofs.lemmas.Bool.Decides.{nat_tests}
use Rattle.bit_field.specs.Atom.{AtomValue}
use Rattle.window_sites.specs.Window.{WindowValue}
use Rattle.tile_map.specs.Plane.{Site, MapValue}
use Rattle.tile_map.specs.Edges.{low_end, high_end, needs_of}
use Rattle.tile_map.specs.Laws.{Joins}
use Rattle.edge_lock.specs.declared.history.Hold.{Hold}
use Rattle.event_journal.specs.declared.abandoned.Abandoned.{Abandoned}
use Rattle.list_laws.proofs.Members.{In, in_right, in_either}
use Rattle.border_cache.specs.Windows.{end_at}
use Rattle.tile_core.specs.Values.{event_site, given_up_site}
use Rattle.tile_core.specs.Turns.{common, Won, Lost, Worn, Turn, Wins, Loses, Wears, IsTurn, IsLost, before}
use Rattle.serial_order.proofs.Ground.{apart, has_in}
use Rattle.serial_order.proofs.Histories.{IsHistory, IsPlaced}
use Rattle.serial_order.proofs.Edge.{Deeds, apart_parts, IsOfEvents}
use Rattle.serial_order.proofs.Edge.{apart as apart_holds}
use Rattle.serial_order.proofs.Tile.{Played}
use Rattle.serial_order.proofs.World.{IsRun, EventOn, deeds, hold_of, in_hist, of_events, holds_of, holds_in, hold_on, hold_is, in_own}
use Rattle.serial_order.proofs.Order.{is_event, of_tile}

-- the abandoned attempts: each names the tile at the edge's other end, and a refusal that belongs in the history
pub record AreRefused (m : MapValue) (turns : ℕ → List Turn) (hist : ℕ → List Hold) : Type 0 where
  pub holder : (t : ℕ) (l : Lost) → In (Loses l) (turns t) → Joins m l.gone.edge t l.gone.holder
  pub placed : (t : ℕ) (l : Lost) → In (Loses l) (turns t) → IsPlaced (hist l.gone.edge) (end_at m t l.gone.edge) l.gone.attempt l.gone.holder_attempt

-- what an abandoned attempt of tile t tells
pub record IsExcused (m : MapValue) (turns : ℕ → List Turn) (t : ℕ) (g : Abandoned) : Type 0 where
  pub needs : In g.edge (needs_of m t (given_up_site g))
  pub joins : Joins m g.edge t g.holder
  pub held : ((w : Won) × In (Wins w) (turns g.holder) × (w.note.attempt ≡ g.holder_attempt) × In g.edge (needs_of m g.holder (event_site w.note)))
      ⊎ ((l : Lost) × In (Loses l) (turns g.holder) × (l.gone.attempt ≡ g.holder_attempt) × In g.edge (before l.gone.edge (needs_of m g.holder (given_up_site l.gone))))
  pub after : (w v : Won) → In (Wins w) (turns t) → In (Wins v) (turns g.holder) → In g.edge (needs_of m t (event_site w.note)) → In g.edge (needs_of m g.holder (event_site v.note))
      → w.note.attempt < g.attempt → g.holder_attempt ≤ v.note.attempt → w.note.stamp < v.note.stamp
  pub before : (w v : Won) → In (Wins w) (turns t) → In (Wins v) (turns g.holder) → In g.edge (needs_of m t (event_site w.note)) → In g.edge (needs_of m g.holder (event_site v.note))
      → g.attempt < w.note.attempt → v.note.attempt ≤ g.holder_attempt → v.note.stamp < w.note.stamp

module _ (m : MapValue) (meaning : WindowValue → ℕ → WindowValue) (start : Site → AtomValue) (turns : ℕ → List Turn) (hist : ℕ → List Hold) (run : IsRun m meaning start turns hist)
    (refused : AreRefused m turns hist) (fresh : (t : ℕ) (x : Worn) → In (Wears x) (turns t) → ⊥) where
  event_on : (e t : ℕ) (w : Won) → In (Wins w) (turns t) → In e (needs_of m t (event_site w.note)) → (x : EventOn m turns e) × (x.won ≡ w)
  event_on e t w i n =
      let is = of_tile m meaning start turns hist run t w (turns t) (run.played t) i in
      (record { won = w; did = is_event m meaning start turns hist run t w i; needs = subst (λ u. In e (needs_of m u (event_site w.note))) (sym is) n }, refl)

  -- of two ends, the one that is not t's is u's
  end_other : (e t u : ℕ) (h : Hold) → low_end m e < high_end m e → Joins m e t u → (h.end ≡ 0) ⊎ (h.end ≡ 1) → h.end ≢ end_at m t e → h.end ≡ end_at m u e
  end_other e t u h lt (inl p) (inl z) ne = absurd (ne (grind (arith, nat_tests, p.0, z)))
  end_other e t u h lt (inl p) (inr z) ne = grind (arith, nat_tests, p.0, p.1, z, lt)
  end_other e t u h lt (inr p) (inl z) ne = grind (arith, nat_tests, p.0, p.1, z, lt)
  end_other e t u h lt (inr p) (inr z) ne = absurd (ne (grind (arith, nat_tests, p.0, p.1, z, lt)))

  in_holds_of : (e t u : ℕ) (h : Hold) → Joins m e t u → In h (hist e) → h.end ≡ end_at m u e → In h (holds_of m u e (turns u))
  in_holds_of e t u h (inl p) i is =
      let one : h.end ≡ 1 = grind (arith, nat_tests, p.0, p.1, is, apart m run.plane e) in
      subst (λ v. In h (holds_of m v e (turns v))) p.1 (subst (In h) (run.higher e) (in_own 1 h (hist e) i one))
  in_holds_of e t u h (inr p) i is =
      let none : h.end ≡ 0 = grind (arith, nat_tests, p.0, p.1, is) in
      subst (λ v. In h (holds_of m v e (turns v))) p.0 (subst (In h) (run.lower e) (in_own 0 h (hist e) i none))

  -- the turn of tile u that made a hold with attempt j
  made : (e u j : ℕ) (h : Hold) (y : Turn) (xs : List Turn) → Played m meaning start u xs → ((z : Turn) → In z xs → In z (turns u)) → In y xs → hold_on m u e y ≡ Some h → h.attempt ≡ j
      → ((w : Won) × In (Wins w) (turns u) × (w.note.attempt ≡ j) × In e (needs_of m u (event_site w.note))) ⊎ ((l : Lost) × In (Loses l) (turns u) × (l.gone.attempt ≡ j) × In e (before l.gone.edge (needs_of m u (given_up_site l.gone))))
  made e u j h y [] p part i is at = absurd i
  made e u j h y (x ∷ xs) p part i is at = ⊎_elim (λ s. one x p.0 (part x (inl refl)) (ap (hold_on m u e) (sym s) ∙ is)) (λ k. made e u j h y xs p.1 (λ z q. part z (inr q)) k is at) i
    where
      one : (x : Turn) → IsTurn (common m meaning start) u xs x → In x (turns u) → hold_on m u e x ≡ Some h
          → ((w : Won) × In (Wins w) (turns u) × (w.note.attempt ≡ j) × In e (needs_of m u (event_site w.note))) ⊎ ((l : Lost) × In (Loses l) (turns u) × (l.gone.attempt ≡ j) × In e (before l.gone.edge (needs_of m u (given_up_site l.gone))))
      one (Wins w) k r is' = let q = hold_is m u e (Wins w) h is' in inl (w, r, k.attempt ∙ (sym (k.given e q.1).attempt_is ∙ (ap (λ (g : Hold). g.attempt) q.0 ∙ at)), has_in e (needs_of m u (event_site w.note)) q.1)
      one (Loses l) k r is' = let q = hold_is m u e (Loses l) h is' in inr (l, r, k.attempt ∙ (sym (k.given e q.1).0.attempt_is ∙ (ap (λ (g : Hold). g.attempt) q.0 ∙ at)), has_in e (before l.gone.edge (needs_of m u (given_up_site l.gone))) q.1)
      one (Wears x') k r is' = absurd (fresh u x' r)

  lost_of : (t : ℕ) (l : Lost) (xs : List Turn) → Played m meaning start t xs → In (Loses l) xs → (before : List Turn) × IsLost m t before l
  lost_of t l [] p i = absurd i
  lost_of t l (Wins w ∷ xs) p i = lost_of t l xs p.1 (⊎_elim {C = In (Loses l) xs} (λ e. absurd cc) (λ j. j) i)
  lost_of t l (Wears w ∷ xs) p i = lost_of t l xs p.1 (⊎_elim {C = In (Loses l) xs} (λ e. absurd cc) (λ j. j) i)
  lost_of t l (Loses k ∷ xs) p i = ⊎_elim (λ (e : Loses l ≡ Loses k). let same : l ≡ k = cc in (xs, subst (IsLost m t xs) (sym same) p.0)) (λ j. lost_of t l xs p.1 j) i

  -- in one history the attempts of one end rise
  rising_split : (newer : List Hold) (h : Hold) (older : List Hold) (g : Hold) → IsHistory (newer ++ (h ∷ older)) → In g older → g.end ≡ h.end → g.attempt < h.attempt
  rising_split [] h older g good i e = good.0.rising g i e
  rising_split (n ∷ newer) h older g good i e = rising_split newer h older g good.1 i e

  rising_newer : (newer : List Hold) (h : Hold) (older : List Hold) (g : Hold) → IsHistory (newer ++ (h ∷ older)) → In g newer → h.end ≡ g.end → h.attempt < g.attempt
  rising_newer [] h older g good i e = absurd i
  rising_newer (n ∷ newer) h older g good i e =
      ⊎_elim {C = h.attempt < g.attempt} (λ is. omega (arith, ap (λ (x : Hold). x.attempt) is, good.0.rising h (in_right newer (h ∷ older) h (inl refl)) (e ∙ ap (λ (x : Hold). x.end) is)))
      (λ j. rising_newer newer h older g good.1 j e) i

  pub excused : (t : ℕ) (l : Lost) → In (Loses l) (turns t) → IsExcused m turns t l.gone
  unfolding event_on
  excused t l i = record {
    needs = has_in l.gone.edge (needs_of m t (given_up_site l.gone)) (lost_of t l (turns t) (run.played t) i).1.needed;
    joins = j;
    held =
        let r = holds_in m u e p.hold (turns u) (in_holds_of e t u p.hold j (subst (In p.hold) (sym p.whole) (in_right p.newer (p.hold ∷ p.older) p.hold (inl refl))) far) in
        made e u l.gone.holder_attempt p.hold r.0 (turns u) (run.played u) (λ z q. q) r.1 r.2 p.names;
    after = λ w v a b n k lt le.
        let x = event_on e t w a n in
        let y = event_on e u v b k in
        ⊎_elim {C = w.note.stamp < v.note.stamp} (λ newer. absurd (omega (arith, p.before (w.hold e) newer (end_is t w a n), at t w a n, lt)))
        (λ r. ⊎_elim {C = w.note.stamp < v.note.stamp} (λ is. absurd (p.other (sym (ap (λ (g : Hold). g.end) is) ∙ end_is t w a n)))
        (λ old. apart_holds d p.newer p.hold p.older x.0 y.0 (w.hold e) (v.hold e) good of old (hold_of m meaning start turns hist run e x.0)
        (⊎_elim (λ newer. inr newer) (λ q. ⊎_elim (λ is. inl is) (λ older. absurd (omega (arith, rising_split p.newer p.hold p.older (v.hold e) good older (end_is u v b k ∙ sym far), at u v b k, p.names, le))) q) (where_is u v b k))
        (hold_of m meaning start turns hist run e y.0)) r)
        (where_is t w a n);
    before = λ w v a b n k lt le.
        let x = event_on e t w a n in
        let y = event_on e u v b k in
        ⊎_elim {C = v.note.stamp < w.note.stamp}
        (λ newer. apart_parts d p.newer (p.hold ∷ p.older) y.0 x.0 (v.hold e) (w.hold e) good of
        (⊎_elim (λ n'. absurd (omega (arith, rising_newer p.newer p.hold p.older (v.hold e) good n' (far ∙ sym (end_is u v b k)), at u v b k, p.names, le))) (λ q. q) (where_is u v b k))
        (hold_of m meaning start turns hist run e y.0) newer (hold_of m meaning start turns hist run e x.0))
        (λ r. ⊎_elim {C = v.note.stamp < w.note.stamp} (λ is. absurd (p.other (sym (ap (λ (g : Hold). g.end) is) ∙ end_is t w a n)))
        (λ old. absurd (omega (arith, p.after (w.hold e) old (end_is t w a n), at t w a n, lt))) r)
        (where_is t w a n);
  }
    where
      e : ℕ
      e = l.gone.edge

      u : ℕ
      u = l.gone.holder

      d : Deeds (EventOn m turns l.gone.edge)
      d = deeds m turns l.gone.edge

      j : Joins m l.gone.edge t l.gone.holder
      j = refused.holder t l i

      p : IsPlaced (hist l.gone.edge) (end_at m t l.gone.edge) l.gone.attempt l.gone.holder_attempt
      p = refused.placed t l i

      good : IsHistory (p.newer ++ (p.hold ∷ p.older))
      good = subst IsHistory p.whole (run.histories l.gone.edge)

      of : IsOfEvents d (p.newer ++ (p.hold ∷ p.older))
      of = subst (IsOfEvents d) p.whole (of_events m meaning start turns hist run l.gone.edge)

      inside : In p.hold (hist l.gone.edge)
      inside = subst (In p.hold) (sym p.whole) (in_right p.newer (p.hold ∷ p.older) p.hold (inl refl))

      far : p.hold.end ≡ end_at m l.gone.holder l.gone.edge
      far = end_other l.gone.edge t l.gone.holder p.hold (apart m run.plane l.gone.edge) j (run.ends l.gone.edge p.hold inside) p.other

      where_is : (q : ℕ) (w : Won) → In (Wins w) (turns q) → In l.gone.edge (needs_of m q (event_site w.note)) → In (w.hold l.gone.edge) p.newer ⊎ ((w.hold l.gone.edge ≡ p.hold) ⊎ In (w.hold l.gone.edge) p.older)
      where_is q w a n = in_either p.newer (p.hold ∷ p.older) (w.hold l.gone.edge) (subst (In (w.hold l.gone.edge)) p.whole (in_hist m meaning start turns hist run l.gone.edge (event_on l.gone.edge q w a n).0))

      end_is : (q : ℕ) (w : Won) → In (Wins w) (turns q) → In l.gone.edge (needs_of m q (event_site w.note)) → (w.hold l.gone.edge).end ≡ end_at m q l.gone.edge
      end_is q w a n = (hold_of m meaning start turns hist run l.gone.edge (event_on l.gone.edge q w a n).0).at_end ∙ ap (λ z. end_at m z l.gone.edge) (of_tile m meaning start turns hist run q w (turns q) (run.played q) a)

      at : (q : ℕ) (w : Won) → In (Wins w) (turns q) → In l.gone.edge (needs_of m q (event_site w.note)) → (w.hold l.gone.edge).attempt ≡ w.note.attempt
      at q w a n = (hold_of m meaning start turns hist run l.gone.edge (event_on l.gone.edge q w a n).0).for_attempt
