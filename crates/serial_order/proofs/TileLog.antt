-- One tile's log: its entries are its turns.
use Rattle.std.proofs.Common.{ℕ, suc, ◌≡◌, ◌≤◌, ◌<◌, ◌+◌, List, [], ◌∷◌, refl, sym, ap, subst, arith, inl, inr, ⊎_elim, ◌∙◌, ◌==◌, ◌&&◌, length, cond}
use Rattle.std.specs.Prelude.{slice_get, nat_lt, if◌then◌else◌}
use Rattle.std.proofs.lemmas.Bool.Decides.{nat_tests}
use Rattle.std.proofs.lemmas.List.{length-append}
use Rattle.std.proofs.lemmas.List.Sums.{sum_by_push}
use Rattle.bit_field.specs.Atom.{AtomValue}
use Rattle.window_sites.specs.Window.{WindowValue}
use Rattle.tile_map.specs.Plane.{Site, MapValue}
use Rattle.cell_grid.specs.declared.record.Record.{Record}
use Rattle.draw_stream.specs.declared.attempt.Attempt.{Attempt}
use Rattle.list_laws.proofs.Members.{In, InOrder, in_either, in_left, in_right, order-append, order-pairs, in_all}
use Rattle.event_journal.specs.declared.abandoned.Abandoned.{Abandoned}
use Rattle.event_journal.specs.Logs.{IsLog, RisesTo, log_of}
use Rattle.event_journal.specs.Accounts.{events_at, abandoned_at}
use Rattle.tile_core.specs.Values.{event_site, given_up_site}
use Rattle.tile_core.specs.Turns.{Won, Lost, Worn, Turn, Wins, Loses, Wears, records_in_turns, abandoned_in_turns, AreAttempts, IsAttemptAt}
use Rattle.serial_order.proofs.Tile.{Played, grows, stamps}

pub in_records : (n : Record) (xs : List Turn) → In n (records_in_turns xs) → (w : Won) × In (Wins w) xs × (n ≡ w.note)
in_records n [] i = absurd i
in_records n (Wins w ∷ xs) i = ⊎_elim (λ j. let r = in_records n xs j in (r.0, inr r.1, r.2)) (λ j. ⊎_elim (λ e. (w, inl refl, e)) (λ k. absurd k) j) (in_either (records_in_turns xs) (w.note ∷ []) n i)
in_records n (Loses l ∷ xs) i = let r = in_records n xs i in (r.0, inr r.1, r.2)
in_records n (Wears x ∷ xs) i = let r = in_records n xs i in (r.0, inr r.1, r.2)

pub records_in : (w : Won) (xs : List Turn) → In (Wins w) xs → In w.note (records_in_turns xs)
records_in w [] i = absurd i
records_in w (Wins v ∷ xs) i = ⊎_elim (λ e. let same : w ≡ v = cc (e) in in_right (records_in_turns xs) (v.note ∷ []) w.note (inl (ap (λ (u : Won). u.note) same))) (λ j. in_left (records_in_turns xs) (v.note ∷ []) w.note (records_in w xs j)) i
records_in w (Loses l ∷ xs) i = ⊎_elim (λ e. absurd (cc (e))) (λ j. records_in w xs j) i
records_in w (Wears x ∷ xs) i = ⊎_elim (λ e. absurd (cc (e))) (λ j. records_in w xs j) i

pub in_abandoned : (g : Abandoned) (xs : List Turn) → In g (abandoned_in_turns xs) → (l : Lost) × In (Loses l) xs × (g ≡ l.gone)
in_abandoned g [] i = absurd i
in_abandoned g (Wins w ∷ xs) i = let r = in_abandoned g xs i in (r.0, inr r.1, r.2)
in_abandoned g (Loses l ∷ xs) i = ⊎_elim (λ j. let r = in_abandoned g xs j in (r.0, inr r.1, r.2)) (λ j. ⊎_elim (λ e. (l, inl refl, e)) (λ k. absurd k) j) (in_either (abandoned_in_turns xs) (l.gone ∷ []) g i)
in_abandoned g (Wears x ∷ xs) i = let r = in_abandoned g xs i in (r.0, inr r.1, r.2)

pub abandoned_in : (l : Lost) (xs : List Turn) → In (Loses l) xs → In l.gone (abandoned_in_turns xs)
abandoned_in l [] i = absurd i
abandoned_in l (Wins w ∷ xs) i = ⊎_elim (λ e. absurd (cc (e))) (λ j. abandoned_in l xs j) i
abandoned_in l (Loses k ∷ xs) i = ⊎_elim (λ e. let same : l ≡ k = cc (e) in in_right (abandoned_in_turns xs) (k.gone ∷ []) l.gone (inl (ap (λ (u : Lost). u.gone) same))) (λ j. in_left (abandoned_in_turns xs) (k.gone ∷ []) l.gone (abandoned_in l xs j)) i
abandoned_in l (Wears x ∷ xs) i = ⊎_elim (λ e. absurd (cc (e))) (λ j. abandoned_in l xs j) i

one_more : (i n : ℕ) → (if nat_lt i n then 1 else 0) + (if n == i then 1 else 0) ≡ (if nat_lt i (suc n) then 1 else 0)
one_more i n = grind (arith, nat_tests)

this_one : (t i u k n : ℕ) → u ≡ t → k ≡ n → ◌≡◌ {A = ℕ} (if (u == t) && (k == i) then 1 else 0) (if n == i then 1 else 0)
this_one t i u k n p q = grind (arith, nat_tests)

-- there are no more entries than turns
pub entries_few : (xs : List Turn) → length (records_in_turns xs) + length (abandoned_in_turns xs) ≤ length xs
entries_few [] = omega arith
entries_few (Wins w ∷ xs) = omega (arith, entries_few xs, length-append (records_in_turns xs) (w.note ∷ []))
entries_few (Loses l ∷ xs) = omega (arith, entries_few xs, length-append (abandoned_in_turns xs) (l.gone ∷ []))
entries_few (Wears w ∷ xs) = omega (arith, entries_few xs)

module _ (m : MapValue) (meaning : WindowValue → ℕ → WindowValue) (start : Site → AtomValue) (t : ℕ) where
  -- each attempt has one entry
  pub once : (i : ℕ) (xs : List Turn) → Played m meaning start t xs → ((x : Worn) → In (Wears x) xs → ⊥) → events_at t i (records_in_turns xs) + abandoned_at t i (abandoned_in_turns xs) ≡ (if nat_lt i (length xs) then 1 else 0)
  once i [] p none = grind (arith, nat_tests)
  once i (Wins w ∷ xs) p none =
      omega (arith, once i xs p.1 (λ x j. none x (inr j)), sum_by_push (λ (r : Record). cond ((r.tile == t) && (r.attempt == i)) 1 0) (records_in_turns xs) w.note, this_one t i w.note.tile w.note.attempt (length xs) p.0.tile p.0.attempt, one_more i (length xs))
  once i (Loses l ∷ xs) p none =
      omega (arith, once i xs p.1 (λ x j. none x (inr j)), sum_by_push (λ (r : Abandoned). cond ((r.tile == t) && (r.attempt == i)) 1 0) (abandoned_in_turns xs) l.gone, this_one t i l.gone.tile l.gone.attempt (length xs) p.0.tile p.0.attempt, one_more i (length xs))
  once i (Wears x ∷ xs) p none = absurd (none x (inl refl))

  below_length : (xs : List Turn) → Played m meaning start t xs → (w : Won) → In (Wins w) xs → w.note.attempt < length xs
  below_length [] p w i = absurd i
  below_length (Wins v ∷ xs) p w i = ⊎_elim {C = w.note.attempt < length (Wins v ∷ xs)} (λ (e : Wins w ≡ Wins v). let s : w ≡ v = cc (e) in omega (arith, p.0.attempt, ap (λ (u : Won). u.note.attempt) s)) (λ j. omega (arith, below_length xs p.1 w j)) i
  below_length (Loses l ∷ xs) p w i = ⊎_elim {C = w.note.attempt < length (Loses l ∷ xs)} (λ e. absurd (cc (e))) (λ j. omega (arith, below_length xs p.1 w j)) i
  below_length (Wears l ∷ xs) p w i = ⊎_elim {C = w.note.attempt < length (Wears l ∷ xs)} (λ e. absurd (cc (e))) (λ j. omega (arith, below_length xs p.1 w j)) i

  gone_below : (xs : List Turn) → Played m meaning start t xs → (l : Lost) → In (Loses l) xs → l.gone.attempt < length xs
  gone_below [] p l i = absurd i
  gone_below (Wins w ∷ xs) p l i = ⊎_elim {C = l.gone.attempt < length (Wins w ∷ xs)} (λ e. absurd (cc (e))) (λ j. omega (arith, gone_below xs p.1 l j)) i
  gone_below (Loses k ∷ xs) p l i = ⊎_elim {C = l.gone.attempt < length (Loses k ∷ xs)} (λ (e : Loses l ≡ Loses k). let s : l ≡ k = cc (e) in omega (arith, p.0.attempt, ap (λ (q : Lost). q.gone.attempt) s)) (λ j. omega (arith, gone_below xs p.1 l j)) i
  gone_below (Wears k ∷ xs) p l i = ⊎_elim {C = l.gone.attempt < length (Wears k ∷ xs)} (λ e. absurd (cc (e))) (λ j. omega (arith, gone_below xs p.1 l j)) i

  -- of two events of a tile the later one has the greater stamp
  pub later_greater : (xs : List Turn) → Played m meaning start t xs → (w v : Won) → In (Wins w) xs → In (Wins v) xs → w.note.attempt < v.note.attempt → w.note.stamp < v.note.stamp
  later_greater [] p w v i j lt = absurd i
  later_greater (Wins u ∷ xs) p w v i j lt =
      ⊎_elim {C = w.note.stamp < v.note.stamp}
      (λ (e : Wins v ≡ Wins u). let s : v ≡ u = cc (e) in
      ⊎_elim {C = w.note.stamp < v.note.stamp} (λ (f : Wins w ≡ Wins u). let r : w ≡ u = cc (f) in absurd (omega (arith, lt, ap (λ (q : Won). q.note.attempt) s, ap (λ (q : Won). q.note.attempt) r)))
      (λ k. omega (arith, stamps m meaning start t xs p.1 w k, grows m meaning start t xs u p.0, ap (λ (q : Won). q.note.stamp) s)) i)
      (λ k. ⊎_elim {C = w.note.stamp < v.note.stamp} (λ (f : Wins w ≡ Wins u). let r : w ≡ u = cc (f) in absurd (omega (arith, lt, below_length xs p.1 v k, p.0.attempt, ap (λ (q : Won). q.note.attempt) r))) (λ l. later_greater xs p.1 w v l k lt) i) j
  later_greater (Loses u ∷ xs) p w v i j lt = later_greater xs p.1 w v (⊎_elim {C = In (Wins w) xs} (λ e. absurd (cc (e))) (λ k. k) i) (⊎_elim {C = In (Wins v) xs} (λ e. absurd (cc (e))) (λ k. k) j) lt
  later_greater (Wears u ∷ xs) p w v i j lt = later_greater xs p.1 w v (⊎_elim {C = In (Wins w) xs} (λ e. absurd (cc (e))) (λ k. k) i) (⊎_elim {C = In (Wins v) xs} (λ e. absurd (cc (e))) (λ k. k) j) lt

  follow : (xs : List Turn) → Played m meaning start t xs → InOrder RisesTo (records_in_turns xs)
  follow [] p = tt
  follow (Wins w ∷ xs) p =
      order-append RisesTo (records_in_turns xs) (w.note ∷ []) (follow xs p.1) (λ y i. absurd i, tt)
      (λ x y i j. ⊎_elim {C = RisesTo x y} (λ (e : y ≡ w.note).
      let r = in_records x xs i in (
        omega (arith, below_length xs p.1 r.0 r.1, p.0.attempt, ap (λ (q : Record). q.attempt) r.2, ap (λ (q : Record). q.attempt) e),
        omega (arith, stamps m meaning start t xs p.1 r.0 r.1, grows m meaning start t xs w p.0, ap (λ (q : Record). q.stamp) r.2, ap (λ (q : Record). q.stamp) e),
      )) (λ k. absurd k) j)
  follow (Loses l ∷ xs) p = follow xs p.1
  follow (Wears l ∷ xs) p = follow xs p.1

  abbrev IsSooner : Abandoned → Abandoned → Type 0
  IsSooner a b = a.attempt < b.attempt

  sooner : (xs : List Turn) → Played m meaning start t xs → InOrder (λ (a b : Abandoned). a.attempt < b.attempt) (abandoned_in_turns xs)
  sooner [] p = tt
  sooner (Wins w ∷ xs) p = sooner xs p.1
  sooner (Wears w ∷ xs) p = sooner xs p.1
  sooner (Loses l ∷ xs) p =
      order-append IsSooner (abandoned_in_turns xs) (l.gone ∷ []) (sooner xs p.1) (λ y i. absurd i, tt)
      (λ x y i j. ⊎_elim {C = IsSooner x y} (λ (e : y ≡ l.gone). let r = in_abandoned x xs i in omega (arith, gone_below xs p.1 r.0 r.1, p.0.attempt, ap (λ (q : Abandoned). q.attempt) r.2, ap (λ (q : Abandoned). q.attempt) e)) (λ k. absurd k) j)

  pub lost_tile : (l : Lost) (xs : List Turn) → Played m meaning start t xs → In (Loses l) xs → l.gone.tile ≡ t
  lost_tile l [] p i = absurd i
  lost_tile l (Wins w ∷ xs) p i = ⊎_elim (λ e. absurd (cc (e))) (λ j. lost_tile l xs p.1 j) i
  lost_tile l (Loses k ∷ xs) p i = ⊎_elim (λ e. let s : l ≡ k = cc (e) in ap (λ (q : Lost). q.gone.tile) s ∙ p.0.tile) (λ j. lost_tile l xs p.1 j) i
  lost_tile l (Wears w ∷ xs) p i = ⊎_elim (λ e. absurd (cc (e))) (λ j. lost_tile l xs p.1 j) i

  won_tile : (w : Won) (xs : List Turn) → Played m meaning start t xs → In (Wins w) xs → w.note.tile ≡ t
  won_tile w [] p i = absurd i
  won_tile w (Wins v ∷ xs) p i = ⊎_elim (λ e. let s : w ≡ v = cc (e) in ap (λ (q : Won). q.note.tile) s ∙ p.0.tile) (λ j. won_tile w xs p.1 j) i
  won_tile w (Loses k ∷ xs) p i = ⊎_elim (λ e. absurd (cc (e))) (λ j. won_tile w xs p.1 j) i
  won_tile w (Wears k ∷ xs) p i = ⊎_elim (λ e. absurd (cc (e))) (λ j. won_tile w xs p.1 j) i

  pub own_record : (xs : List Turn) → Played m meaning start t xs → (n : Record) → In n (records_in_turns xs) → n.tile ≡ t
  own_record xs p n i = let r = in_records n xs i in ap (λ (q : Record). q.tile) r.2 ∙ won_tile r.0 xs p r.1

  pub own_gone : (xs : List Turn) → Played m meaning start t xs → (g : Abandoned) → In g (abandoned_in_turns xs) → g.tile ≡ t
  own_gone xs p g i = let r = in_abandoned g xs i in ap (λ (q : Abandoned). q.tile) r.2 ∙ lost_tile r.0 xs p r.1

  -- the entries of a tile are a log
  pub is_log : (xs : List Turn) → Played m meaning start t xs → IsLog (log_of t (records_in_turns xs) (abandoned_in_turns xs))
  is_log xs p = record {
    records = in_all (λ (r : Record). r.tile ≡ t) (records_in_turns xs) (λ n i. own_record xs p n i);
    abandoned = in_all (λ (g : Abandoned). g.tile ≡ t) (abandoned_in_turns xs) (λ g i. own_gone xs p g i);
    rising = order-pairs RisesTo (records_in_turns xs) (follow xs p);
    attempts = order-pairs IsSooner (abandoned_in_turns xs) (sooner xs p);
  }

  -- the attempt of an event, and of an abandoned one
  pub won_attempt : (attempts : List Attempt) (xs : List Turn) → Played m meaning start t xs → AreAttempts m t attempts xs → (w : Won) → In (Wins w) xs → IsAttemptAt m t (slice_get attempts w.note.attempt) (event_site w.note) w.note.seed
  won_attempt attempts [] p q w i = absurd i
  won_attempt attempts (Wins v ∷ xs) p q w i =
      ⊎_elim (λ e. let s : v ≡ w = cc (e) in
      subst (λ (u : Won). IsAttemptAt m t (slice_get attempts u.note.attempt) (event_site u.note) u.note.seed) s (subst (λ n. IsAttemptAt m t (slice_get attempts n) (event_site v.note) v.note.seed) (sym p.0.attempt) q.0))
      (λ j. won_attempt attempts xs p.1 q.1 w j) i
  won_attempt attempts (Loses v ∷ xs) p q w i = ⊎_elim (λ e. absurd (cc (e))) (λ j. won_attempt attempts xs p.1 q.1 w j) i
  won_attempt attempts (Wears v ∷ xs) p q w i = ⊎_elim (λ e. absurd (cc (e))) (λ j. won_attempt attempts xs p.1 q.1 w j) i

  pub lost_attempt : (attempts : List Attempt) (xs : List Turn) → Played m meaning start t xs → AreAttempts m t attempts xs → (l : Lost) → In (Loses l) xs → (seed : ℕ) × IsAttemptAt m t (slice_get attempts l.gone.attempt) (given_up_site l.gone) seed
  lost_attempt attempts [] p q l i = absurd i
  lost_attempt attempts (Loses v ∷ xs) p q l i =
      ⊎_elim (λ e. let s : v ≡ l = cc (e) in
      (q.0.0, subst (λ (u : Lost). IsAttemptAt m t (slice_get attempts u.gone.attempt) (given_up_site u.gone) q.0.0) s (subst (λ n. IsAttemptAt m t (slice_get attempts n) (given_up_site v.gone) q.0.0) (sym p.0.attempt) q.0.1)))
      (λ j. lost_attempt attempts xs p.1 q.1 l j) i
  lost_attempt attempts (Wins v ∷ xs) p q l i = ⊎_elim (λ e. absurd (cc (e))) (λ j. lost_attempt attempts xs p.1 q.1 l j) i
  lost_attempt attempts (Wears v ∷ xs) p q l i = ⊎_elim (λ e. absurd (cc (e))) (λ j. lost_attempt attempts xs p.1 q.1 l j) i
