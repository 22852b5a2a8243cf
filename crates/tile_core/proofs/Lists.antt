-- The lists of an end while an attempt is in hand.
use Rattle.std.proofs.Common.{◌≡◌, ℕ, ◌+◌, ◌<◌, ◌≤◌, eqb, Bool, true, false, cond, List, [], ◌∷◌, ◌++◌, length, get_or, take, refl, sym, ap, ◌∙◌, subst, arith}
use Rattle.std.specs.Prelude.{if◌then◌else◌, ◌==◌, ◌&&◌, not, All}
use Rattle.std.proofs.lemmas.List.{take_all, append-nil}
use Rattle.std.proofs.lemmas.List.Elements.{All-push}
use Rattle.std.proofs.lemmas.Bool.{eqb-false}
use Rattle.bit_field.specs.Atom.{AtomValue}
use Rattle.window_sites.specs.Window.{WindowValue}
use Rattle.edge_lock.specs.declared.board.Take.TheVariants.{Got, Busy}
use Rattle.edge_lock.specs.declared.history.Access.{Access}
use Rattle.edge_lock.specs.declared.history.Hold.{Hold}
use Rattle.edge_lock.specs.declared.history.Refusal.{Refusal}
use Rattle.edge_lock.specs.EndLists.{EndLists, end_lists, hold_of, closed_hold, refusal_of, is_last_open, writes_nothing, HasNoWrite, IsHeld, IsFree, IsNew, IsHoldBelow, IsRefusalBelow, after_try, after_give, replace_at}
use Rattle.edge_lock.proofs.LastHolds.{is_held-snoc, last_accesses-snoc, change_last-snoc}
use Rattle.edge_lock.proofs.BoardLaws.{here_after, else_after}
use Rattle.tile_map.specs.Plane.{Site, MapValue}
use Rattle.tile_map.specs.Edges.{has_end}
use Rattle.border_cache.specs.Accesses.{after_all, with_all}
use Rattle.border_cache.specs.Windows.{has, end_at, AddsAll}
use Rattle.border_cache.proofs.Runs.{after_none as after_nothing}
use Rattle.border_cache.proofs.Needs.{Rises, has_more, has_at, not_yet}
use Rattle.tile_core.specs.Values.{TileValue}
use Rattle.tile_core.specs.Turns.{Lost, Turn, Wins, Loses, Wears, turn_edges, hold_at, refusals_at, as_open, one_if, with_more, AgreeOnEdges, lists_of, lists_left, IsTurn, AreTurns, Wearless, IsGiven, common}
use Rattle.tile_core.specs.Underway.{HasOpen, no_access, still, tile_at}

-- all that was noted is over: no hold is open, and the attempts are below the number of turns
no_more : (l : EndLists) → with_more [] [] l ≡ l
no_more l = λ i. end_lists (append-nil l.holds i) (append-nil l.refusals i)

free_more : (b : Bool) (h : Hold) (rs : List Refusal) (l : EndLists) → (b ≡ true → h.is_open ≡ false) → IsFree l → IsFree (with_more (one_if b h) rs l)
free_more true h rs l shut f = is_held-snoc l.holds h ∙ shut refl
free_more false h rs l shut f = ap is_last_open (append-nil l.holds) ∙ f

below_more : (n : ℕ) (b : Bool) (h : Hold) (hs : List Hold) → All (IsHoldBelow n) hs → (b ≡ true → h.attempt < n) → All (IsHoldBelow n) (hs ++ one_if b h)
below_more n true h hs a lt = All-push (IsHoldBelow n) hs h a (lt refl)
below_more n false h hs a lt = subst (All (IsHoldBelow n)) (sym (append-nil hs)) a

refused_more : (n : ℕ) (x : Turn) (e : ℕ) (rs : List Refusal) → All (IsRefusalBelow n) rs → ((l : Lost) → x ≡ Loses l → l.gone.attempt < n) → All (IsRefusalBelow n) (rs ++ refusals_at x e)
refused_more n (Wins w) e rs a lt = subst (All (IsRefusalBelow n)) (sym (append-nil rs)) a
refused_more n (Wears w) e rs a lt = subst (All (IsRefusalBelow n)) (sym (append-nil rs)) a
refused_more n (Loses l) e rs a lt = go (eqb e l.gone.edge)
  where
    go : (b : Bool) → All (IsRefusalBelow n) (rs ++ cond b (refusal_of l.gone.attempt l.gone.holder_attempt ∷ []) [])
    go true = All-push (IsRefusalBelow n) rs (refusal_of l.gone.attempt l.gone.holder_attempt) a (lt l refl)
    go false = subst (All (IsRefusalBelow n)) (sym (append-nil rs)) a

module _ (m : MapValue) (meaning : WindowValue → ℕ → WindowValue) (start : Site → AtomValue) (t : ℕ) where
  abbrev Good : List Turn → Type 0
  Good turns = AreTurns (common m meaning start) t turns × Wearless turns

  pub given_of : (x : Turn) (xs : List Turn) → IsTurn (common m meaning start) t xs x → Wearless (x ∷ xs) → (e : ℕ) → has e (turn_edges m t x) ≡ true → IsGiven m t e (length xs) (hold_at x e)
  given_of (Wins w) xs i u e h = i.given e h
  given_of (Loses l) xs i u e h = (i.given e h).0
  given_of (Wears w) xs i u e h = absurd u

  rest_unworn : (x : Turn) (xs : List Turn) → Wearless (x ∷ xs) → Wearless xs
  rest_unworn (Wins w) xs u = u
  rest_unworn (Loses l) xs u = u
  rest_unworn (Wears w) xs u = absurd u

  pub free_of : (turns : List Turn) (e : ℕ) → AreTurns (common m meaning start) t turns → Wearless turns → IsFree (lists_of m t turns e)
  free_of [] e a u = refl
  free_of (x ∷ xs) e a u = free_more (has e (turn_edges m t x)) (hold_at x e) (refusals_at x e) (lists_of m t xs e) (λ h. (given_of x xs a.0 u e h).closed) (free_of xs e a.2 (rest_unworn x xs u))

  lost_attempt : (x : Turn) (xs : List Turn) → IsTurn (common m meaning start) t xs x → (l : Lost) → x ≡ Loses l → l.gone.attempt ≡ length xs
  lost_attempt (Wins w) xs i l e = absurd (cc e)
  lost_attempt (Wears w) xs i l e = absurd (cc e)
  lost_attempt (Loses k) xs i l e = ap gone_attempt (sym e) ∙ i.attempt
    where
      gone_attempt : Turn → ℕ
      gone_attempt (Loses l) = l.gone.attempt
      gone_attempt (Wins w) = 0
      gone_attempt (Wears w) = 0

  pub new_of : (turns : List Turn) (e n : ℕ) → length turns ≤ n → AreTurns (common m meaning start) t turns → Wearless turns → IsNew n (lists_of m t turns e)
  new_of [] e n le a u = record { holds = λ k d i. absurd (omega arith); refusals = λ k d i. absurd (omega arith) }
  new_of (x ∷ xs) e n le a u =
      let r = new_of xs e n (omega (arith, le)) a.2 (rest_unworn x xs u) in
      record {
        holds = below_more n (has e (turn_edges m t x)) (hold_at x e) (lists_of m t xs e).holds r.holds (λ h. let q = (given_of x xs a.0 u e h).attempt_is in omega (arith, q, le));
        refusals = refused_more n x e (lists_of m t xs e).refusals r.refusals (λ l is. let q = lost_attempt x xs a.0 l is in omega (arith, q, le));
      }

-- the open hold of an edge
pub held_more : (h : Hold) (rs : List Refusal) (l : EndLists) → h.is_open ≡ true → IsHeld (with_more (h ∷ []) rs l)
held_more h rs l is = is_held-snoc l.holds h ∙ is

pub quiet_more : (h : Hold) (rs : List Refusal) (l : EndLists) → writes_nothing h.accesses ≡ true → HasNoWrite (with_more (h ∷ []) rs l)
quiet_more h rs l is = ap writes_nothing (last_accesses-snoc l.holds h) ∙ is

give_more : (h : Hold) (rs : List Refusal) (l : EndLists) → after_give (with_more (as_open true h ∷ []) rs l) ≡ with_more (as_open false h ∷ []) rs l
give_more h rs l = ap (λ hs. end_lists hs (l.refusals ++ rs)) (change_last-snoc closed_hold l.holds (as_open true h))

pub same_closed : (h : Hold) → h.is_open ≡ false → as_open false h ≡ h
same_closed h is = λ i. hold_of h.end h.attempt h.accesses (sym is i)

pub eqb_of : (d e : ℕ) → eqb d e ≡ true → e ≡ d
eqb_of d e is = grind (arith, is)

-- the lock phase
module _ (m : MapValue) (tile : TileValue) (n e : ℕ) (turns : List Turn) (needs : List ℕ) (a b : ℕ → EndLists) (rise : Rises needs) (lt : n < length needs) (at : e ≡ get_or needs n 0)
    (mine : has_end m tile.number e ≡ true) (had : HasOpen m turns (tile_at tile a) (take n needs) no_access) where
  abbrev t : ℕ
  t = tile.number

  abbrev i : ℕ
  i = length turns

  fresh : has e (take n needs) ≡ false
  fresh = ap (λ x. has x (take n needs)) at ∙ not_yet n needs lt rise

  pub here_free : a e ≡ lists_of m t turns e
  here_free = had e mine ∙ (ap (λ x. with_more (one_if x (hold_of (end_at m t e) i [] true)) [] (lists_of m t turns e)) fresh ∙ no_more (lists_of m t turns e))

  pub got_open : (k : ℕ) → k ≡ end_at m t e → b ≡ replace_at a e (after_try k i Got (a e)) → HasOpen m turns (tile_at tile b) (take (n + 1) needs) no_access
  got_open k end is d own = go (eqb d e) refl
    where
      more : has d (take (n + 1) needs) ≡ (if eqb d e then true else has d (take n needs))
      more = has_more d n needs lt ∙ ap (λ x. if d == x then true else has d (take n needs)) (sym at)

      aim : Bool → EndLists
      aim x = with_more (one_if x (hold_of (end_at m t d) i [] true)) [] (lists_of m t turns d)

      go : (x : Bool) → eqb d e ≡ x → b d ≡ aim (has d (take (n + 1) needs))
      go true q =
          let same : e ≡ d = eqb_of d e q in
          let here : b e ≡ with_more (hold_of (end_at m t e) i [] true ∷ []) [] (lists_of m t turns e) =
          here_after a b e (after_try k i Got (a e)) is ∙ ((λ j. after_try (end j) i Got (here_free j)) ∙ ap (λ rs. end_lists ((lists_of m t turns e).holds ++ hold_of (end_at m t e) i [] true ∷ []) rs) (sym (append-nil (lists_of m t turns e).refusals))) in
          subst (λ x. b x ≡ with_more (hold_of (end_at m t x) i [] true ∷ []) [] (lists_of m t turns x)) same here ∙ ap aim (sym (more ∙ ap (λ x. if x then true else has d (take n needs)) q))
      go false q = else_after a b e d (after_try k i Got (a e)) is (eqb-false d e q) ∙ (had d own ∙ ap aim (sym (more ∙ ap (λ x. if x then true else has d (take n needs)) q)))

  -- the attempt is abandoned
  pub busy_left : (k j : ℕ) (l : Lost) → l.gone.edge ≡ e → l.gone.attempt ≡ i → l.gone.holder_attempt ≡ j → turn_edges m t (Loses l) ≡ take n needs → ((d : ℕ) → l.hold d ≡ hold_of (end_at m t d) i [] false)
      → b ≡ replace_at a e (after_try k i (Busy j) (a e)) → AgreeOnEdges m t b (lists_left m t (still (take n needs) 0) (Loses l) turns)
  busy_left k j l edge attempt holder edges holds is d own = go (eqb d e) refl
    where
      aim : Bool → Bool → Hold → List Refusal → EndLists
      aim x y h rs = with_more (one_if x (as_open y h)) rs (lists_of m t turns d)

      whole : (x : Bool) → has d (take n needs) ≡ x → (rs : List Refusal) → refusals_at (Loses l) d ≡ rs → lists_left m t (still (take n needs) 0) (Loses l) turns d ≡ aim x (x && true) (hold_of (end_at m t d) i [] false) rs
      whole x q rs r = λ z. aim ((ap (has d) edges ∙ q) z) (q z && true) (holds d z) (r z)

      refused : (x : Bool) → eqb d e ≡ x → refusals_at (Loses l) d ≡ cond x (refusal_of i j ∷ []) []
      refused x q = λ z. cond ((ap (eqb d) edge ∙ q) z) (refusal_of (attempt z) (holder z) ∷ []) []

      open_is : (x : Bool) → with_more (one_if x (hold_of (end_at m t d) i [] true)) [] (lists_of m t turns d) ≡ aim x (x && true) (hold_of (end_at m t d) i [] false) []
      open_is true = refl
      open_is false = refl

      go : (x : Bool) → eqb d e ≡ x → b d ≡ lists_left m t (still (take n needs) 0) (Loses l) turns d
      go true q =
          let same : e ≡ d = eqb_of d e q in
          let past = lists_of m t turns e in
          let here : b e ≡ with_more [] (refusal_of i j ∷ []) past =
          here_after a b e (after_try k i (Busy j) (a e)) is ∙ (ap (after_try k i (Busy j)) here_free ∙ ap (λ hs. end_lists hs (past.refusals ++ refusal_of i j ∷ [])) (sym (append-nil past.holds))) in
          subst (λ x. b x ≡ with_more [] (refusal_of i j ∷ []) (lists_of m t turns x)) same here
          ∙ sym (whole false (ap (λ x. has x (take n needs)) (sym same) ∙ fresh) (refusal_of i j ∷ []) (refused true q))
      go false q = else_after a b e d (after_try k i (Busy j) (a e)) is (eqb-false d e q) ∙ (had d own ∙ (open_is (has d (take n needs)) ∙ sym (whole (has d (take n needs)) refl [] (refused false q))))

-- giving back
module _ (m : MapValue) (t n e : ℕ) (x : Turn) (older : List Turn) (edges : List ℕ) (a b : ℕ → EndLists) (rise : Rises edges) (lt : n < length edges) (at : e ≡ get_or edges n 0)
    (mine : has_end m t e ≡ true) (same : edges ≡ turn_edges m t x) (left : AgreeOnEdges m t a (lists_left m t (still edges n) x older)) where
  is_there : has e (turn_edges m t x) ≡ true
  is_there = ap (has e) (sym same) ∙ (ap (λ d. has d edges) at ∙ has_at n edges lt)

  is_still : still edges n e ≡ true
  is_still = (λ z. (ap (λ d. has d edges) at ∙ has_at n edges lt) z && not ((ap (λ d. has d (take n edges)) at ∙ not_yet n edges lt rise) z))

  pub here_open : a e ≡ with_more (as_open true (hold_at x e) ∷ []) (refusals_at x e) (lists_of m t older e)
  here_open = left e mine ∙ (λ z. with_more (one_if (is_there z) (as_open (is_still z) (hold_at x e))) (refusals_at x e) (lists_of m t older e))

  pub here_held : IsHeld (a e)
  here_held = subst IsHeld (sym here_open) (held_more (as_open true (hold_at x e)) (refusals_at x e) (lists_of m t older e) refl)

  pub here_quiet : writes_nothing (hold_at x e).accesses ≡ true → HasNoWrite (a e)
  here_quiet q = subst HasNoWrite (sym here_open) (quiet_more (as_open true (hold_at x e)) (refusals_at x e) (lists_of m t older e) q)

  pub gave_left : b ≡ replace_at a e (after_give (a e)) → AgreeOnEdges m t b (lists_left m t (still edges (n + 1)) x older)
  gave_left is d own = go (eqb d e) refl
    where
      more : has d (take (n + 1) edges) ≡ (if eqb d e then true else has d (take n edges))
      more = has_more d n edges lt ∙ ap (λ x. if d == x then true else has d (take n edges)) (sym at)

      aim : Bool → EndLists
      aim y = with_more (one_if (has d (turn_edges m t x)) (as_open (has d edges && not y) (hold_at x d))) (refusals_at x d) (lists_of m t older d)

      shut : (y : Bool) → (y && not true) ≡ false
      shut true = refl
      shut false = refl

      go : (y : Bool) → eqb d e ≡ y → b d ≡ lists_left m t (still edges (n + 1)) x older d
      go true q =
          let e_is_d : e ≡ d = eqb_of d e q in
          let here : b e ≡ with_more (as_open false (hold_at x e) ∷ []) (refusals_at x e) (lists_of m t older e) =
          here_after a b e (after_give (a e)) is ∙ (ap after_give here_open ∙ give_more (hold_at x e) (refusals_at x e) (lists_of m t older e)) in
          let there : has d (turn_edges m t x) ≡ true = subst (λ k. has k (turn_edges m t x) ≡ true) e_is_d is_there in
          subst (λ k. b k ≡ with_more (as_open false (hold_at x k) ∷ []) (refusals_at x k) (lists_of m t older k)) e_is_d here
          ∙ ((λ z. with_more (one_if (sym there z) (as_open (sym (shut (has d edges)) z) (hold_at x d))) (refusals_at x d) (lists_of m t older d))
          ∙ ap aim (sym (more ∙ ap (λ y. if y then true else has d (take n edges)) q)))
      go false q = else_after a b e d (after_give (a e)) is (eqb-false d e q) ∙ (left d own ∙ ap aim (sym (more ∙ ap (λ y. if y then true else has d (take n edges)) q)))

-- all were given back
pub all_left : (m : MapValue) (t : ℕ) (x : Turn) (older : List Turn) (edges : List ℕ) (a : ℕ → EndLists) → edges ≡ turn_edges m t x → ((d : ℕ) → has d (turn_edges m t x) ≡ true → (hold_at x d).is_open ≡ false)
    → (n : ℕ) → length edges ≤ n → AgreeOnEdges m t a (lists_left m t (still edges n) x older) → AgreeOnEdges m t a (lists_of m t (x ∷ older))
all_left m t x older edges a same closed n le left d own =
    left d own ∙ (ap (λ es. with_more (one_if (has d (turn_edges m t x)) (as_open (has d edges && not (has d es)) (hold_at x d))) (refusals_at x d) (lists_of m t older d)) (take_all n edges le)
    ∙ (ap (λ y. with_more (one_if (has d (turn_edges m t x)) (as_open y (hold_at x d))) (refusals_at x d) (lists_of m t older d)) (None (has d edges))
    ∙ go (has d (turn_edges m t x)) refl))
  where
    None : (y : Bool) → (y && not y) ≡ false
    None true = refl
    None false = refl

    go : (y : Bool) → has d (turn_edges m t x) ≡ y → with_more (one_if y (as_open false (hold_at x d))) (refusals_at x d) (lists_of m t older d) ≡ with_more (one_if y (hold_at x d)) (refusals_at x d) (lists_of m t older d)
    go true q = ap (λ h. with_more (h ∷ []) (refusals_at x d) (lists_of m t older d)) (same_closed (hold_at x d) (closed d q))
    go false q = refl

-- the accesses of the open holds grow
pub open_more : (m : MapValue) (tile : TileValue) (turns : List Turn) (needs : List ℕ) (accesses more : ℕ → List Access) (a b : ℕ → EndLists) → HasOpen m turns (tile_at tile a) needs accesses → AddsAll a b needs more
    → HasOpen m turns (tile_at tile b) needs (λ e. accesses e ++ more e)
open_more m tile turns needs accesses more a b had adds d own = go (has d needs) refl
  where
    past : EndLists
    past = lists_of m tile.number turns d

    aim : (x : Bool) → List Access → EndLists
    aim x xs = with_more (one_if x (hold_of (end_at m tile.number d) (length turns) xs true)) [] past

    go : (x : Bool) → has d needs ≡ x → b d ≡ aim (has d needs) (accesses d ++ more d)
    go true q =
        adds.lists d ∙ (ap (after_all (more d)) (had d own ∙ ap (λ x. aim x (accesses d)) q)
        ∙ (ap (λ hs. end_lists hs (past.refusals ++ [])) (change_last-snoc (with_all (more d)) past.holds (hold_of (end_at m tile.number d) (length turns) (accesses d) true)) ∙ ap (λ x. aim x (accesses d ++ more d)) (sym q)))
    go false q =
        adds.lists d ∙ (ap (λ xs. after_all xs (a d)) (adds.only d q) ∙ (sym (after_nothing (a d)) ∙ (had d own ∙ (ap (λ x. aim x (accesses d)) q ∙ ap (λ x. aim x (accesses d ++ more d)) (sym q)))))
