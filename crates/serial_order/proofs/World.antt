-- The tiles' turns and the edges' histories, put together.
use Rattle.std.proofs.Common.{ℕ, ◌≡◌, ◌<◌, List, [], ◌∷◌, ◌++◌, refl, sym, ap, subst, arith, ◌⊎◌, inl, inr, ⊎_elim, Bool, true, false, Option, Some, None, ◌∙◌, ◌==◌}
use Rattle.std.specs.Prelude.{if◌then◌else◌, slice_get}
use Rattle.std.proofs.lemmas.Bool.Decides.{nat_tests}
use Rattle.list_laws.specs.Options.{or_zero}
use Rattle.bit_field.specs.Atom.{AtomValue, empty_atom}
use Rattle.window_sites.specs.Window.{WindowValue}
use Rattle.tile_map.specs.Plane.{Site, MapValue, owner_of, is_live}
use Rattle.tile_map.specs.Edges.{low_end, high_end, shared_of, needs_of}
use Rattle.tile_map.specs.Laws.{IsPlane}
use Rattle.edge_lock.specs.declared.history.Hold.{Hold}
use Rattle.edge_lock.specs.History.{own, found_value}
use Rattle.list_laws.proofs.Members.{In, in_filter, filter_in}
use Rattle.border_cache.specs.Windows.{has, end_at, sites_on}
use Rattle.tile_core.specs.Values.{event_site}
use Rattle.tile_core.specs.Turns.{common, Won, Turn, Wins, Loses, Wears, IsTurn, IsWon, IsSilent, turn_edges, hold_at, one_if, lists_of, before, stamp_of, clock_in, accesses_at}
use Rattle.serial_order.proofs.Lists.{back, back_append}
use Rattle.serial_order.proofs.Histories.{IsQuiet, IsHistory, quiet}
use Rattle.serial_order.proofs.Ground.{IsEnd, has_in, in_has, ends_of}
use Rattle.serial_order.proofs.Deeds.{covers, at_place, event_hold, writes, spares}
use Rattle.serial_order.proofs.Edge.{Deeds, IsHoldOf, IsOfEvents, HasHold}
use Rattle.serial_order.proofs.Tile.{Played, Did, Past, past, greatest_each}

-- the hold of a turn on an edge, where it has one
abbrev pub hold_if : Bool → Hold → Option Hold
hold_if true h = Some h
hold_if false h = None

abbrev pub hold_on : MapValue → ℕ → ℕ → Turn → Option Hold
hold_on m t e x = hold_if (has e (turn_edges m t x)) (hold_at x e)

abbrev pub add : {A : Type 0} → Option A → List A → List A
add None xs = xs
add (Some x) xs = x ∷ xs

-- the tile's holds on an edge, the newest first
abbrev pub holds_of : MapValue → ℕ → ℕ → List Turn → List Hold
holds_of m t e [] = []
holds_of m t e (x ∷ xs) = add (hold_on m t e x) (holds_of m t e xs)

pub holds_back : (m : MapValue) (t e : ℕ) (xs : List Turn) → back (lists_of m t xs e).holds ≡ holds_of m t e xs
holds_back m t e [] = refl
holds_back m t e (x ∷ xs) = back_append (lists_of m t xs e).holds (one_if (has e (turn_edges m t x)) (hold_at x e)) ∙ go (has e (turn_edges m t x)) (holds_back m t e xs)
  where
    go : (b : Bool) → back (lists_of m t xs e).holds ≡ holds_of m t e xs → back (one_if b (hold_at x e)) ++ back (lists_of m t xs e).holds ≡ add (hold_if b (hold_at x e)) (holds_of m t e xs)
    go true is = ap (λ hs. hold_at x e ∷ hs) is
    go false is = is

-- what all tiles did, and the history of one edge, the newest hold first
pub record IsRunOn (m : MapValue) (meaning : WindowValue → ℕ → WindowValue) (start : Site → AtomValue) (turns : ℕ → List Turn) (e : ℕ) (hs : List Hold) : Type 0 where
  pub plane : IsPlane m
  pub played : (t : ℕ) → Played m meaning start t (turns t)
  pub history : IsHistory hs
  pub ends : (h : Hold) → In h hs → (h.end ≡ 0) ⊎ (h.end ≡ 1)
  pub lower : own 0 hs ≡ holds_of m (low_end m e) e (turns (low_end m e))
  pub higher : own 1 hs ≡ holds_of m (high_end m e) e (turns (high_end m e))

-- what all tiles did, and the histories of all edges, the newest first
pub record IsRun (m : MapValue) (meaning : WindowValue → ℕ → WindowValue) (start : Site → AtomValue) (turns : ℕ → List Turn) (hist : ℕ → List Hold) : Type 0 where
  pub plane : IsPlane m
  pub played : (t : ℕ) → Played m meaning start t (turns t)
  pub histories : (e : ℕ) → IsHistory (hist e)
  pub ends : (e : ℕ) (h : Hold) → In h (hist e) → (h.end ≡ 0) ⊎ (h.end ≡ 1)
  pub lower : (e : ℕ) → own 0 (hist e) ≡ holds_of m (low_end m e) e (turns (low_end m e))
  pub higher : (e : ℕ) → own 1 (hist e) ≡ holds_of m (high_end m e) e (turns (high_end m e))

pub in_own : (b : ℕ) (h : Hold) (hs : List Hold) → In h hs → h.end ≡ b → In h (own b hs)
in_own b h hs i e = in_filter (λ (g : Hold). g.end == b) hs h i (grind (arith, nat_tests, e))

pub own_in : (b : ℕ) (h : Hold) (hs : List Hold) → In h (own b hs) → In h hs
own_in b h hs i = (filter_in (λ (g : Hold). g.end == b) hs h i).0

pub in_holds : (m : MapValue) (t e : ℕ) (h : Hold) (x : Turn) (xs : List Turn) → In x xs → hold_on m t e x ≡ Some h → In h (holds_of m t e xs)
in_holds m t e h x [] i is = i
in_holds m t e h x (y ∷ xs) i is = go (hold_on m t e y) refl i (λ j. in_holds m t e h x xs j is)
  where
    go : (o : Option Hold) → hold_on m t e y ≡ o → In x (y ∷ xs) → (In x xs → In h (holds_of m t e xs)) → In h (add o (holds_of m t e xs))
    go None k i rec = ⊎_elim (λ s. absurd (cc (ap (hold_on m t e) s, k, is))) (λ j. rec j) i
    go (Some g) k i rec = ⊎_elim (λ s. inl (cc (ap (hold_on m t e) s, k, is))) (λ j. inr (rec j)) i

pub holds_in : (m : MapValue) (t e : ℕ) (h : Hold) (xs : List Turn) → In h (holds_of m t e xs) → (x : Turn) × In x xs × (hold_on m t e x ≡ Some h)
holds_in m t e h [] i = absurd i
holds_in m t e h (y ∷ xs) i = go (hold_on m t e y) refl i (λ j. holds_in m t e h xs j)
  where
    go : (o : Option Hold) → hold_on m t e y ≡ o → In h (add o (holds_of m t e xs)) → (In h (holds_of m t e xs) → (x : Turn) × In x xs × (hold_on m t e x ≡ Some h)) → (x : Turn) × In x (y ∷ xs) × (hold_on m t e x ≡ Some h)
    go None k i rec = let r = rec i in (r.0, inr r.1, r.2)
    go (Some g) k i rec = ⊎_elim (λ s. (y, inl refl, k ∙ ap Some (sym s))) (λ j. let r = rec j in (r.0, inr r.1, r.2)) i

-- the hold that a turn has, and that it needs the edge
pub hold_is : (m : MapValue) (t e : ℕ) (x : Turn) (h : Hold) → hold_on m t e x ≡ Some h → (hold_at x e ≡ h) × (has e (turn_edges m t x) ≡ true)
hold_is m t e x h is = go (has e (turn_edges m t x)) refl is
  where
    go : (b : Bool) → has e (turn_edges m t x) ≡ b → hold_if b (hold_at x e) ≡ Some h → (hold_at x e ≡ h) × (b ≡ true)
    go true k q = (cc (q), refl)
    go false k q = absurd (cc (q))

pub has_hold_on : (m : MapValue) (t e : ℕ) (x : Turn) → In e (turn_edges m t x) → hold_on m t e x ≡ Some (hold_at x e)
has_hold_on m t e x i = ap (λ b. hold_if b (hold_at x e)) (in_has e (turn_edges m t x) i)

pub before_in : (e d : ℕ) (cs : List ℕ) → In e (before d cs) → In e cs
before_in e d [] i = i
before_in e d (c ∷ cs) i = go (c == d) i (λ j. before_in e d cs j)
  where
    go : (b : Bool) → In e (if b then [] else c ∷ before d cs) → (In e (before d cs) → In e cs) → In e (c ∷ cs)
    go true j rec = absurd j
    go false j rec = ⊎_elim (λ s. inl s) (λ q. inr (rec q)) j

-- an event of the run
abbrev pub IsEvent : (ℕ → List Turn) → Won → Type 0
IsEvent turns w = Did (turns w.note.tile) w

abbrev pub Needs : MapValue → Won → ℕ → Type 0
Needs m w e = In e (needs_of m w.note.tile (event_site w.note))

-- the events that need an edge
pub record EventOn (m : MapValue) (turns : ℕ → List Turn) (e : ℕ) : Type 0 where
  pub won : Won
  pub did : IsEvent turns won
  pub needs : Needs m won e

abbrev pub deeds : (m : MapValue) (turns : ℕ → List Turn) (e : ℕ) → Deeds (EventOn m turns e)
deeds m turns e = record {
  sites = sites_on m e;
  end = λ x. end_at m x.won.note.tile e;
  attempt = λ x. x.won.note.attempt;
  stamp = λ x. x.won.note.stamp;
  covers = λ x k. covers m e (event_site x.won.note) k;
  after = λ x k. at_place empty_atom x.won.after (slice_get (shared_of m e) k);
}

module _ (m : MapValue) (meaning : WindowValue → ℕ → WindowValue) (start : Site → AtomValue) (turns : ℕ → List Turn) (e : ℕ) (hs : List Hold) (run : IsRunOn m meaning start turns e hs) where
  pub past_on : (w : Won) → IsEvent turns w → Past m meaning start w.note.tile (turns w.note.tile) w
  past_on w i = past m meaning start w.note.tile (turns w.note.tile) (run.played w.note.tile) w i

  clock_low : (w : Won) (before : List Turn) (c : ℕ) → IsWon (common m meaning start) w.note.tile before w → Needs m w e → found_value (accesses_at w e) 0 ≡ Some c → c < w.note.stamp
  clock_low w before c k i f =
      let at : clock_in (accesses_at w e) ≡ c = ap or_zero f in
      omega (arith, k.stamp, at, greatest_each (stamp_of before) (λ d. clock_in (accesses_at w d)) (needs_of m w.note.tile (event_site w.note)) e i)

  -- the hold of an event, as the edge sees it
  pub hold_of_on : (x : EventOn m turns e) → IsHoldOf (deeds m turns e) x (x.won.hold e)
  hold_of_on x =
      let w = x.won in
      let p = past_on w x.did in
      let g = p.won.given e (in_has e (needs_of m w.note.tile (event_site w.note)) x.needs) in
      let a = event_hold m run.plane meaning start w.note.tile p.before w p.won e x.needs in
      record {
        at_end = g.end;
        for_attempt = g.attempt_is ∙ sym p.won.attempt;
        clock = a.clock.0;
        finds_clock = a.clock.1;
        above = clock_low w p.before a.clock.0 p.won x.needs a.clock.1;
        leaves_clock = a.stamped;
        writes = λ k c. writes m run.plane meaning start w.note.tile p.before w p.won e x.needs k c;
        spares = λ k lt c. spares m run.plane meaning start w.note.tile p.before w p.won e x.needs k lt c;
      }

  pub an_end_on : (x : EventOn m turns e) → IsEnd m x.won.note.tile e
  an_end_on x = ends_of m run.plane x.won.note.tile (event_site x.won.note) e x.needs

  -- a hold of a tile at an end of the edge is in the edge's history
  pub in_edge_on : (t : ℕ) (h : Hold) → IsEnd m t e → In h (holds_of m t e (turns t)) → In h hs
  in_edge_on t h end i =
      ⊎_elim
      (λ (l : low_end m e ≡ t). own_in 0 h hs (subst (In h) (sym run.lower) (subst (λ u. In h (holds_of m u e (turns u))) (sym l) i)))
      (λ (r : high_end m e ≡ t). own_in 1 h hs (subst (In h) (sym run.higher) (subst (λ u. In h (holds_of m u e (turns u))) (sym r) i)))
      end

  -- the hold of an event is in the history of the edge
  pub in_hist_on : (x : EventOn m turns e) → In (x.won.hold e) hs
  in_hist_on x = in_edge_on x.won.note.tile (x.won.hold e) (an_end_on x) (in_holds m x.won.note.tile e (x.won.hold e) (Wins x.won) (turns x.won.note.tile) x.did (has_hold_on m x.won.note.tile e (Wins x.won) x.needs))

  abbrev IsMade : ℕ → Hold → Turn → Type 0
  IsMade t h y = IsQuiet h ⊎ ((w : Won) × (y ≡ Wins w) × (w.hold e ≡ h) × In e (needs_of m t (event_site w.note)) × (w.note.tile ≡ t))

  -- a hold that a turn of tile t made
  made_by : (t : ℕ) (h : Hold) (y : Turn) (xs : List Turn) → Played m meaning start t xs → In y xs → hold_on m t e y ≡ Some h → IsMade t h y
  made_by t h y [] p i is = absurd i
  made_by t h y (x ∷ xs) p i is = ⊎_elim (λ s. one x y p.0 s (hold_is m t e x h (ap (hold_on m t e) (sym s) ∙ is))) (λ j. made_by t h y xs p.1 j is) i
    where
      silent : (g : Hold) → g ≡ h → IsSilent g → IsQuiet h
      silent g same s = subst IsQuiet same (quiet g s)

      one : (x y : Turn) → IsTurn (common m meaning start) t xs x → y ≡ x → (hold_at x e ≡ h) × (has e (turn_edges m t x) ≡ true) → IsMade t h y
      one (Wins w) y k s q = inr (w, s, q.0, has_in e (needs_of m t (event_site w.note)) q.1, k.tile)
      one (Loses l) y k s q = inl (silent (l.hold e) q.0 (k.given e q.1).1)
      one (Wears l) y k s q = inl (silent (l.hold e) q.0 (k.holds e q.1).2)

  made_at : (t : ℕ) (h : Hold) → In h (holds_of m t e (turns t)) → IsQuiet h ⊎ ((x : EventOn m turns e) × IsHoldOf (deeds m turns e) x h)
  made_at t h i =
      let r = holds_in m t e h (turns t) i in
      ⊎_elim (λ still. inl still)
      (λ (q : (w : Won) × (r.0 ≡ Wins w) × (w.hold e ≡ h) × In e (needs_of m t (event_site w.note)) × (w.note.tile ≡ t)).
      let did : IsEvent turns q.0 = subst (λ u. In (Wins q.0) (turns u)) (sym q.4) (subst (λ y. In y (turns t)) q.1 r.1) in
      let needs : Needs m q.0 e = subst (λ u. In e (needs_of m u (event_site q.0.note))) (sym q.4) q.3 in
      let x : EventOn m turns e = record { won = q.0; did = did; needs = needs } in
      inr (x, subst (IsHoldOf (deeds m turns e) x) q.2 (hold_of_on x)))
      (made_by t h r.0 (turns t) (run.played t) r.1 r.2)

  -- each hold of the edge is of an event, or wrote nothing
  pub of_events_on : IsOfEvents (deeds m turns e) hs
  of_events_on h i =
      ⊎_elim
      (λ (l : h.end ≡ 0). made_at (low_end m e) h (subst (In h) run.lower (in_own 0 h hs i l)))
      (λ (r : h.end ≡ 1). made_at (high_end m e) h (subst (In h) run.higher (in_own 1 h hs i r)))
      (run.ends h i)

-- the same of all edges
module _ (m : MapValue) (meaning : WindowValue → ℕ → WindowValue) (start : Site → AtomValue) (turns : ℕ → List Turn) (hist : ℕ → List Hold) (run : IsRun m meaning start turns hist) where
  pub run_on : (e : ℕ) → IsRunOn m meaning start turns e (hist e)
  run_on e = record { plane = run.plane; played = run.played; history = run.histories e; ends = run.ends e; lower = run.lower e; higher = run.higher e }

  pub past_of : (w : Won) → IsEvent turns w → Past m meaning start w.note.tile (turns w.note.tile) w
  past_of w i = past m meaning start w.note.tile (turns w.note.tile) (run.played w.note.tile) w i

  pub hold_of : (e : ℕ) (x : EventOn m turns e) → IsHoldOf (deeds m turns e) x (x.won.hold e)
  hold_of e x = hold_of_on m meaning start turns e (hist e) (run_on e) x

  pub owner_is : (w : Won) → IsEvent turns w → owner_of m (event_site w.note) ≡ w.note.tile
  owner_is w i = (past_of w i).won.centre.owned

  pub live_centre : (w : Won) → IsEvent turns w → is_live m (event_site w.note) ≡ true
  live_centre w i = (past_of w i).won.centre.live

  pub an_end : (e : ℕ) (x : EventOn m turns e) → IsEnd m x.won.note.tile e
  an_end e x = an_end_on m meaning start turns e (hist e) (run_on e) x

  pub in_edge : (e t : ℕ) (h : Hold) → IsEnd m t e → In h (holds_of m t e (turns t)) → In h (hist e)
  in_edge e t h end i = in_edge_on m meaning start turns e (hist e) (run_on e) t h end i

  pub in_hist : (e : ℕ) (x : EventOn m turns e) → In (x.won.hold e) (hist e)
  in_hist e x = in_hist_on m meaning start turns e (hist e) (run_on e) x

  pub has_hold : (e : ℕ) (x : EventOn m turns e) → HasHold (deeds m turns e) (hist e) x
  has_hold e x = (x.won.hold e, in_hist e x, hold_of e x)

  pub of_events : (e : ℕ) → IsOfEvents (deeds m turns e) (hist e)
  of_events e = of_events_on m meaning start turns e (hist e) (run_on e)
