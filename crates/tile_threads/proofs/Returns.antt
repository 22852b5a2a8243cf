-- The workers of all tiles: ready at the start, done after the run, and home.
use Rattle.std.proofs.Common.{◌≡◌, ℕ, zero, suc, ◌<◌, ◌≤◌, true, List, [], ◌∷◌, length, get_or, refl, sym, ap, ◌∙◌, subst, arith, Some}
use Rattle.std.specs.Prelude.{All, slice_get}
use Rattle.std.proofs.lemmas.List.{length-map, get_or-map}
use Rattle.std.proofs.lemmas.Option.{slice_get-get_or, slice_get_within, get_or_from_slice_get}
use Rattle.bit_field.specs.Atom.{AtomValue}
use Rattle.window_sites.specs.Window.{WindowValue}
use Rattle.tile_map.specs.Plane.{Site, MapValue, tiles_of}
use Rattle.tile_map.specs.Edges.{pairs_of, has_end}
use Rattle.draw_stream.specs.declared.attempt.Attempt.{Attempt}
use Rattle.draw_stream.specs.Plans.{attempts}
use Rattle.edge_lock.specs.EndLists.{EndLists, end_lists, IsFree}
use Rattle.edge_lock.specs.Passes.{EdgeValue, PassValue}
use Rattle.edge_lock.specs.SharedEnds.{SharedEndValue, shared_end, pass_lists, SamePasses, IsPassOf}
use Rattle.border_cache.specs.Windows.{end_at}
use Rattle.tile_core.specs.declared.phase.Phase.{Phase}
use Rattle.tile_core.specs.declared.phase.Phase.TheVariants.{Draw, Lock, Refresh, Behave, Write, Give, Back, Finished, Worn}
use Rattle.tile_core.specs.Values.{TileWith, TileValue, atoms_of}
use Rattle.tile_core.specs.Steps.{is_over}
use Rattle.tile_core.specs.Turns.{common, Turn}
use Rattle.tile_core.specs.Underway.{tile_at, InPhase, IsGiving, IsFreshTile, IsMade}
use Rattle.tile_core.proofs.Boards.{end_known}
use Rattle.serial_order.specs.Scene.{on_map, common_in, HasEnded}
use Rattle.event_journal.specs.Serial.{Course}
use Rattle.tile_threads.specs.declared.worker.Worker.{Worker}
use Rattle.tile_threads.specs.Runs.{worker_value, IsReady, HasWorked, AreReady, HaveWorked, EndsMoved}
use Rattle.border_cache.proofs.Stored.{end_stays}
use Rattle.tile_threads.specs.Passes.{passes_of, let_go, AreEdgesMade}
use Rattle.serial_order.specs.Fresh.{AreFresh}
use Rattle.tile_threads.specs.Whole.{worker_of, workers_of, tiles_in, IsDone, CameHome, HaveComeHome, HaveReturned}
use Rattle.tile_threads.proofs.Lookups.{Found, found_own, own_stand, unused_lists}
use Rattle.tile_threads.proofs.LettingGo.{let_go_free}
use Rattle.tile_threads.proofs.Ended.{ended_back}

-- a fresh tile has no attempt in hand
fresh_between : (m : MapValue) (meaning : WindowValue → ℕ → WindowValue) (t : ℕ) (start : Site → AtomValue) (given : List Attempt) (tile : TileValue) → IsFreshTile m t start given tile → is_over tile.phase ≡ true
fresh_between m meaning t start given tile f =
    let u = f.underway meaning (λ e. end_lists [] []) (λ e own. refl) in go u.turns tile.phase u.hand
  where
    giving_none : (turns : List Turn) (edges : List ℕ) (lists : ℕ → EndLists) → length turns ≡ 0 → IsGiving m turns (tile_at tile lists) edges → ⊥
    giving_none [] edges lists none g = g
    giving_none (x ∷ older) edges lists none g = absurd (omega (arith, none))

    go : (turns : List Turn) (p : Phase) → InPhase (common m meaning start) given turns (tile_at tile (λ e. end_lists [] [])) p → is_over p ≡ true
    go turns Draw h = refl
    go turns Finished h = refl
    go turns Worn h = refl
    go turns Lock h = let k = h.0.taken in let z = f.taken in absurd (omega (arith, k, z))
    go turns Refresh h = let k = h.0.taken in let z = f.taken in absurd (omega (arith, k, z))
    go turns Behave h = let k = h.0.taken in let z = f.taken in absurd (omega (arith, k, z))
    go turns Write h = let k = h.0.taken in let z = f.taken in absurd (omega (arith, k, z))
    go turns Give h = absurd (giving_none turns tile.needs (λ e. end_lists [] []) (sym h.0 ∙ f.taken) h.2)
    go turns Back h = absurd (giving_none turns _ (λ e. end_lists [] []) (sym h.0 ∙ f.taken) h.4)

workers_count : {B : Type 0} (xs : List (TileWith B)) (ps : List (List PassValue)) → length xs ≡ length ps → length (workers_of xs ps) ≡ length xs
workers_count [] ps is = refl
workers_count (x ∷ xs) [] is = absurd (omega (arith, is))
workers_count (x ∷ xs) (p ∷ ps) is = ap (λ n. suc n) (workers_count xs ps (omega (arith, is)))

worker_at : {B : Type 0} (xs : List (TileWith B)) (ps : List (List PassValue)) → length xs ≡ length ps → (t : ℕ) (none : Worker B SharedEndValue) (d : TileWith B) → t < length xs → get_or (workers_of xs ps) t none ≡ worker_of (get_or xs t d) (passes_of ps t)
worker_at [] ps is t none d lt = absurd (omega (arith, lt))
worker_at (x ∷ xs) [] is t none d lt = absurd (omega (arith, is))
worker_at (x ∷ xs) (p ∷ ps) is zero none d lt = refl
worker_at (x ∷ xs) (p ∷ ps) is (suc t) none d lt = worker_at xs ps (omega (arith, is)) t none d (omega (arith, lt))

-- the passes of all tiles stand
pub all_stand : (m : MapValue) (es : List EdgeValue) (ps : List (List PassValue)) → AreEdgesMade m (length (pairs_of m)) es ps → All (All (IsPassOf es)) ps
all_stand m es ps k t d lt =
    let known = k.known in
    let tiles = k.tiles in
    let inside : t < tiles_of m = omega (arith, lt, tiles) in
    subst (All (IsPassOf es)) (same ps t d lt) (own_stand m es k.edges_are t (length (pairs_of m)) (omega (arith, known)) (passes_of ps t) (k.each t inside))
  where
    same : (xs : List (List PassValue)) (t : ℕ) (d : List PassValue) → t < length xs → passes_of xs t ≡ get_or xs t d
    same [] t d lt = absurd (omega (arith, lt))
    same (x ∷ xs) zero d lt = refl
    same (x ∷ xs) (suc t) d lt = same xs t d (omega (arith, lt))

module _ {B : Type 0} (after : B → WindowValue → ℕ → WindowValue) (m : MapValue) (es : List EdgeValue) (ps : List (List PassValue)) (k : AreEdgesMade m (length (pairs_of m)) es ps) (g : Course) (xs : List (TileWith B)) (f : AreFresh after (on_map m g) xs)
  where
    pub same_count : length xs ≡ length ps
    same_count = f.count ∙ sym k.tiles

    abbrev ws : List (Worker B SharedEndValue)
    ws = workers_of xs ps

    ready_one : (t : ℕ) (x : TileWith B) → t < tiles_of m → slice_get xs t ≡ Some x → IsReady m (worker_value after shared_end (worker_of x (passes_of ps t)))
    ready_one t x lt is =
        let fresh = f.fresh t x is in
        let there : (e : ℕ) → has_end m x.core.number e ≡ true → (e < length (pairs_of m)) × (has_end m t e ≡ true) = λ e own. let own_t = ap (λ n. has_end m n e) (sym fresh.number) ∙ own in (end_known m t e lt own_t, own_t) in
        let few : length (pairs_of m) ≤ length es = let known = k.known in omega (arith, known) in
        let look : (e : ℕ) → has_end m x.core.number e ≡ true → Found m es t e (passes_of ps t) = λ e own. found_own m es k.edges_are t (length (pairs_of m)) few (passes_of ps t) (k.each t lt) e (there e own).0 (there e own).1 in
        record {
          map = fresh.map;
          board = record {
            tile_is = refl;
            registers_are = λ e own. (look e own).registers ∙ k.edges_are.registers e (let inside = (there e own).0 in omega (arith, inside, few));
            end_is = λ e own. (look e own).end ∙ ap (λ n. end_at m n e) (sym fresh.number);
          };
          between = fresh_between m g.meaning t (atoms_of g.start) (attempts g.plan t) x.core fresh;
          underway = (atoms_of g.start, attempts g.plan t, fresh.underway (after x.behave) (pass_lists (passes_of ps t)) (λ e own. unused_lists (passes_of ps t) (k.unused t lt) e));
        }

    given_at : (t : ℕ) (none : Worker B SharedEndValue) → t < length xs → slice_get xs t ≡ Some (get_or xs t none.tile)
    given_at t none lt = slice_get-get_or xs t none.tile lt

    pub ready : AreReady after shared_end m ws
    ready t none lt =
        let count = workers_count xs ps same_count in
        let tiles = f.count in
        let inside : t < length xs = omega (arith, lt, count) in
        subst (λ w. IsReady m (worker_value after shared_end w)) (sym (worker_at xs ps same_count t none none.tile inside)) (ready_one t (get_or xs t none.tile) (omega (arith, inside, tiles)) (given_at t none inside))

    module _ (vs : List (Worker B SharedEndValue)) (long : length vs ≡ length ws) (did : HaveWorked after shared_end m ws vs) (moved : EndsMoved SamePasses ws vs) where
      -- the worker of a tile before and after
      record WasRun (t : ℕ) (x : TileWith B) (v : Worker B SharedEndValue) : Type 0 where
        pub is : slice_get xs t ≡ Some x
        pub inside : t < tiles_of m
        pub worked : HasWorked m (worker_value after shared_end (worker_of x (passes_of ps t))) (worker_value after shared_end v)
        pub moved_on : SamePasses (worker_of x (passes_of ps t)).end v.end

      was_run : (t : ℕ) (none : Worker B SharedEndValue) → t < length vs → WasRun t (get_or xs t none.tile) (get_or vs t none)
      was_run t none lt =
          let count = workers_count xs ps same_count in
          let tiles = f.count in
          let inside : t < length xs = omega (arith, lt, long, count) in
          record {
            is = given_at t none inside;
            inside = omega (arith, inside, tiles);
            worked = subst (λ w. HasWorked m (worker_value after shared_end w) (worker_value after shared_end (get_or vs t none))) (worker_at xs ps same_count t none none.tile inside) (did t none (omega (arith, lt, long)));
            moved_on = subst (λ (w : Worker B SharedEndValue). SamePasses w.end (get_or vs t none).end) (worker_at xs ps same_count t none none.tile inside) (moved t none (omega (arith, lt, long)));
          }

      pub all_done : All (λ (w : Worker B SharedEndValue). IsDone m w.tile.core (shared_end w.end)) vs
      all_done t none lt =
          let v = get_or vs t none in
          let x = get_or xs t none.tile in
          let r = was_run t none lt in
          let w = r.worked in
          let ready = ready_one t x r.inside r.is in
          record {
            map = w.map ∙ ready.map;
            board = end_stays m x.core.number v.tile.core.number (shared_end (worker_of x (passes_of ps t)).end) (shared_end v.end) w.number w.same ready.board;
            stopped = w.stopped;
            underway = (after x.behave, (ready.underway.0, ready.underway.1, w.far ready.underway.0 ready.underway.1 ready.underway.2));
          }

      module _ (qs : List (List PassValue)) (home : HaveComeHome m vs qs) where
        record IsHome (t : ℕ) (x : TileWith B) (v : Worker B SharedEndValue) : Type 0 where
          pub run : WasRun t x v
          pub number : v.tile.core.number ≡ t
          pub came : CameHome m t v.end.passes (passes_of qs t)

        is_home : (t : ℕ) (none : Worker B SharedEndValue) → t < length vs → IsHome t (get_or xs t none.tile) (get_or vs t none)
        is_home t none lt =
            let r = was_run t none lt in
            let number = r.worked.number ∙ (f.fresh t (get_or xs t none.tile) r.is).number in
            record { run = r; number = number; came = subst (λ n. CameHome m n (get_or vs t none).end.passes (passes_of qs t)) number (home.each t none lt) }

        ended_one : (t : ℕ) (x : TileWith B) (v : Worker B SharedEndValue) → IsHome t x v → HasEnded (common_in (on_map m g)) (attempts g.plan t) (pass_lists (passes_of qs t)) v.tile.core
        ended_one t x v h =
            let w = h.run.worked in
            let ready = ready_one t x h.run.inside h.run.is in
            let fresh = f.fresh t x h.run.is in
            let u = fresh.underway (after x.behave) (pass_lists (passes_of ps t)) (λ e own. unused_lists (passes_of ps t) (k.unused t h.run.inside) e) in
            let e = w.ends (atoms_of g.start) (attempts g.plan t) u in
            let ended = subst (λ mean. HasEnded (common m mean (atoms_of g.start)) (attempts g.plan t) (pass_lists v.end.passes) v.tile.core) (f.meanings t x h.run.is) e in
            ended_back m g.meaning (atoms_of g.start) (attempts g.plan t) (pass_lists v.end.passes) (pass_lists (passes_of qs t)) v.tile.core (subst (λ n. (d : ℕ) → has_end m n d ≡ true → pass_lists (passes_of qs t) d ≡ let_go (pass_lists v.end.passes d)) (sym h.number) h.came.lists_are) ended w.stopped

        count_all : length vs ≡ tiles_of m
        count_all = long ∙ (workers_count xs ps same_count ∙ f.count)

        -- the worker of a tile that came home
        abbrev blank : TileWith B → Worker B SharedEndValue
        blank x = worker_of x []

        taken_from : (t : ℕ) (x : TileWith B) → slice_get (tiles_in vs) t ≡ Some x → (t < length vs) × (x ≡ (get_or vs t (blank x)).tile)
        taken_from t x is =
            let lt = slice_get_within (tiles_in vs) t x is in
            let long_tiles = length-map vs (λ (w : Worker B SharedEndValue). w.tile) in
            let inside : t < length vs = omega (arith, lt, long_tiles) in
            (inside, sym (get_or_from_slice_get (tiles_in vs) t x x is) ∙ get_or-map (λ (w : Worker B SharedEndValue). w.tile) vs t (blank x) x inside)

        home_at : (t : ℕ) → t < tiles_of m → (none : Worker B SharedEndValue) → IsHome t (get_or xs t none.tile) (get_or vs t none)
        home_at t lt none = is_home t none (omega (arith, lt, count_all))

        some_tile : (t : ℕ) → t < tiles_of m → TileWith B
        some_tile t lt = first vs (omega (arith, lt, count_all))
          where
            first : (us : List (Worker B SharedEndValue)) → 0 < length us → TileWith B
            first [] l = absurd (omega (arith, l))
            first (w ∷ us) l = w.tile

        pub returned : HaveReturned (on_map m g) es (tiles_in vs) qs
        returned = record {
          count = length-map vs (λ (w : Worker B SharedEndValue). w.tile) ∙ count_all;
          numbers = λ t x is. let q = taken_from t x is in ap (λ (y : TileWith B). y.core.number) q.1 ∙ (is_home t (blank x) q.0).number;
          made = λ t x lt.
              let inside : t < length vs = let l = length-map vs (λ (w : Worker B SharedEndValue). w.tile) in omega (arith, lt, l) in
              let h = is_home t (blank x) inside in
              let y = get_or xs t x in
              let ready = ready_one t y h.run.inside h.run.is in
              let v = get_or vs t (blank x) in
              subst (λ (z : TileWith B). IsMade m z.core) (sym (get_or-map (λ (w : Worker B SharedEndValue). w.tile) vs t (blank x) x inside))
              (after y.behave, pass_lists v.end.passes, (ready.underway.0, ready.underway.1, h.run.worked.far ready.underway.0 ready.underway.1 ready.underway.2));
          ended = λ t x is.
              let q = taken_from t x is in
              subst (λ (z : TileWith B). HasEnded (common_in (on_map m g)) (attempts g.plan t) (pass_lists (passes_of qs t)) z.core) (sym q.1) (ended_one t (get_or xs t x) (get_or vs t (blank x)) (is_home t (blank x) q.0));
          left = record {
            whole = omega arith;
            known = k.known;
            edges_are = k.edges_are;
            free = λ t e lt own. let h = home_at t lt (blank (some_tile t lt)) in subst IsFree (sym (h.came.lists_are e own)) (let_go_free (pass_lists (get_or vs t (blank (some_tile t lt))).end.passes e));
            tiles = home.count ∙ count_all;
            each = λ t lt. let h = home_at t lt (blank (some_tile t lt)) in h.came.same ∙ (h.run.moved_on.passes ∙ k.each t lt);
            lists_are = λ t e lt le own. refl;
          };
        }
