-- The journal of tiles that are over: its entries are the tiles' turns, it is accounted, and no tile is worn out.
use Rattle.std.proofs.Common.{ℕ, zero, suc, ◌≡◌, ◌≢◌, ◌≤◌, ◌<◌, ◌+◌, List, [], ◌∷◌, ◌++◌, refl, sym, ap, subst, arith, inl, inr, Bool, true, false, Option, Some, None, ◌∙◌, ◌==◌, ◌&&◌, length, map, All, cond}
use Rattle.std.specs.Prelude.{slice_get, slice_index_or, nat_lt, flat_map, sum_by, IsPermutation, if◌then◌else◌}
use Rattle.std.specs.List.{range_with_len}
use Rattle.std.proofs.lemmas.Bool.Decides.{nat_tests}
use Rattle.std.proofs.lemmas.List.{length-append}
use Rattle.std.proofs.lemmas.List.Sums.{sum_by-append, sum_by-cons}
use Rattle.std.proofs.lemmas.List.Sorted.{Contains-permutation, IsPermutation-sym, sum_by-IsPermutation}
use Rattle.std.proofs.lemmas.List.Elements.{All-map}
use Rattle.list_laws.proofs.Counts.{count_none}
use Rattle.cell_grid.specs.declared.record.Record.{Record}
use Rattle.cell_grid.specs.Records.{Precedes}
use Rattle.draw_stream.specs.declared.attempt.Attempt.{Attempt}
use Rattle.draw_stream.specs.Plans.{attempts}
use Rattle.list_laws.proofs.Members.{In, InOrder, in_map, map_in, in_flat, flat_in, place_in, pairs_order, contains_in, in_contains, in_all}
use Rattle.event_journal.specs.declared.abandoned.Abandoned.{Abandoned}
use Rattle.event_journal.specs.Logs as logs
use Rattle.event_journal.specs.Logs.{LogValue, IsLog, AreLogs, IsJournal, tile_of, log_of, records_in}
use Rattle.event_journal.specs.Accounts.{IsAccounted, IsEventOf, IsGivenUpOf, events_at, abandoned_at}
use Rattle.event_journal.proofs.Journals.{journal_of, length-records_in}
use Rattle.tile_core.specs.declared.phase.Phase.{Phase}
use Rattle.tile_core.specs.declared.phase.Phase.TheVariants.{Draw, Lock, Refresh, Behave, Write, Give, Back, Finished, Worn}
use Rattle.tile_core.specs.Values.{atoms_of, TileValue}
use Rattle.tile_core.specs.Turns.{Won, Lost, Worn as WornTurn, Turn, Wins, Loses, Wears, records_in_turns, abandoned_in_turns}
use Rattle.serial_order.specs.Scene.{Scene, IsOver, log_of_tile, logs_of, IsStopped, WearsLast, lists_at}
use Rattle.serial_order.specs.Order.{records, abandoned, NoneIsWorn}
use Rattle.serial_order.proofs.Lists.{past_end, none_past}
use Rattle.serial_order.proofs.Tile.{Played, are_played}
use Rattle.serial_order.proofs.TileLog as log
use Rattle.serial_order.proofs.Replay.{IsJournal as IsEvents, notes}
use Rattle.serial_order.proofs.Entries.{AreEntries, journal}
use Rattle.serial_order.proofs.NoneWorn.{none_worn}
use Rattle.serial_order.proofs.Whole.{IsTold, turns, tile_told, tile_of as tile_with, each, hist, run}

pub in_permutation : {A : Type 0} (xs ys : List A) (x : A) → IsPermutation xs ys → In x xs → In x ys
in_permutation xs ys x p i = contains_in ys x (Contains-permutation xs ys x p (in_contains xs x i))

-- each entry with its number
numbered : {X : Type 0} (f : X → ℕ) (xs : List X) (a : ℕ) → ((k : ℕ) (x : X) → slice_get xs k ≡ Some x → f x ≡ a + k) → map f xs ≡ range_with_len a (length xs)
numbered f [] a h = refl
numbered f (x ∷ xs) a h = let first : f x ≡ a = h 0 x refl ∙ omega arith in λ i. first i ∷ numbered f xs (a + 1) (λ k y e. h (suc k) y e ∙ omega arith) i

map_map : {X Y Z : Type 0} (g : Y → Z) (f : X → Y) (xs : List X) → map g (map f xs) ≡ map (λ x. g (f x)) xs
map_map g f [] = refl
map_map g f (x ∷ xs) = ap (λ ys. g (f x) ∷ ys) (map_map g f xs)

length_map : {X Y : Type 0} (f : X → Y) (xs : List X) → length (map f xs) ≡ length xs
length_map f [] = refl
length_map f (x ∷ xs) = ap suc (length_map f xs)

flat_map_map : {X Y Z : Type 0} (g : Y → List Z) (f : X → Y) (xs : List X) → flat_map g (map f xs) ≡ flat_map (λ x. g (f x)) xs
flat_map_map g f [] = refl
flat_map_map g f (x ∷ xs) = ap (λ ys. g (f x) ++ ys) (flat_map_map g f xs)

in_slice : {X : Type 0} (xs : List X) (k : ℕ) (x : X) → slice_get xs k ≡ Some x → In x xs
in_slice [] k x e = absurd (cc (e))
in_slice (y ∷ xs) zero x e = inl (cc (e))
in_slice (y ∷ xs) (suc k) x e = inr (in_slice xs k x e)

-- of all lists one alone counts
module _ {X A : Type 0} (c : List A → ℕ) (nil : c [] ≡ 0) (adds : (xs ys : List A) → c (xs ++ ys) ≡ c xs + c ys) (f : X → List A) where
  all_none : (xs : List X) → ((k : ℕ) (x : X) → slice_get xs k ≡ Some x → c (f x) ≡ 0) → c (flat_map f xs) ≡ 0
  all_none [] none = nil
  all_none (x ∷ xs) none = let p = adds (f x) (flat_map f xs) in let q = none 0 x refl in let r = all_none xs (λ k y e. none (suc k) y e) in omega (arith, p, q, r)

  counts_one : (xs : List X) (t : ℕ) (x : X) → slice_get xs t ≡ Some x → ((k : ℕ) (y : X) → k ≢ t → slice_get xs k ≡ Some y → c (f y) ≡ 0) → c (flat_map f xs) ≡ c (f x)
  counts_one [] t x e none = absurd (cc (e))
  counts_one (y ∷ xs) zero x e none =
      let same : y ≡ x = cc (e) in
      let p = adds (f y) (flat_map f xs) in
      let q = all_none xs (λ k z h. none (suc k) z (λ r. absurd (omega (arith, r))) h) in
      let r = ap (λ z. c (f z)) same in
      omega (arith, p, q, r)
  counts_one (y ∷ xs) (suc t) x e none =
      let p = adds (f y) (flat_map f xs) in
      let q = none 0 y (λ r. absurd (omega (arith, r))) refl in
      let r = counts_one xs t x e (λ k z ne h. none (suc k) z (λ w. ne (omega (arith, w))) h) in
      omega (arith, p, q, r)

-- the lists of the tiles have no more entries than their attempts
total_few : (ts : List TileValue) (ls : List (List Attempt)) → length ts ≡ length ls → ((k : ℕ) (tile : TileValue) (l : List Attempt) → slice_get ts k ≡ Some tile → slice_get ls k ≡ Some l → length tile.records + length tile.abandoned ≤ length l)
    → length (flat_map (λ (t : TileValue). t.records) ts) + length (flat_map (λ (t : TileValue). t.abandoned) ts) ≤ sum_by length ls
total_few [] ls e h = omega arith
total_few (t ∷ ts) [] e h = absurd (omega (arith, e))
total_few (t ∷ ts) (l ∷ ls) e h =
    let a = total_few ts ls (omega (arith, e)) (λ k tile m p q. h (suc k) tile m p q) in
    let b = h 0 t l refl refl in
    let c = length-append t.records (flat_map (λ (u : TileValue). u.records) ts) in
    let d = length-append t.abandoned (flat_map (λ (u : TileValue). u.abandoned) ts) in
    let f = sum_by-cons length l ls in
    omega (arith, a, b, c, d, f)

wears_in : (xs : List Turn) → WearsLast xs → (x : WornTurn) × In (Wears x) xs
wears_in [] e = absurd e
wears_in (Wins w ∷ xs) e = absurd e
wears_in (Loses w ∷ xs) e = absurd e
wears_in (Wears w ∷ xs) e = (w, inl refl)

not_other : (t i : ℕ) (a b : ℕ) → a ≢ t → (a == t && b == i) ≡ false
not_other t i a b ne = go (a == t) refl
  where
    go : (c : Bool) → (a == t) ≡ c → (c && b == i) ≡ false
    go true is = absurd (ne (grind (arith, nat_tests, is)))
    go false is = refl

module _ (s : Scene) (o : IsOver s) where
  abbrev pub ts : ℕ → List Turn
  ts = turns s o

  pub played : (t : ℕ) → Played s.map s.meaning (atoms_of s.start) t (turns s o t)
  played t = are_played s.map s.meaning (atoms_of s.start) t (turns s o t) (each s o t)

  few_entries : (t : ℕ) (tile : TileValue) → slice_get s.tiles t ≡ Some tile → length tile.records + length tile.abandoned ≤ length (attempts s.plan t)
  few_entries t tile is = let r = tile_told s o t tile is in omega (arith, log.entries_few (turns s o t), r.count, ap length r.records, ap length r.abandoned)

  plan_list : (t : ℕ) (l : List Attempt) → slice_get s.plan.lists t ≡ Some l → attempts s.plan t ≡ l
  plan_list t l e = from s.plan.lists t l [] e
    where
      from : (xs : List (List Attempt)) (k : ℕ) (x d : List Attempt) → slice_get xs k ≡ Some x → slice_index_or xs k d ≡ x
      from [] k x d e = absurd (cc (e))
      from (y ∷ xs) zero x d e = cc (e)
      from (y ∷ xs) (suc k) x d e = from xs k x d e

  pub are_logs : AreLogs (logs_of s.tiles)
  are_logs = record {
    tiles = map_map tile_of log_of_tile s.tiles ∙ (numbered (λ (t : TileValue). t.number) s.tiles 0 (λ k tile e. o.numbers k tile e ∙ omega arith) ∙ ap (range_with_len 0) (sym (length_map log_of_tile s.tiles)));
    most = omega (arith, length_map log_of_tile s.tiles, o.count, o.lists, o.plan.most);
    few =
        let a = total_few s.tiles s.plan.lists (o.count ∙ sym o.lists) (λ k tile l p q. omega (arith, few_entries k tile p, ap length (plan_list k l q))) in
        let b = ap length (flat_map_map logs.records_of log_of_tile s.tiles) in
        let c = ap length (flat_map_map logs.abandoned_of log_of_tile s.tiles) in
        omega (arith, a, b, c, o.plan.few);
  }

  tile_log : (tile : TileValue) → In tile s.tiles → IsLog (log_of_tile tile)
  tile_log tile i =
      let p = place_in s.tiles tile i in
      let r = tile_told s o p.0 tile p.1 in
      subst IsLog (λ j. log_of (sym (o.numbers p.0 tile p.1) j) (sym r.records j) (sym r.abandoned j)) (log.is_log s.map s.meaning (atoms_of s.start) p.0 (turns s o p.0) (played p.0))

  pub all_logs : All IsLog (logs_of s.tiles)
  all_logs = All-map IsLog log_of_tile s.tiles (in_all (λ tile. IsLog (log_of_tile tile)) s.tiles tile_log)

  pub is_journal : IsJournal (logs_of s.tiles)
  is_journal = journal_of (logs_of s.tiles) are_logs all_logs

  -- an entry of the tiles' logs is of a turn
  pub record_of : (n : Record) → In n (records s) → (w : Won) × In (Wins w) (turns s o n.tile) × (n ≡ w.note)
  record_of n i =
      let j = in_permutation (records s) (flat_map logs.records_of (logs_of s.tiles)) n (IsPermutation-sym _ (records s) is_journal.records) i in
      let l = flat_in logs.records_of (logs_of s.tiles) n j in
      let t = map_in log_of_tile s.tiles l.0 l.1 in
      let p = place_in s.tiles t.0 t.1 in
      let told = tile_told s o p.0 t.0 p.1 in
      let k : In n (records_in_turns (turns s o p.0)) = subst (In n) told.records (subst (λ (q : LogValue). In n q.records) t.2 l.2) in
      let r = log.in_records n (turns s o p.0) k in
      let own = log.own_record s.map s.meaning (atoms_of s.start) p.0 (turns s o p.0) (played p.0) n k in
      (r.0, subst (λ u. In (Wins r.0) (turns s o u)) (sym own) r.1, r.2)

  pub of_record : (t : ℕ) (w : Won) → In (Wins w) (turns s o t) → In w.note (records s)
  of_record t w i =
      let p = tile_with s o t (Wins w) i in
      let told = tile_told s o t p.0 p.1 in
      let k : In w.note p.0.records = subst (In w.note) (sym told.records) (log.records_in w (turns s o t) i) in
      in_permutation (flat_map logs.records_of (logs_of s.tiles)) (records s) w.note is_journal.records (in_flat logs.records_of (logs_of s.tiles) (log_of_tile p.0) w.note (in_map log_of_tile s.tiles p.0 (in_slice s.tiles t p.0 p.1)) k)

  pub abandoned_of_turn : (g : Abandoned) → In g (abandoned s) → (l : Lost) × In (Loses l) (turns s o g.tile) × (g ≡ l.gone)
  abandoned_of_turn g i =
      let l = flat_in logs.abandoned_of (logs_of s.tiles) g i in
      let t = map_in log_of_tile s.tiles l.0 l.1 in
      let p = place_in s.tiles t.0 t.1 in
      let told = tile_told s o p.0 t.0 p.1 in
      let k : In g (abandoned_in_turns (turns s o p.0)) = subst (In g) told.abandoned (subst (λ (q : LogValue). In g q.abandoned) t.2 l.2) in
      let r = log.in_abandoned g (turns s o p.0) k in
      let own = log.own_gone s.map s.meaning (atoms_of s.start) p.0 (turns s o p.0) (played p.0) g k in
      (r.0, subst (λ u. In (Loses r.0) (turns s o u)) (sym own) r.1, r.2)

  pub turn_abandoned : (t : ℕ) (l : Lost) → In (Loses l) (turns s o t) → In l.gone (abandoned s)
  turn_abandoned t l i =
      let p = tile_with s o t (Loses l) i in
      let told = tile_told s o t p.0 p.1 in
      let k : In l.gone p.0.abandoned = subst (In l.gone) (sym told.abandoned) (log.abandoned_in l (turns s o t) i) in
      in_flat logs.abandoned_of (logs_of s.tiles) (log_of_tile p.0) l.gone (in_map log_of_tile s.tiles p.0 (in_slice s.tiles t p.0 p.1)) k

  pub ordered : InOrder Precedes (records s)
  ordered = pairs_order Precedes (records s) is_journal.order

  are : AreEntries (turns s o) (records s)
  are = record {
    events = λ n i. let r = record_of n i in (r.0, subst (λ u. In (Wins r.0) (turns s o u)) (ap (λ (k : Record). k.tile) r.2) r.1, r.2);
    all = λ w i. of_record w.note.tile w i;
  }

  -- the events of the records
  pub events : (ws : List Won) × (notes ws ≡ records s) × IsEvents (turns s o) ws
  events = journal s.map s.meaning (atoms_of s.start) (turns s o) (hist s o) (run s o) (records s) are

  short : length (records s) ≤ 1000000
  short = omega (arith, length-records_in (logs_of s.tiles), are_logs.few)

  pub unworn : (t : ℕ) (x : WornTurn) → In (Wears x) (turns s o t) → ⊥
  unworn t x i = none_worn s.map s.meaning (atoms_of s.start) (turns s o) (hist s o) (run s o) events.0 events.2 (subst (InOrder Precedes) (sym events.1) ordered) (let e = ap length events.1 in omega (arith, e, short)) t x i

  pub finished : (t : ℕ) (tile : TileValue) → slice_get s.tiles t ≡ Some tile → (tile.phase ≡ Finished) × (length (attempts s.plan t) ≡ length (turns s o t))
  finished t tile is = go tile.phase refl
    where
      told : IsTold s.map s.meaning (atoms_of s.start) (attempts s.plan t) (lists_at s.map s.edges t) t tile (turns s o t)
      told = tile_told s o t tile is

      by : (p : Phase) → tile.phase ≡ p → IsStopped p told.rest (turns s o t) → (tile.phase ≡ Finished) × (length (attempts s.plan t) ≡ length (turns s o t))
      by Draw e h = absurd h
      by Lock e h = absurd h
      by Refresh e h = absurd h
      by Behave e h = absurd h
      by Write e h = absurd h
      by Give e h = absurd h
      by Back e h = absurd h
      by Finished e h = (e, omega (arith, told.count, ap length h.0))
      by Worn e h = let r = wears_in (turns s o t) h in absurd (unworn t r.0 r.1)

      go : (p : Phase) → tile.phase ≡ p → (tile.phase ≡ Finished) × (length (attempts s.plan t) ≡ length (turns s o t))
      go p e = by p e (subst (λ q. IsStopped q told.rest (turns s o t)) e told.ends)

  pub none_is_worn : NoneIsWorn s
  none_is_worn t tile is = (finished t tile is).0

  -- the entry of each attempt
  each_once : (t i : ℕ) → i < length (attempts s.plan t) → events_at t i (records s) + abandoned_at t i (abandoned s) ≡ 1
  each_once t i lt =
      let p = there in
      let told = tile_told s o t p.0 p.1 in
      let a = sum_by-IsPermutation (λ (r : Record). cond ((r.tile == t) && (r.attempt == i)) 1 0) (flat_map logs.records_of (logs_of s.tiles)) (records s) is_journal.records in
      let a' = ap (events_at t i) (flat_map_map logs.records_of log_of_tile s.tiles) in
      let b = counts_one (events_at t i) refl (λ xs ys. sum_by-append (λ (r : Record). cond ((r.tile == t) && (r.attempt == i)) 1 0) xs ys) (λ (u : TileValue). u.records) s.tiles t p.0 p.1 other_records in
      let c' = ap (abandoned_at t i) (flat_map_map logs.abandoned_of log_of_tile s.tiles) in
      let c = counts_one (abandoned_at t i) refl (λ xs ys. sum_by-append (λ (r : Abandoned). cond ((r.tile == t) && (r.attempt == i)) 1 0) xs ys) (λ (u : TileValue). u.abandoned) s.tiles t p.0 p.1 other_abandoned in
      let d = log.once s.map s.meaning (atoms_of s.start) t i (turns s o t) (played t) (λ x j. unworn t x j) in
      let e = yes (omega (arith, (finished t p.0 p.1).1, lt)) in
      let f = ap (events_at t i) told.records in
      let g = ap (abandoned_at t i) told.abandoned in
      omega (arith, a, a', b, c, c', d, e, f, g)
    where
      there : (tile : TileValue) × (slice_get s.tiles t ≡ Some tile)
      there = go (slice_get s.tiles t) refl
        where
          go : (p : Option TileValue) → slice_get s.tiles t ≡ p → (tile : TileValue) × (slice_get s.tiles t ≡ Some tile)
          go (Some tile) is = (tile, is)
          go None is = absurd (let z = ap length (past_end s.plan.lists t [] (omega (arith, none_past s.tiles t is, o.count, o.lists))) in omega (arith, z, lt))

      other_records : (k : ℕ) (u : TileValue) → k ≢ t → slice_get s.tiles k ≡ Some u → events_at t i u.records ≡ 0
      other_records k u ne is = count_none (λ (r : Record). (r.tile == t) && (r.attempt == i)) u.records (λ n j. not_other t i n.tile n.attempt (λ e. ne (sym (log.own_record s.map s.meaning (atoms_of s.start) k (turns s o k) (played k) n (subst (In n) (tile_told s o k u is).records j)) ∙ e)))

      other_abandoned : (k : ℕ) (u : TileValue) → k ≢ t → slice_get s.tiles k ≡ Some u → abandoned_at t i u.abandoned ≡ 0
      other_abandoned k u ne is = count_none (λ (g : Abandoned). (g.tile == t) && (g.attempt == i)) u.abandoned (λ n j. not_other t i n.tile n.attempt (λ e. ne (sym (log.own_gone s.map s.meaning (atoms_of s.start) k (turns s o k) (played k) n (subst (In n) (tile_told s o k u is).abandoned j)) ∙ e)))

      yes : i < length (turns s o t) → ◌≡◌ {A = ℕ} (if nat_lt i (length (turns s o t)) then 1 else 0) 1
      yes h = let q : nat_lt i (length (turns s o t)) ≡ true = grind (arith, nat_tests, h) in rw q refl

  pub accounted : IsAccounted s.map s.plan (records s) (abandoned s)
  accounted = record {
    once = each_once;
    events = in_all (IsEventOf s.map s.plan) (records s) (λ n i.
        let r = record_of n i in
        let p = tile_with s o n.tile (Wins r.0) r.1 in
        subst (IsEventOf s.map s.plan) (sym r.2) (
        let a = log.won_attempt s.map s.meaning (atoms_of s.start) n.tile (attempts s.plan n.tile) (turns s o n.tile) (played n.tile) (tile_told s o n.tile p.0 p.1).made r.0 r.1 in
        let t : n.tile ≡ r.0.note.tile = ap (λ (k : Record). k.tile) r.2 in
        (a.attempt, ap (λ u. slice_get (attempts s.plan u) r.0.note.attempt) (sym t) ∙ a.is, a.site_is ∙ ap (λ u. Rattle.tile_map.specs.Plane.site_in s.map u a.attempt.centre) t, a.seed_is)));
    given_up = in_all (IsGivenUpOf s.map s.plan) (abandoned s) (λ g i.
        let r = abandoned_of_turn g i in
        let p = tile_with s o g.tile (Loses r.0) r.1 in
        subst (IsGivenUpOf s.map s.plan) (sym r.2) (
        let a = (log.lost_attempt s.map s.meaning (atoms_of s.start) g.tile (attempts s.plan g.tile) (turns s o g.tile) (played g.tile) (tile_told s o g.tile p.0 p.1).made r.0 r.1).1 in
        let t : g.tile ≡ r.0.gone.tile = ap (λ (k : Abandoned). k.tile) r.2 in
        (a.attempt, ap (λ u. slice_get (attempts s.plan u) r.0.gone.attempt) (sym t) ∙ a.is, a.site_is ∙ ap (λ u. Rattle.tile_map.specs.Plane.site_in s.map u a.attempt.centre) t)));
    order = is_journal.order;
    abandoned_order = is_journal.abandoned;
    rising = λ n k i j e lt.
        let a = record_of n (contains_in (records s) n i) in
        let b = record_of k (contains_in (records s) k j) in
        let r = log.later_greater s.map s.meaning (atoms_of s.start) n.tile (turns s o n.tile) (played n.tile) a.0 b.0 a.1 (subst (λ u. In (Wins b.0) (turns s o u)) (sym e) b.1) (omega (arith, lt, ap (λ (q : Record). q.attempt) a.2, ap (λ (q : Record). q.attempt) b.2)) in
        omega (arith, r, ap (λ (q : Record). q.stamp) a.2, ap (λ (q : Record). q.stamp) b.2);
  }
