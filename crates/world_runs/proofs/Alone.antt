-- The events of one tile, one after another.
use Rattle.std.proofs.Common.{ℕ, zero, suc, ◌≡◌, ◌+◌, ◌<◌, ◌≤◌, ◌==◌, ◌&&◌, Bool, true, false, List, [], ◌∷◌, ◌++◌, All, append_assoc, refl, ap, sym, subst, ◌∙◌, arith, inl, length, get_or, take, Result, Ok, Err, fold, max, cond}
use Rattle.std.specs.Prelude.{AllPairs, IsPermutation, Some, count_by, filter, slice_get}
use Rattle.std.specs.List.{enumerate_from}
use Rattle.std.specs.Result.{IfOk}
use Rattle.feast_base.specs.declared.memory.NoMemory.{NoMemory}
use Rattle.std.proofs.lemmas.List.{append-nil, length-map, get_or-map}
use Rattle.std.proofs.Math.ListN.{get_or-eq_default}
use Rattle.std.proofs.lemmas.List.FromFn.{length-enumerate_from, get_or-enumerate_from}
use Rattle.std.proofs.lemmas.List.Elements.{All-cons, All-contains, All-nil, All-tail}
use Rattle.std.proofs.lemmas.List.Sorted.{IsPermutation-refl}
use Rattle.std.proofs.lemmas.List.Sums.{sum_by-cons}
use Rattle.std.proofs.lemmas.Option.{slice_get-get_or}
use Rattle.draw_stream.proofs.Plans.{taken_first, no_attempt}
use Rattle.cell_grid.specs.declared.record.Record.{Record}
use Rattle.cell_grid.specs.Records.{Precedes}
use Rattle.draw_stream.specs.declared.attempt.Attempt.{Attempt}
use Rattle.draw_stream.specs.Plans.{PlanValue, TakesNext, attempts}
use Rattle.event_journal.specs.Accounts.{IsAccounted, IsEventOf, IsStamped, are_linked, events_at, stamp_after}
use Rattle.event_journal.specs.Logs.{AreLogs, RisesTo, IsLog, LogValue, log_of, records_in}
use Rattle.event_journal.proofs.Journals.{journal_of}
use Rattle.event_journal.specs.Serial.{OwesNothing}
use Rattle.tile_map.specs.Plane.{MapValue}
use Rattle.world_runs.specs.OneTile.{IsAlone, event_of, events_from, events_of}

pub length-events : (m : MapValue) (i : ℕ) (list : List Attempt) → length (events_from m i list) ≡ length list
length-events m i list = length-map (enumerate_from i list) (event_of m) ∙ length-enumerate_from i list

pub event_at : (m : MapValue) (i : ℕ) (list : List Attempt) (k : ℕ) (d : Record) → k < length list → get_or (events_from m i list) k d ≡ event_of m (i + k, get_or list k no_attempt)
event_at m i list k d lt =
    let inside : k < length (enumerate_from i list) = omega (arith, lt, length-enumerate_from i list) in
    get_or-map (event_of m) (enumerate_from i list) k (0, no_attempt) d inside ∙ ap (event_of m) (get_or-enumerate_from i list k (0, no_attempt) lt)

-- what holds of each event
pub each : (m : MapValue) (i : ℕ) (list : List Attempt) (P : Record → Type 0) → ((k : ℕ) → k < length list → P (event_of m (i + k, get_or list k no_attempt))) → All P (events_from m i list)
each m i list P f = λ k d lt. let small : k < length list = omega (arith, lt, length-events m i list) in subst P (sym (event_at m i list k d small)) (f k small)

-- and of each two
each_two : (m : MapValue) (i : ℕ) (list : List Attempt) (R : Record → Record → Type 0) → ((j k : ℕ) → j < k → k < length list → R (event_of m (i + j, get_or list j no_attempt)) (event_of m (i + k, get_or list k no_attempt))) →
    AllPairs R (events_from m i list)
each_two m i list R f = λ j k d lt small.
    let inside : k < length list = omega (arith, small, length-events m i list) in
    let first : j < length list = omega (arith, lt, inside) in
    subst (λ (r : Record). R r (get_or (events_from m i list) k d)) (sym (event_at m i list j d first))
    (subst (λ (r : Record). R (event_of m (i + j, get_or list j no_attempt)) r) (sym (event_at m i list k d inside)) (f j k lt inside))

pub log_is : (m : MapValue) (i : ℕ) (list : List Attempt) → IsLog (log_of 0 (events_from m i list) [])
log_is m i list = record {
  records = each m i list (λ (r : Record). r.tile ≡ 0) (λ k lt. refl);
  abandoned = λ k d lt. absurd (omega (arith, lt));
  rising = each_two m i list RisesTo (λ j k lt small. (omega (arith, lt), omega (arith, lt)));
  attempts = λ j k d lt small. absurd (omega (arith, lt, small));
}

-- how often an attempt is among the events of attempts from number j on
one_more : (p : Record → Bool) (r : Record) (rs : List Record) (b : Bool) → p r ≡ b → count_by p (r ∷ rs) ≡ cond b 1 0 + count_by p rs
one_more p r rs b e = sum_by-cons (λ x. cond (p x) 1 0) r rs ∙ ap (λ b. cond b 1 0 + count_by p rs) e

none_before : (m : MapValue) (i j : ℕ) (list : List Attempt) → i < j → events_at 0 i (events_from m j list) ≡ 0
none_before m i j [] lt = refl
none_before m i j (a ∷ list) lt =
    let other : (j == i) ≡ false = grind (arith, lt) in
    let here : events_at 0 i (events_from m j (a ∷ list)) ≡ 0 + events_at 0 i (events_from m (j + 1) list) = one_more (λ (r : Record). r.tile == 0 && r.attempt == i) (event_of m (j, a)) (events_from m (j + 1) list) false other in
    let rest = none_before m i (j + 1) list (omega (arith, lt)) in
    omega (arith, here, rest)

one_at : (m : MapValue) (i j : ℕ) (list : List Attempt) → j ≤ i → i < j + length list → events_at 0 i (events_from m j list) ≡ 1
one_at m i j [] le lt = absurd (omega (arith, le, lt))
one_at m i j (a ∷ list) le lt = go (j == i) refl (λ less. one_at m i (j + 1) list (omega (arith, less)) (omega (arith, lt)))
  where
    same : (j == i) ≡ true → j ≡ i
    same h = grind arith

    not_same : (j == i) ≡ false → j < i
    not_same h = grind (arith, le)

    here : (b : Bool) → (j == i) ≡ b → events_at 0 i (events_from m j (a ∷ list)) ≡ cond b 1 0 + events_at 0 i (events_from m (j + 1) list)
    here b is = one_more (λ (r : Record). r.tile == 0 && r.attempt == i) (event_of m (j, a)) (events_from m (j + 1) list) b is

    go : (b : Bool) → (j == i) ≡ b → (j < i → events_at 0 i (events_from m (j + 1) list) ≡ 1) → events_at 0 i (events_from m j (a ∷ list)) ≡ 1
    go true is rest =
        let none = none_before m i (j + 1) list (let e = same is in omega (arith, e)) in
        let first : events_at 0 i (events_from m j (a ∷ list)) ≡ 1 + events_at 0 i (events_from m (j + 1) list) = here true is in
        omega (arith, first, none)
    go false is rest =
        let one = rest (not_same is) in
        let first : events_at 0 i (events_from m j (a ∷ list)) ≡ 0 + events_at 0 i (events_from m (j + 1) list) = here false is in
        omega (arith, first, one)

-- the attempts of the other tiles
no_more : (plan : PlanValue) (t : ℕ) → length plan.lists ≡ 1 → 1 ≤ t → attempts plan t ≡ []
no_more plan t one some = get_or-eq_default plan.lists [] {n = t} (omega (arith, one, some))

once : (m : MapValue) (plan : PlanValue) → length plan.lists ≡ 1 → (t i : ℕ) → i < length (attempts plan t) → events_at t i (events_of m plan) + 0 ≡ 1
once m plan one zero i lt = let e = one_at m i 0 (attempts plan 0) (omega arith) (omega (arith, lt)) in omega (arith, e)
once m plan one (suc t) i lt = absurd (omega (arith, lt, ap length (no_more plan (suc t) one (omega arith))))

stamp_is : (m : MapValue) (list : List Attempt) → All (λ (r : Record). r.stamp ≡ r.attempt + 1) (events_from m 0 list)
stamp_is m list = each m 0 list (λ (r : Record). r.stamp ≡ r.attempt + 1) (λ k lt. refl)

pub accounted : (m : MapValue) (plan : PlanValue) → IsAlone m plan → IsAccounted m plan (events_of m plan) []
accounted m plan alone = record {
  once = once m plan alone.lists;
  events = each m 0 (attempts plan 0) (IsEventOf m plan) (λ k lt. let at : 0 + k ≡ k = omega arith in (get_or (attempts plan 0) k no_attempt, ap (slice_get (attempts plan 0)) at ∙ slice_get-get_or (attempts plan 0) k no_attempt lt, refl, refl));
  given_up = λ k d lt. absurd (omega (arith, lt));
  order = each_two m 0 (attempts plan 0) Precedes (λ j k lt small. inl (omega (arith, lt)));
  abandoned_order = λ j k d lt small. absurd (omega (arith, lt, small));
  rising = λ r s a b tile lt.
      let f = All-contains (λ (r : Record). r.stamp ≡ r.attempt + 1) (events_of m plan) r (stamp_is m (attempts plan 0)) a in
      let g = All-contains (λ (r : Record). r.stamp ≡ r.attempt + 1) (events_of m plan) s (stamp_is m (attempts plan 0)) b in
      omega (arith, f, g, lt);
}

-- events of one tile are linked
all_linked : (m : MapValue) (p : ℕ × Attempt) (i : ℕ) (list : List Attempt) (k : ℕ) → filter (are_linked m (event_of m p)) (take k (events_from m i list)) ≡ take k (events_from m i list)
all_linked m p i list zero = refl
all_linked m p i [] (suc k) = refl
all_linked m p i (a ∷ list) (suc k) = ap (λ z. event_of m (i, a) ∷ z) (all_linked m p (i + 1) list k)

-- the greatest of the first k stamps
greatest : (m : MapValue) (i : ℕ) (list : List Attempt) (k : ℕ) → k ≤ length list → fold (λ greatest (s : Record). max greatest s.stamp) i (take k (events_from m i list)) ≡ i + k
greatest m i list zero le = omega arith
greatest m i [] (suc k) le = absurd (omega (arith, le))
greatest m i (a ∷ list) (suc k) le =
    let next : max i (i + 1) ≡ i + 1 = omega arith in
    let sum : i + 1 + k ≡ i + suc k = omega arith in
    rw next (greatest m (i + 1) list k (omega (arith, le)) ∙ sum)

stamp_at : (m : MapValue) (list : List Attempt) (k : ℕ) → k < length list → 0 + k + 1 ≡ stamp_after m (take k (events_from m 0 list)) (event_of m (0 + k, get_or list k no_attempt))
unfolding stamp_after
stamp_at m list k lt =
    let linked = all_linked m (0 + k, get_or list k no_attempt) 0 list k in
    let most = greatest m 0 list k (omega (arith, lt)) in
    let value = ap (λ (rs : List Record). 1 + fold (λ greatest (s : Record). max greatest s.stamp) 0 rs) linked ∙ ap (λ n. 1 + n) most in
    let sum : 0 + k + 1 ≡ 1 + (0 + k) = omega arith in
    sum ∙ sym value

pub stamped : (m : MapValue) (list : List Attempt) → IsStamped m (events_from m 0 list)
stamped m list = λ k d lt.
    let small : k < length list = omega (arith, lt, length-events m 0 list) in
    let here = event_at m 0 list k d small in
    subst (λ (r : Record). r.stamp ≡ stamp_after m (take k (events_from m 0 list)) r) (sym here) (stamp_at m list k small)

pub owes_nothing : (m : MapValue) (plan : PlanValue) → IsAlone m plan → OwesNothing m plan (events_of m plan) []
owes_nothing m plan alone = record {
  accounted = accounted m plan alone;
  stamped = stamped m (attempts plan 0);
  excused = λ k d lt. absurd (omega (arith, lt));
}

-- one event more
pub one_event_more : (m : MapValue) (n : ℕ) (old new : List Record) (r : Record) (a : Attempt) (list rest : List Attempt) (all : List Record) → TakesNext list (Some a) rest → r ≡ event_of m (n, a) → new ≡ old ++ r ∷ [] →
    old ++ events_from m n list ≡ all → new ++ events_from m (n + 1) rest ≡ all
one_event_more m n old new r a list rest all taken is grown whole =
    let first = taken_first list rest a taken in
    ap (λ z. z ++ events_from m (n + 1) rest) (grown ∙ ap (λ (r : Record). old ++ r ∷ []) is) ∙ append_assoc old (event_of m (n, a) ∷ []) (events_from m (n + 1) rest) ∙ sym (ap (λ z. old ++ events_from m n z) first) ∙ whole

pub fewer_left : (n most : ℕ) (list rest : List Attempt) (a : Attempt) → TakesNext list (Some a) rest → n + length list ≤ most → n + 1 + length rest ≤ most
fewer_left n most list rest a taken few = omega (arith, few, ap length (taken_first list rest a taken))

pub centres_left : (P : Attempt → Type 0) (list rest : List Attempt) (a : Attempt) → TakesNext list (Some a) rest → All P list → All P rest
centres_left P list rest a taken all = All-tail P a rest (subst (All P) (taken_first list rest a taken) all)

-- the journal of one log has its events
one_log : (rs : List Record) → IsLog (log_of 0 rs []) → AllPairs Precedes rs → length rs ≤ 1000000 → records_in (log_of 0 rs [] ∷ []) ≡ rs
one_log rs log pairs few =
    let ls = log_of 0 rs [] ∷ [] in
    let flat : rs ++ [] ≡ rs = append-nil rs in
    let logs : AreLogs ls = record { tiles = refl; most = omega arith; few = omega (arith, few, ap length flat) } in
    sym ((journal_of ls logs (All-cons IsLog (log_of 0 rs []) [] log (All-nil IsLog))).one rs (subst (λ xs. IsPermutation xs rs) (sym flat) (IsPermutation-refl rs)) pairs)

pub events_log : (m : MapValue) (list : List Attempt) (rs : List Record) → rs ≡ events_from m 0 list → IsLog (log_of 0 rs [])
events_log m list rs is = subst (λ (z : List Record). IsLog (log_of 0 z [])) (sym is) (log_is m 0 list)

pub events_few : (m : MapValue) (list : List Attempt) (rs : List Record) → rs ≡ events_from m 0 list → length list ≤ 1000000 → length rs ≤ 1000000
events_few m list rs is few = omega (arith, few, ap length is, length-events m 0 list)

pub events_in : (m : MapValue) (list : List Attempt) → length list ≤ 1000000 → records_in (log_of 0 (events_from m 0 list) [] ∷ []) ≡ events_from m 0 list
events_in m list few = one_log (events_from m 0 list) (log_is m 0 list) (each_two m 0 list Precedes (λ j k lt small. inl (omega (arith, lt)))) (omega (arith, few, length-events m 0 list))

pub journal_holds : (m : MapValue) (list : List Attempt) (plan : PlanValue) (rs : List Record) (r : Result (List LogValue) NoMemory) → list ≡ attempts plan 0 → rs ≡ events_from m 0 list → length list ≤ 1000000 → IfOk r (λ j. j ≡ log_of 0 rs [] ∷ []) →
    IfOk r (λ j. records_in j ≡ events_of m plan)
journal_holds m list plan rs (Ok j) drawn is few h = ap records_in h ∙ ap (λ (z : List Record). records_in (log_of 0 z [] ∷ [])) is ∙ events_in m list few ∙ ap (events_from m 0) drawn
journal_holds m list plan rs (Err e) drawn is few h = tt
