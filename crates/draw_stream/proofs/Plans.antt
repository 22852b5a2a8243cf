-- How many attempts a plan has, and which.
use Rattle.std.proofs.Common.{ℕ, zero, suc, ◌≡◌, ◌+◌, ◌*◌, ◌<◌, ◌≤◌, Bool, true, false, List, [], ◌∷◌, ◌++◌, sym, ap, ◌∙◌, arith, map, take, get_or, length, Some}
use Rattle.std.specs.Prelude.{not, filter, if◌then◌else◌, sum_by, slice_index_or}
use Rattle.std.proofs.lemmas.List.{take_all, take_more, length-append}
use Rattle.std.proofs.lemmas.List.Elements.{filter-append}
use Rattle.std.specs.List.{range_with_len}
use Rattle.std.proofs.lemmas.List.FromFn.{length-map-range_with_len, get_or-map-range_with_len, sum_by-map-range_with_len_more}
use Rattle.std.proofs.lemmas.List.Sums.{get_or-le-sum_by}
use Rattle.draw_stream.specs.declared.attempt.Attempt.{Attempt}
use Rattle.draw_stream.specs.Words.{tile_state}
use Rattle.draw_stream.specs.Attempts.{attempt_at, stream_seed, seeded_attempts, next_attempts}
use Rattle.draw_stream.specs.Plans.{PlanValue, IsPlan, attempts, tiles_on, count_of, seeded, seeded_lists, TakesNext}
use Rattle.draw_stream.proofs.Places.{next_attempts-at}

pub length_seeded_attempts : (seed count sites tile : ℕ) → length (seeded_attempts seed count sites tile) ≡ count
unfolding seeded_attempts
length_seeded_attempts seed count sites tile = length-map-range_with_len (attempt_at (stream_seed seed tile) sites) 0 count

-- attempt i of a tile
pub seeded_attempts_at : (seed count sites tile i : ℕ) (d : Attempt) → i < count → slice_index_or (seeded_attempts seed count sites tile) i d ≡ attempt_at (stream_seed seed tile) sites i
unfolding seeded_attempts
seeded_attempts_at seed count sites tile i d h = get_or-map-range_with_len (attempt_at (stream_seed seed tile) sites) 0 count i i d h (omega arith)

-- what a fresh generator gives
pub seeded_attempts_drawn : (seed count sites tile : ℕ) → next_attempts (tile_state (stream_seed seed tile) 0) sites count ≡ seeded_attempts seed count sites tile
unfolding seeded_attempts
seeded_attempts_drawn seed count sites tile = next_attempts-at (stream_seed seed tile) sites 0 count

pub length_seeded_lists : (seed count : ℕ) (off : List Bool) (sites : ℕ) → length (seeded_lists seed count off sites) ≡ length off
unfolding seeded_lists
length_seeded_lists seed count off sites = length-map-range_with_len (λ tile. seeded_attempts seed (count_of count off tile) sites tile) 0 (length off)

pub seeded_lists_at : (seed count : ℕ) (off : List Bool) (sites tile : ℕ) → tile < length off → attempts (seeded seed count off sites) tile ≡ seeded_attempts seed (count_of count off tile) sites tile
unfolding seeded_lists
seeded_lists_at seed count off sites tile h = get_or-map-range_with_len (λ tile. seeded_attempts seed (count_of count off tile) sites tile) 0 (length off) tile tile [] h (omega arith)

-- one tile more
count_more : (count n : ℕ) (off : List Bool) → n < length off → count * tiles_on (take (n + 1) off) ≡ count * tiles_on (take n off) + count_of count off n
count_more count n off lt =
    let whole : take (n + 1) off ≡ take n off ++ get_or off n true ∷ [] = take_more off n true lt in
    let split = filter-append not (take n off) (get_or off n true ∷ []) in
    let long = length-append (filter not (take n off)) (filter not (get_or off n true ∷ [])) in
    ap (λ l. count * tiles_on l) whole ∙ ap (λ l. count * length l) split ∙ ap (λ k. count * k) long ∙ one (get_or off n true) (tiles_on (take n off))
  where
    one : (b : Bool) (k : ℕ) → count * (k + length (filter not (b ∷ []))) ≡ count * k + (if b then 0 else count)
    one true k = omega arith
    one false k = omega arith

sum-drawn : (seed count sites n : ℕ) (off : List Bool) → n ≤ length off → sum_by length (map (λ tile. seeded_attempts seed (count_of count off tile) sites tile) (range_with_len 0 n)) ≡ count * tiles_on (take n off)
sum-drawn seed count sites zero off le = omega arith
sum-drawn seed count sites (suc n) off le =
    let e : suc n ≡ n + 1 = omega arith in
    let f : ℕ → List Attempt = λ tile. seeded_attempts seed (count_of count off tile) sites tile in
    let more = sum_by-map-range_with_len_more length f 0 n n (omega arith) in
    let all : ℕ → ℕ = λ k. sum_by length (map f (range_with_len 0 k)) in
    let before = sum-drawn seed count sites n off (omega (arith, le)) in
    let here : length (f n) ≡ count_of count off n = length_seeded_attempts seed (count_of count off n) sites n in
    ap all e ∙ more ∙ (λ i. before i + here i) ∙ sym (count_more count n off (omega (arith, le))) ∙ ap (λ k. count * tiles_on (take k off)) (sym e)

pub sum_seeded_lists : (seed count : ℕ) (off : List Bool) (sites : ℕ) → sum_by length (seeded_lists seed count off sites) ≡ count * tiles_on off
unfolding seeded_lists
sum_seeded_lists seed count off sites = sum-drawn seed count sites (length off) off (omega arith) ∙ ap (λ l. count * tiles_on l) (take_all (length off) off (omega arith))

-- a seeded plan within its bounds is a plan
pub seeded_planned : (seed count : ℕ) (off : List Bool) (sites : ℕ) → 1 ≤ length off → length off ≤ 64 → count * tiles_on off ≤ 1000000 → IsPlan (seeded seed count off sites)
seeded_planned seed count off sites some most few =
    let n = length_seeded_lists seed count off sites in
    let m = sum_seeded_lists seed count off sites in
    record { some = omega arith; most = omega arith; few = omega arith }

-- no tile of a plan has more than 1,000,000 attempts
pub attempts_few : (plan : PlanValue) (tile : ℕ) → IsPlan plan → tile < length plan.lists → length (attempts plan tile) ≤ 1000000
attempts_few plan tile h within =
    let m = get_or-le-sum_by length plan.lists tile [] within in
    let f = h.few in
    omega arith

-- nor does one draw more
pub count_few : (seed count : ℕ) (off : List Bool) (sites tile : ℕ) → IsPlan (seeded seed count off sites) → tile < length off → count_of count off tile ≤ 1000000
count_few seed count off sites tile h lt =
    let n = length_seeded_lists seed count off sites in
    let m = attempts_few (seeded seed count off sites) tile h (omega (arith, n, lt)) in
    let e : length (attempts (seeded seed count off sites) tile) ≡ count_of count off tile =
    ap length (seeded_lists_at seed count off sites tile lt) ∙ length_seeded_attempts seed (count_of count off tile) sites tile in
    omega arith

-- what is taken from attempts is the first
pub taken_first : (l m : List Attempt) (a : Attempt) → TakesNext l (Some a) m → l ≡ a ∷ m
taken_first [] m a t = let u = t.0 in cc
taken_first (x ∷ rest) m a t = let u = t.0 in let v = t.1 in cc

-- a stand-in for an attempt that does not exist
abbrev pub no_attempt : Attempt
no_attempt = record { centre = 0; seed = 0 }
