-- What a step makes of what a tile is doing, in the machine's words.
use Rattle.std.proofs.Common.{◌≡◌, ◌≢◌, ℕ, zero, suc, ◌+◌, ◌<◌, ◌≤◌, ◌==◌, Bool, true, false, cond, List, [], ◌∷◌, ◌++◌, length, take, filter, refl, sym, ap, ◌∙◌, arith, Some}
use Rattle.std.specs.Prelude.{drop, nat_lt, slice_index}
use Rattle.std.proofs.lemmas.Bool.Decides.{nat_tests}
use Rattle.std.proofs.lemmas.Option.{same_Some}
use Rattle.std.proofs.lemmas.List.Elements.{filter-append}
use Rattle.std.proofs.lemmas.List.{append-nil}
use Rattle.draw_stream.specs.declared.attempt.Attempt.{Attempt}
use Rattle.tile_core.specs.declared.phase.Phase.{Phase}
use Rattle.tile_core.specs.declared.phase.Phase.TheVariants.{Draw, Lock, Refresh, Behave, Write, Give, Back, Finished, Worn}
use Rattle.tile_core.specs.Values.{TileValue}
use Rattle.tile_core.specs.Steps.{over, first_phase, refused_phase, written_phase, tile_with_edge, tile_after_give}
use Rattle.stepped_world.specs.Machine.{Hand, Writing, next_draw, next_lock, next_give, next_back}
use Rattle.stepped_world.specs.Matching.{hand_in, doing_in}

-- a list from place n on, where it has one
pub drop_at : (n : ℕ) (xs : List ℕ) → n < length xs → drop n xs ≡ slice_index xs n ∷ drop (suc n) xs
drop_at n [] lt = absurd (omega (arith, lt))
drop_at zero (x ∷ xs) lt = refl
drop_at (suc n) (x ∷ xs) lt = drop_at n xs (omega (arith, lt))

pub take_at : (n : ℕ) (xs : List ℕ) → n < length xs → take (suc n) xs ≡ take n xs ++ slice_index xs n ∷ []
take_at n [] lt = absurd (omega (arith, lt))
take_at zero (x ∷ xs) lt = refl
take_at (suc n) (x ∷ xs) lt = ap (λ ys. x ∷ ys) (take_at n xs (omega (arith, lt)))

pub drop_past : (n : ℕ) (xs : List ℕ) → length xs ≤ n → drop n xs ≡ []
drop_past zero [] le = refl
drop_past zero (x ∷ xs) le = absurd (omega (arith, le))
drop_past (suc n) [] le = refl
drop_past (suc n) (x ∷ xs) le = drop_past n xs (omega (arith, le))

pub get_first : (n k : ℕ) (xs : List ℕ) → n < k → slice_index (take k xs) n ≡ slice_index xs n
get_first n zero xs lt = absurd (omega (arith, lt))
get_first n (suc k) [] lt = refl
get_first zero (suc k) (x ∷ xs) lt = refl
get_first (suc n) (suc k) (x ∷ xs) lt = get_first n k xs (omega (arith, lt))

pub length_first : (k : ℕ) (xs : List ℕ) → k ≤ length xs → length (take k xs) ≡ k
length_first zero xs le = refl
length_first (suc k) [] le = absurd (omega (arith, le))
length_first (suc k) (x ∷ xs) le = ap suc (length_first k xs (omega (arith, le)))

-- an attempt is over
pub over_doing : (tile : TileValue) (left : List Attempt) → doing_in tile (over left) ≡ Some (next_draw left)
over_doing tile [] = refl
over_doing tile (a ∷ more) = refl

-- an attempt begins
pub begun_doing : (tile : TileValue) (needs : List ℕ) → doing_in (record tile { needs = needs; next = 0 }) (first_phase needs) ≡ Some (next_lock (hand_in tile) [] needs)
begun_doing tile [] = refl
begun_doing tile (e ∷ es) = refl

-- an edge is got
pub got_doing : (tile : TileValue) → tile.phase ≡ Lock → tile.next < length tile.needs → (b : Bool) → nat_lt (tile.next + 1) (length tile.needs) ≡ b
    → doing_in (tile_with_edge b tile) (tile_with_edge b tile).phase ≡ Some (next_lock (hand_in tile) (take tile.next tile.needs ++ slice_index tile.needs tile.next ∷ []) (drop (suc tile.next) tile.needs))
got_doing tile is lt true more =
    let n : tile.next + 1 ≡ suc tile.next = omega arith in
    ap (doing_in (record tile { next = tile.next + 1 })) is
    ∙ ((λ i. Some (next_lock (hand_in tile) (take (n i) tile.needs) (drop (n i) tile.needs))) ∙ ap (λ had. Some (next_lock (hand_in tile) had (drop (suc tile.next) tile.needs))) (take_at tile.next tile.needs lt))
got_doing tile is lt false less =
    let le : length tile.needs ≤ suc tile.next = grind (arith, nat_tests, less) in
    ap (λ es. Some (next_lock (hand_in tile) (take tile.next tile.needs ++ slice_index tile.needs tile.next ∷ []) es)) (sym (drop_past (suc tile.next) tile.needs le))

-- an attempt is refused, which got n edges before
pub refused_doing : (tile : TileValue) (n : ℕ) → doing_in (record tile { next = 0; count = n }) (refused_phase n tile.left) ≡ Some (next_back (take n tile.needs) tile.left)
refused_doing tile zero = over_doing (record tile { next = 0; count = 0 }) tile.left
refused_doing tile (suc n) = refl

-- an event is written
pub written_doing : (tile : TileValue) (needs : List ℕ) → doing_in (record tile { needs = needs; next = 0 }) (written_phase needs tile.left) ≡ Some (next_give needs tile.left)
written_doing tile [] = over_doing (record tile { needs = []; next = 0 }) tile.left
written_doing tile (e ∷ es) = refl

-- an edge is given
pub given_doing : (tile : TileValue) → tile.phase ≡ Give → (b : Bool) → nat_lt (tile.next + 1) (length tile.needs) ≡ b → doing_in (tile_after_give b tile) (tile_after_give b tile).phase ≡ Some (next_give (drop (suc tile.next) tile.needs) tile.left)
given_doing tile is true more =
    let n : tile.next + 1 ≡ suc tile.next = omega arith in
    ap (doing_in (record tile { next = tile.next + 1 })) is ∙ ap (λ k. Some (next_give (drop k tile.needs) tile.left)) n
given_doing tile is false less =
    let le : length tile.needs ≤ suc tile.next = grind (arith, nat_tests, less) in
    over_doing (record tile { phase = over tile.left }) tile.left ∙ ap (λ es. Some (next_give es tile.left)) (sym (drop_past (suc tile.next) tile.needs le))

-- an edge is given back
pub backed_doing : (tile : TileValue) → tile.phase ≡ Back → tile.count ≤ length tile.needs → (b : Bool) → nat_lt (tile.next + 1) tile.count ≡ b → doing_in (tile_after_give b tile) (tile_after_give b tile).phase ≡ Some (next_back (drop (suc tile.next) (take tile.count tile.needs)) tile.left)
backed_doing tile is le true more =
    let n : tile.next + 1 ≡ suc tile.next = omega arith in
    ap (doing_in (record tile { next = tile.next + 1 })) is ∙ ap (λ k. Some (next_back (drop k (take tile.count tile.needs)) tile.left)) n
backed_doing tile is le false less =
    let few : tile.count ≤ suc tile.next = grind (arith, nat_tests, less) in
    let long : length (take tile.count tile.needs) ≤ suc tile.next = let q = length_first tile.count tile.needs le in omega (arith, q, few) in
    over_doing (record tile { phase = over tile.left }) tile.left ∙ ap (λ es. Some (next_back es tile.left)) (sym (drop_past (suc tile.next) (take tile.count tile.needs) long))

-- the entries of one tile, with one more
pub filter_more : {A : Type 0} (p : A → Bool) (xs : List A) (x : A) → p x ≡ true → filter p (xs ++ x ∷ []) ≡ filter p xs ++ x ∷ []
filter_more p xs x is = filter-append p xs (x ∷ []) ∙ ap (λ b. filter p xs ++ cond b (x ∷ []) []) is

pub filter_same : {A : Type 0} (p : A → Bool) (xs : List A) (x : A) → p x ≡ false → filter p (xs ++ x ∷ []) ≡ filter p xs
filter_same p xs x is = filter-append p xs (x ∷ []) ∙ (ap (λ b. filter p xs ++ cond b (x ∷ []) []) is ∙ append-nil (filter p xs))

pub same_tile : (t u : ℕ) → u ≡ t → (u == t) ≡ true
same_tile t u e = grind (arith, nat_tests, e)

pub other_tile : (t u : ℕ) → t ≢ u → (u == t) ≡ false
other_tile t u ne = go (u == t) refl
  where
    go : (b : Bool) → (u == t) ≡ b → b ≡ false
    go false is = refl
    go true is = absurd (ne (grind (arith, nat_tests, is)))

-- only a tile in the phase Write writes
lock_no_write : (h : Hand) (had es : List ℕ) (k : Hand) → next_lock h had es ≡ Writing k → ⊥
lock_no_write h had [] k e = cc e
lock_no_write h had (d ∷ es) k e = cc e

draw_no_write : (left : List Attempt) (k : Hand) → next_draw left ≡ Writing k → ⊥
draw_no_write [] k e = cc e
draw_no_write (a ∷ left) k e = cc e

give_no_write : (es : List ℕ) (left : List Attempt) (k : Hand) → next_give es left ≡ Writing k → ⊥
give_no_write [] left k e = draw_no_write left k e
give_no_write (d ∷ es) left k e = cc e

back_no_write : (es : List ℕ) (left : List Attempt) (k : Hand) → next_back es left ≡ Writing k → ⊥
back_no_write [] left k e = draw_no_write left k e
back_no_write (d ∷ es) left k e = cc e

pub is_writing : (tile : TileValue) (p : Phase) (k : Hand) → doing_in tile p ≡ Some (Writing k) → p ≡ Write
is_writing tile Draw k e = absurd (cc e)
is_writing tile Lock k e = absurd (lock_no_write (hand_in tile) (take tile.next tile.needs) (drop tile.next tile.needs) k (same_Some _ _ e))
is_writing tile Refresh k e = absurd (cc e)
is_writing tile Behave k e = absurd (cc e)
is_writing tile Write k e = refl
is_writing tile Give k e = absurd (give_no_write (drop tile.next tile.needs) tile.left k (same_Some _ _ e))
is_writing tile Back k e = absurd (back_no_write (drop tile.next (take tile.count tile.needs)) tile.left k (same_Some _ _ e))
is_writing tile Finished k e = absurd (cc e)
is_writing tile Worn k e = absurd (cc e)
