-- A tile of the stepped machine comes to its end: each step leaves fewer steps, and once it is done further steps change nothing.
use Rattle.std.proofs.Common.{ℕ, zero, suc, ◌≡◌, ◌≢◌, ◌≤◌, ◌<◌, ◌+◌, ◌*◌, ◌==◌, List, [], ◌∷◌, ◌++◌, refl, sym, ap, ◌∙◌, arith, ◌⊎◌, inl, inr, ⊎_elim, Bool, true, false, Option, Some, None, length}
use Rattle.std.specs.Prelude.{if◌then◌else◌}
use Rattle.std.specs.List.{range_with_len}
use Rattle.std.proofs.lemmas.Bool.Decides.{nat_tests}
use Rattle.std.proofs.lemmas.Bool.{cases_eq}
use Rattle.window_sites.specs.Window.{WindowValue}
use Rattle.tile_map.specs.Plane.{MapValue, tiles_of}
use Rattle.tile_map.specs.Edges.{needs_of}
use Rattle.cell_grid.specs.Grid.{GridValue}
use Rattle.draw_stream.specs.declared.attempt.Attempt.{Attempt}
use Rattle.draw_stream.specs.Plans.{PlanValue}
use Rattle.list_laws.proofs.Members.{In, in_range}
use Rattle.stepped_world.specs.Machine.{want_edge, Hand, Doing, Drawing, Done, Locking, Refreshing, Behaving, Writing, Giving, Backing, TileState, Machine, at, next_draw, next_lock, next_give, next_back, hand_of, draw, lock, next_stamp, step_in, step, steps, steps_of, steps_for, steps_to_end, most_steps, finish_tile, finish, stepped, first_machine}

pub at_same : {A : Type 0} (f : ℕ → A) (k : ℕ) (a : A) → at f k a k ≡ a
at_same f k a = let t : (k == k) ≡ true = grind (arith, nat_tests) in rw t refl

pub at_other : {A : Type 0} (f : ℕ → A) (k j : ℕ) (a : A) → j ≢ k → at f k a j ≡ f j
at_other f k j a ne = go (j == k) refl
  where
    go : (t : Bool) → (j == k) ≡ t → (if t then a else f j) ≡ f j
    go true is = absurd (ne (grind (arith, nat_tests, is)))
    go false is = refl

module _ (m : MapValue) (meaning : WindowValue → ℕ → WindowValue) (t : ℕ) where
  abbrev pub Less : Machine → Machine → Type 0
  Less s' s = most_steps m t (s'.tile t) < most_steps m t (s.tile t)

  draw_steps : (left : List Attempt) → steps_to_end m t (next_draw left) ≤ 1
  draw_steps [] = omega arith
  draw_steps (a ∷ more) = omega arith

  give_steps : (es : List ℕ) (left : List Attempt) → steps_to_end m t (next_give es left) < 2 + length es
  give_steps [] left = let q = draw_steps left in omega (arith, q)
  give_steps (e ∷ es) left = omega arith

  back_steps : (es : List ℕ) (left : List Attempt) → steps_to_end m t (next_back es left) < 2 + length es
  back_steps [] left = let q = draw_steps left in omega (arith, q)
  back_steps (e ∷ es) left = omega arith

  lock_steps : (h : Hand) (had es : List ℕ) → steps_to_end m t (next_lock h had es) ≤ 2 * length es + length had + 4 + length (needs_of m t h.site)
  lock_steps h had [] = omega arith
  lock_steps h had (e ∷ es) = omega arith

  longer : (ds : List ℕ) (e : ℕ) → length (ds ++ e ∷ []) ≡ suc (length ds)
  longer [] e = refl
  longer (d ∷ ds) e = ap suc (longer ds e)

  -- no attempt was drawn
  same_left : (s : Machine) (p q : Doing) (x : TileState) (s' : Machine) → (s.tile t).doing ≡ p → s'.tile t ≡ x → x.doing ≡ q → x.left ≡ (s.tile t).left → steps_to_end m t q < steps_to_end m t p → Less s' s
  same_left s p q x s' now is does left less =
      omega (arith, ap (most_steps m t) is, ap (steps_to_end m t) does, ap (steps_for m t) left, ap (steps_to_end m t) now, less)

  goes : (s : Machine) (p q : Doing) (s' : Machine) → (s.tile t).doing ≡ p → s'.tile t ≡ record (s.tile t) { doing = q } → steps_to_end m t q < steps_to_end m t p → Less s' s
  goes s p q s' now is less = same_left s p q (record (s.tile t) { doing = q }) s' now is refl refl less

  draw_less : (s : Machine) (left : List Attempt) → (s.tile t).doing ≡ Drawing → (s.tile t).left ≡ left → Less (draw m t left s) s
  draw_less s [] now is = goes s Drawing Done (draw m t [] s) now (at_same s.tile t (record (s.tile t) { doing = Done })) (omega arith)
  draw_less s (a ∷ more) now is =
      let h = hand_of m t (s.tile t).taken a in
      let x : TileState = record (s.tile t) { doing = next_lock h [] (needs_of m t h.site); left = more; taken = (s.tile t).taken + 1 } in
      let k = lock_steps h [] (needs_of m t h.site) in
      omega (arith, ap (most_steps m t) (at_same s.tile t x), ap (steps_to_end m t) now, ap (steps_for m t) is, k)

  lock_less : (s : Machine) (h : Hand) (had : List ℕ) (e : ℕ) (es : List ℕ) (o : Option (ℕ × ℕ)) → (s.tile t).doing ≡ Locking h had e es → Less (lock t (want_edge h had e es) o s) s
  lock_less s h had e es None now =
      let q = next_lock h (had ++ e ∷ []) es in let k = lock_steps h (had ++ e ∷ []) es in let n = longer had e in
      goes s (Locking h had e es) q (lock t (want_edge h had e es) None s) now (at_same s.tile t (record (s.tile t) { doing = q })) (omega (arith, k, n))
  lock_less s h had e es (Some p) now =
      let q = next_back had (s.tile t).left in let k = back_steps had (s.tile t).left in
      goes s (Locking h had e es) q (lock t (want_edge h had e es) (Some p) s) now (at_same s.tile t (record (s.tile t) { doing = q })) (omega (arith, k))

  fewer_in : (s : Machine) (p : Doing) → (s.tile t).doing ≡ p → (p ≡ Done) ⊎ Less (step_in m meaning t s p) s
  fewer_in s Drawing now = inr (draw_less s (s.tile t).left now refl)
  fewer_in s Done now = inl refl
  fewer_in s (Locking h had e es) now = inr (lock_less s h had e es (s.edge e).holder now)
  fewer_in s (Refreshing h) now = inr (goes s (Refreshing h) (Behaving h) (step_in m meaning t s (Refreshing h)) now (at_same s.tile t (record (s.tile t) { doing = Behaving h })) (omega arith))
  fewer_in s (Behaving h) now = inr (goes s (Behaving h) (Writing h) (step_in m meaning t s (Behaving h)) now (at_same s.tile t (record (s.tile t) { doing = Writing h })) (omega arith))
  fewer_in s (Writing h) now =
      let q = next_give (needs_of m t h.site) (s.tile t).left in let x : TileState = record (s.tile t) { doing = q; clock = next_stamp m t h s } in
      inr (same_left s (Writing h) q x (step_in m meaning t s (Writing h)) now (at_same s.tile t x) refl refl (give_steps (needs_of m t h.site) (s.tile t).left))
  fewer_in s (Giving e es) now =
      let q = next_give es (s.tile t).left in let k = give_steps es (s.tile t).left in
      inr (goes s (Giving e es) q (step_in m meaning t s (Giving e es)) now (at_same s.tile t (record (s.tile t) { doing = q })) (omega (arith, k)))
  fewer_in s (Backing e es) now =
      let q = next_back es (s.tile t).left in let k = back_steps es (s.tile t).left in
      inr (goes s (Backing e es) q (step_in m meaning t s (Backing e es)) now (at_same s.tile t (record (s.tile t) { doing = q })) (omega (arith, k)))

  -- a tile is done, or each step leaves it fewer
  pub fewer : (s : Machine) → ((s.tile t).doing ≡ Done) ⊎ Less (step m meaning t s) s
  fewer s = fewer_in s (s.tile t).doing refl

  rests : (s : Machine) → (s.tile t).doing ≡ Done → step m meaning t s ≡ s
  rests s is = ap (step_in m meaning t s) is

  pub done_stays : (s : Machine) (k : ℕ) → (s.tile t).doing ≡ Done → steps_of m meaning t k s ≡ s
  done_stays s zero is = refl
  done_stays s (suc k) is = ap (steps_of m meaning t k) (rests s is) ∙ done_stays s k is

  -- more steps than are left change nothing more
  enough : (j k : ℕ) (s : Machine) → most_steps m t (s.tile t) ≤ j → most_steps m t (s.tile t) ≤ k → steps_of m meaning t j s ≡ steps_of m meaning t k s
  enough zero zero s a b = refl
  enough zero (suc k) s a b = sym (⊎_elim (λ i. done_stays s (suc k) i) (λ (l : Less (step m meaning t s) s). absurd (omega (arith, a, l))) (fewer s))
  enough (suc j) zero s a b = ⊎_elim (λ i. done_stays s (suc j) i) (λ (l : Less (step m meaning t s) s). absurd (omega (arith, b, l))) (fewer s)
  enough (suc j) (suc k) s a b = ⊎_elim (λ i. done_stays s (suc j) i ∙ sym (done_stays s (suc k) i)) (λ (l : Less (step m meaning t s) s). enough j k (step m meaning t s) (omega (arith, l, a)) (omega (arith, l, b))) (fewer s)

  -- one of the steps that finish a tile
  pub finishing : (s : Machine) → finish_tile m meaning t (step m meaning t s) ≡ finish_tile m meaning t s
  finishing s = ⊎_elim (λ i. ap (finish_tile m meaning t) (rests s i)) (λ (l : Less (step m meaning t s) s). go (most_steps m t (s.tile t)) refl l) (fewer s)
    where
      go : (n : ℕ) → most_steps m t (s.tile t) ≡ n → Less (step m meaning t s) s → finish_tile m meaning t (step m meaning t s) ≡ steps_of m meaning t n s
      go zero is l = absurd (omega (arith, is, l))
      go (suc n) is l = let x : most_steps m t ((step m meaning t s).tile t) ≤ n = omega (arith, is, l) in enough (most_steps m t ((step m meaning t s).tile t)) n (step m meaning t s) (omega arith) x

  pub finished : (s : Machine) → (s.tile t).doing ≡ Done → finish_tile m meaning t s ≡ s
  finished s i = done_stays s (most_steps m t (s.tile t)) i

  done_after : (k : ℕ) (s : Machine) → most_steps m t (s.tile t) ≤ k → ((steps_of m meaning t k s).tile t).doing ≡ Done
  done_after zero s le = ⊎_elim (λ i. i) (λ (l : Less (step m meaning t s) s). absurd (omega (arith, l, le))) (fewer s)
  done_after (suc k) s le = ⊎_elim (λ i. ap (λ (x : Machine). (x.tile t).doing) (done_stays s (suc k) i) ∙ i) (λ (l : Less (step m meaning t s) s). done_after k (step m meaning t s) (omega (arith, l, le))) (fewer s)

  pub done_once : (s : Machine) → ((finish_tile m meaning t s).tile t).doing ≡ Done
  done_once s = done_after (most_steps m t (s.tile t)) s (omega arith)

module _ (m : MapValue) (meaning : WindowValue → ℕ → WindowValue) where
  -- a step of one tile leaves the others
  other_tile : (u t : ℕ) (s : Machine) (p : Doing) → t ≢ u → (step_in m meaning u s p).tile t ≡ s.tile t
  other_tile u t s Drawing ne = drawn (s.tile u).left
    where
      drawn : (left : List Attempt) → (draw m u left s).tile t ≡ s.tile t
      drawn [] = at_other s.tile u t _ ne
      drawn (a ∷ more) = at_other s.tile u t _ ne
  other_tile u t s Done ne = refl
  other_tile u t s (Locking h had e es) ne = locked (s.edge e).holder
    where
      locked : (o : Option (ℕ × ℕ)) → (lock u (want_edge h had e es) o s).tile t ≡ s.tile t
      locked None = at_other s.tile u t _ ne
      locked (Some p) = at_other s.tile u t _ ne
  other_tile u t s (Refreshing h) ne = at_other s.tile u t _ ne
  other_tile u t s (Behaving h) ne = at_other s.tile u t _ ne
  other_tile u t s (Writing h) ne = at_other s.tile u t _ ne
  other_tile u t s (Giving e es) ne = at_other s.tile u t _ ne
  other_tile u t s (Backing e es) ne = at_other s.tile u t _ ne

  others_tile : (u t k : ℕ) (s : Machine) → t ≢ u → (steps_of m meaning u k s).tile t ≡ s.tile t
  others_tile u t zero s ne = refl
  others_tile u t (suc k) s ne = others_tile u t k (step m meaning u s) ne ∙ other_tile u t s (s.tile u).doing ne

  still_done : (ts : List ℕ) (t : ℕ) (s : Machine) → (s.tile t).doing ≡ Done → ((finish m meaning ts s).tile t).doing ≡ Done
  still_done [] t s i = i
  still_done (u ∷ ts) t s i = still_done ts t (finish_tile m meaning u s)
      (⊎_elim (λ (e : t ≡ u). ap (λ v. ((finish_tile m meaning u s).tile v).doing) e ∙ done_once m meaning u s) (λ ne. ap (λ (x : TileState). x.doing) (others_tile u t (most_steps m u (s.tile u)) s ne) ∙ i) (cases_eq t u))

  all_done : (ts : List ℕ) (t : ℕ) (s : Machine) → In t ts → ((finish m meaning ts s).tile t).doing ≡ Done
  all_done [] t s i = absurd i
  all_done (u ∷ ts) t s i = ⊎_elim
      (λ (e : t ≡ u). still_done ts t (finish_tile m meaning u s) (ap (λ v. ((finish_tile m meaning u s).tile v).doing) e ∙ done_once m meaning u s))
      (λ j. all_done ts t (finish_tile m meaning u s) j) i

  -- in the end each tile is done
  pub each_done : (start : GridValue) (plan : PlanValue) (order : List ℕ) (t : ℕ) → t < tiles_of m → ((stepped m meaning start plan order).tile t).doing ≡ Done
  each_done start plan order t lt = all_done (range_with_len 0 (tiles_of m)) t (steps m meaning order (first_machine start plan)) (in_range 0 (tiles_of m) t (omega arith) (omega (arith, lt)))
