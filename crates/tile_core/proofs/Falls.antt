-- An attempt comes to its end: each step leaves fewer steps.
use Rattle.std.proofs.Common.{◌≡◌, ℕ, zero, suc, ◌+◌, ◌-◌, ◌<◌, ◌≤◌, Bool, true, false, true≢false, List, [], ◌∷◌, length, refl, sym, ap, subst, arith, ⊎_elim}
use Rattle.std.specs.Prelude.{nat_lt}
use Rattle.bit_field.specs.Atom.{AtomValue}
use Rattle.window_sites.specs.Window.{WindowValue}
use Rattle.tile_map.specs.Plane.{Site, MapValue}
use Rattle.draw_stream.specs.declared.attempt.Attempt.{Attempt}
use Rattle.edge_lock.specs.declared.board.Take.{Take}
use Rattle.edge_lock.specs.declared.board.Take.TheVariants.{Got, Busy}
use Rattle.edge_lock.specs.EndLists.{EndLists}
use Rattle.tile_core.specs.declared.phase.Phase.{Phase}
use Rattle.tile_core.specs.declared.phase.Phase.TheVariants.{Draw, Lock, Refresh, Behave, Write, Give, Back, Finished, Worn}
use Rattle.tile_core.specs.Values.{TileValue}
use Rattle.tile_core.specs.Underway.{IsUnderway, tile_at}
use Rattle.tile_core.specs.Steps.{StepsIn, WearsOut, Renews, over, is_over, next_edge, refused_phase, written_phase, tile_with_edge, tile_after_try, tile_after_refusal, tile_after_give, tile_after_event, steps_in, rules_of}
use Rattle.tile_core.proofs.Laws.{lock_lt, give_lt, back_lt}
use Rattle.tile_core.specs.Turns.{common}

-- how many steps the attempt in hand takes at most
abbrev pub steps_left : TileValue → ℕ
steps_left tile = steps_in tile tile.phase

none_left : (tile : TileValue) (left : List Attempt) → steps_in tile (over left) ≡ 0
none_left tile [] = refl
none_left tile (a ∷ others) = refl

module _ (m : MapValue) (meaning : WindowValue → ℕ → WindowValue) (start : Site → AtomValue) (attempts : List Attempt) (old : TileValue) (a : ℕ → EndLists) (u : IsUnderway (common m meaning start) attempts old a) where
  got_falls : old.next < length old.needs → old.phase ≡ Lock → (x : Bool) → steps_left (tile_with_edge x old) < 40 + (length old.needs - old.next)
  got_falls lt is true = let q : steps_in (record old { next = old.next + 1 }) old.phase ≡ 40 + (length old.needs - (old.next + 1)) = ap (steps_in (record old { next = old.next + 1 })) is in omega (arith, q, lt)
  got_falls lt is false = omega arith

  refused_falls : (e j n : ℕ) → n ≤ 8 → old.next ≡ n → steps_in (tile_after_refusal m old e j) (refused_phase n old.left) < 40
  refused_falls e j zero le is = let q = none_left (tile_after_refusal m old e j) old.left in omega (arith, q)
  refused_falls e j (suc n) le is = omega (arith, le, is)

  tried_falls : old.next < length old.needs → old.phase ≡ Lock → (r : Take) → steps_left (tile_after_try m old r) < 40 + (length old.needs - old.next)
  tried_falls lt is Got = got_falls lt is (nat_lt (old.next + 1) (length old.needs))
  tried_falls lt is (Busy j) = let few = u.needs.few in let q = refused_falls (next_edge old) j old.next (omega (arith, lt, few)) refl in omega (arith, q)

  written_falls : (new : TileValue) (es : List ℕ) → new.needs ≡ old.needs → new.next ≡ 0 → steps_in new (written_phase es old.left) < 28
  written_falls new [] needs next = let q = none_left new old.left in omega (arith, q)
  written_falls new (e ∷ es) needs next = let few : length new.needs ≤ 8 = subst (λ xs. length xs ≤ 8) (sym needs) u.needs.few in omega (arith, few)

  give_falls : old.next < length old.needs → old.phase ≡ Give → (x : Bool) → steps_left (tile_after_give x old) < 1 + (length old.needs - old.next)
  give_falls lt is true = let q : steps_in (record old { next = old.next + 1 }) old.phase ≡ 1 + (length old.needs - (old.next + 1)) = ap (steps_in (record old { next = old.next + 1 })) is in omega (arith, q, lt)
  give_falls lt is false = let q = none_left (record old { phase = over old.left }) old.left in omega (arith, q)

  back_falls : old.next < old.count → old.phase ≡ Back → (x : Bool) → steps_left (tile_after_give x old) < 1 + (old.count - old.next)
  back_falls lt is true = let q : steps_in (record old { next = old.next + 1 }) old.phase ≡ 1 + (old.count - (old.next + 1)) = ap (steps_in (record old { next = old.next + 1 })) is in omega (arith, q, lt)
  back_falls lt is false = let q = none_left (record old { phase = over old.left }) old.left in omega (arith, q)

  pub steps_fall : (end_of : ℕ → ℕ) (new : TileValue) (b : ℕ → EndLists) → is_over old.phase ≡ false → StepsIn (rules_of m meaning end_of) (tile_at old a) (tile_at new b) old.phase → steps_left new < steps_left old
  steps_fall end_of new b on s = go old.phase refl on s
    where
      go : (p : Phase) → old.phase ≡ p → is_over p ≡ false → StepsIn (rules_of m meaning end_of) (tile_at old a) (tile_at new b) p → steps_left new < steps_in old p
      go Draw is f s = absurd (true≢false f)
      go Lock is f s = subst (λ w. steps_left w < 40 + (length old.needs - old.next)) (sym s.is) (tried_falls (lock_lt m meaning start attempts old a u is) is s.answer)
      go Refresh is f s = ⊎_elim
          (λ (w : WearsOut old new s.top s.between b). subst (λ x. steps_left x < 30) (sym w.is) (omega arith))
          (λ (w : Renews old new s.top s.between b). subst (λ x. steps_left x < 30) (sym w.is) (omega arith))
          s.step
      go Behave is f s = subst (λ x. steps_left x < 29) (sym s.0.is) (omega arith)
      go Write is f s = subst (λ x. steps_left x < 28) (sym s.is) (written_falls (tile_after_event (record old { cache = new.cache })) old.needs refl refl)
      go Give is f s = subst (λ w. steps_left w < 1 + (length old.needs - old.next)) (sym s.is) (give_falls (give_lt m meaning start attempts old a u is) is (nat_lt (old.next + 1) (length old.needs)))
      go Back is f s = subst (λ w. steps_left w < 1 + (old.count - old.next)) (sym s.is) (back_falls (back_lt m meaning start attempts old a u is).0 is (nat_lt (old.next + 1) old.count))
      go Finished is f s = absurd (true≢false f)
      go Worn is f s = absurd (true≢false f)
