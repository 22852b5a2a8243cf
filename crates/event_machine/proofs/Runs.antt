-- What a run that is over says of the whole event.
use Rattle.std.proofs.Common.{◌≡◌, ℕ, zero, suc, ◌+◌, ◌-◌, ◌*◌, ◌^◌, ◌≤◌, length, List, [], ◌∷◌, Option, Some, None, refl, sym, ap, ◌∙◌, subst, arith}
use Rattle.std.specs.Prelude.{Bool, true, slice_get, min, if◌then◌else◌}
use Rattle.datum.specs.Failures.{IsFailure}
use Rattle.bit_field.specs.Atom.{empty_atom}
use Rattle.window_sites.specs.Window.{WindowValue, live_at, put_at, without_centre}
use Rattle.stack_code.specs.Machine.{CodeValue, FunctionValue, State, start_with, start, Led, Goes, Ends, Fails, Lacks, step, step_on, and_then, iter, count, one_more, ending, runs}
use Rattle.stack_code.specs.declared.instr.Instr.{Instr}
use Rattle.stack_code.specs.declared.instr.Instr.TheVariants.{ReturnVoid}
use Rattle.stack_code.specs.Laws.{IsOver}
use Rattle.stack_code.specs.Valid.{valid}
use Rattle.stack_code.proofs.Bound.{starts, runs_well}
use Rattle.stack_code.proofs.Kept.{Kept, KeptState, iter_kept, emptied_kept}
use Rattle.event_machine.specs.Counting.{Counted}
use Rattle.event_machine.specs.Ticks.{IsTick, Ticks}
use Rattle.event_machine.specs.Works.{counting, Ran, FunctionsFit, window_after, Idles}
use Rattle.event_machine.specs.Endings.{ending_number, IsEnding}
use Rattle.event_machine.specs.declared.ending.Ended.{Ended}
use Rattle.event_machine.specs.declared.ending.Ended.TheVariants.{Done as DoneEnd, Failed}

pub put_emptied : (w : WindowValue) → live_at w 0 ≡ true → put_at w 0 empty_atom ≡ without_centre w
put_emptied w live = ap (λ (b : Bool). if b then without_centre w else w) live

-- so many ticks, one at least, add so many to a count of 64 bits
counted : {L : Type 0} (noted : L → L → Type 0) (k : ℕ) (n m : Counted L) → Ticks noted (suc k) n m → m.count ≡ min (n.count + suc k) (2 ^ 64 - 1)
counted noted zero n m h =
    let e : n.count ≡ h.0.count = ap (λ (x : Counted _). x.count) h.1 in
    let t = h.2.count in
    grind (arith, e, t)
counted noted (suc k) n m h =
    let r = counted noted k n h.0 h.1 in
    let t = h.2.count in
    grind (arith, r, t)

-- a run that is over took a step
one_some : (f : State → ℕ) (l : Led State) → 1 ≤ one_more f l
one_some f (Goes s) = omega arith
one_some f (Fails n) = omega arith
one_some f (Ends w) = omega arith
one_some f Lacks = omega arith

over_some : (c : CodeValue) (n : ℕ) (s : State) (l : Led State) → iter c n s ≡ l → IsOver l → 1 ≤ count c n s
unfolding iter count
over_some c zero s l e o = absurd (subst IsOver (sym e) o)
over_some c (suc n) s l e o = one_some (count c n) (step c s)

counted_some : {L : Type 0} (noted : L → L → Type 0) (k : ℕ) (n m : Counted L) → 1 ≤ k → Ticks noted k n m → m.count ≡ min (n.count + k) (2 ^ 64 - 1)
counted_some noted zero n m some h = absurd (omega (arith, some))
counted_some noted (suc k) n m some h = counted noted k n m h

start_window : (w : WindowValue) (seed : ℕ) (o : Option FunctionValue) → (start_with w seed o).held.window ≡ w
start_window w seed None = refl
start_window w seed (Some g) = refl

module _ {L : Type 0} (noted : L → L → Type 0) (c : CodeValue) (w : WindowValue) (seed : ℕ) (s new : State) (n m : Counted L) where
  pub over_is : (r : Ended) → s ≡ start c w seed → Ran noted c (counting s n) (counting new m) r → (runs c w seed).over ≡ Some (window_after w new r, ending_number r)
  unfolding runs
  over_is DoneEnd e h = ap (ending w) (ap (iter c (1001 * length c.instrs)) (sym e) ∙ h.0)
  over_is (Failed k) e h = ap (ending w) (ap (iter c (1001 * length c.instrs)) (sym e) ∙ h.0)

  ticked : (r : Ended) → Ran noted c (counting s n) (counting new m) r → Ticks noted (count c (1001 * length c.instrs) s) n m
  ticked r h = h.1

  pub ticks_are : (r : Ended) → s ≡ start c w seed → Ran noted c (counting s n) (counting new m) r → Ticks noted (runs c w seed).count n m
  unfolding runs
  ticks_are r e h = subst (λ t. Ticks noted (count c (1001 * length c.instrs) t) n m) e (ticked r h)

  ran_some : (r : Ended) → Ran noted c (counting s n) (counting new m) r → 1 ≤ count c (1001 * length c.instrs) s
  ran_some DoneEnd h = over_some c (1001 * length c.instrs) s (Ends new.held.window) h.0 tt
  ran_some (Failed k) h = over_some c (1001 * length c.instrs) s (Fails k) h.0 tt

  pub count_is : (r : Ended) → s ≡ start c w seed → Ran noted c (counting s n) (counting new m) r → m.count ≡ min (n.count + (runs c w seed).count) (2 ^ 64 - 1)
  unfolding runs
  count_is r e h =
      let some = subst (λ t. 1 ≤ count c (1001 * length c.instrs) t) e (ran_some r h) in
      counted_some noted (count c (1001 * length c.instrs) (start c w seed)) n m some (ticks_are r e h)

  -- what an event keeps of its window
  pub kept_is : (r : Ended) → live_at w 0 ≡ true → s ≡ start c w seed → Ran noted c (counting s n) (counting new m) r → Kept w (window_after w new r)
  kept_is DoneEnd live e h =
      let i : iter c (1001 * length c.instrs) (start c w seed) ≡ Ends new.held.window = ap (iter c (1001 * length c.instrs)) (sym e) ∙ h.0 in
      let k = iter_kept c (1001 * length c.instrs) (start c w seed) in
      let a : KeptState (start c w seed).held.window (Ends new.held.window) = subst (KeptState (start c w seed).held.window) i k in
      subst (λ (v : WindowValue). Kept v new.held.window) (start_window w seed (slice_get c.functions 0)) a
  kept_is (Failed k) live e h = emptied_kept w live

  -- failures have numbers from 1 to 7
  pub ending_is : (r : Ended) → s ≡ start c w seed → Ran noted c (counting s n) (counting new m) r → IsEnding r
  ending_is DoneEnd e h = tt
  ending_is (Failed k) e h =
      let i : iter c (1001 * length c.instrs) (start c w seed) ≡ Fails k = ap (iter c (1001 * length c.instrs)) (sym e) ∙ h.0 in
      let a : IsFailure k = subst (KeptState (start c w seed).held.window) i (iter_kept c (1001 * length c.instrs) (start c w seed)) in
      (a.least, a.most)

-- there are at most 1,001 times as many steps as instructions
pub most_is : (c : CodeValue) (w : WindowValue) (seed : ℕ) → valid c ≡ true → (runs c w seed).count ≤ 1001 * length c.instrs
unfolding runs
most_is c w seed v = (runs_well c v w seed).few

pub functions_fit : (c : CodeValue) (w : WindowValue) → valid c ≡ true → FunctionsFit c
functions_fit c w v = λ f g at. let x = (starts c v w 0).fine.each f g at in (x.params, x.few)

-- an event of code that ends with its first instruction
idle_step : (c : CodeValue) (w : WindowValue) (seed : ℕ) (o : Option FunctionValue) → Idles c → step c (start_with w seed o) ≡ Ends w
idle_step c w seed None h = ap (step_on c (start_with w seed None)) h
idle_step c w seed (Some g) h = ap (step_on c (start_with w seed (Some g))) h

first_some : (is : List Instr) → slice_get is 0 ≡ Some ReturnVoid → 1 ≤ length is
first_some [] h = absurd cc
first_some (i ∷ is) h = omega arith

module _ (c : CodeValue) (w : WindowValue) (seed : ℕ) (h : Idles c) where
  abbrev rest : ℕ
  rest = 1001 * length c.instrs - 1

  whole : 1001 * length c.instrs ≡ suc rest
  whole = let p = first_some c.instrs h in omega (arith, p)

  pub idle_over : (runs c w seed).over ≡ Some (w, None)
  unfolding runs iter
  idle_over = ap (ending w) (ap (λ n. iter c n (start c w seed)) whole ∙ ap (λ l. and_then l (iter c rest)) (idle_step c w seed (slice_get c.functions 0) h))

  pub idle_count : (runs c w seed).count ≡ 1
  unfolding runs count
  idle_count = ap (λ n. count c n (start c w seed)) whole ∙ ap (one_more (count c rest)) (idle_step c w seed (slice_get c.functions 0) h)

  pub idle_ticks : {L : Type 0} (noted : L → L → Type 0) (n m : Counted L) → IsTick noted n m → Ticks noted (runs c w seed).count n m
  idle_ticks noted n m t = let one : Ticks noted 1 n m = (n, refl, t) in subst (λ k. Ticks noted k n m) (sym idle_count) one

  pub idle_counted : {L : Type 0} (noted : L → L → Type 0) (n m : Counted L) → IsTick noted n m → m.count ≡ min (n.count + (runs c w seed).count) (2 ^ 64 - 1)
  idle_counted noted n m t =
      let e = idle_count in
      let some : 1 ≤ (runs c w seed).count = omega (arith, e) in
      counted_some noted (runs c w seed).count n m some (idle_ticks noted n m t)
