-- A machine that runs valid code.
use Rattle.std.proofs.Common.{◌≡◌, ℕ, suc, ◌+◌, ◌-◌, ◌*◌, ◌<◌, ◌≤◌, length, refl, sym, ap, ◌∙◌, subst, arith}
use Rattle.stack_code.specs.Machine.{CodeValue, State, Led, Goes, Fails, Ends, Lacks, step, and_then, iter, count, one_more}
use Rattle.stack_code.specs.Valid.{Notes}
use Rattle.stack_code.proofs.Typed.{CodeFine, Typed, Next, NextLed, measure, step_next, stack_most}
use Rattle.stack_code.proofs.Bound.{measure_some, starts}
use Rattle.event_machine.specs.Counting.{Counted}
use Rattle.event_machine.specs.Ticks.{IsTick, Ticks}
use Rattle.event_machine.specs.Works.{StepsTo, Ready, counting, Ran, Started}
use Rattle.event_machine.specs.declared.ending.Leads.TheVariants.{On, Fail, Done, Lack}
use Rattle.event_machine.specs.declared.ending.Ended.TheVariants.{Done as DoneEnd, Failed}

-- the machine came from s by so many steps, each counted once, and agrees with the notes
pub record Running {L : Type 0} (noted : L → L → Type 0) (c : CodeValue) (s now : State) (n m : Counted L) : Type 0 where
  pub shapes : Notes
  pub fine : CodeFine c shapes
  pub typed : Typed c shapes now
  pub k : ℕ
  pub later : (j : ℕ) → iter c (k + j) s ≡ iter c j now
  pub counted : (j : ℕ) → count c (k + j) s ≡ k + count c j now
  pub bound : k + measure c now ≤ 1001 * length c.instrs
  pub ticks : Ticks noted k n m
  pub short : length c.instrs ≤ 65536

pub running_start : {L : Type 0} (noted : L → L → Type 0) (c : CodeValue) (s : State) (n : Counted L) → Started c s → Running noted c s s n n
running_start noted c s n h =
    let b = starts c h.valid h.window h.seed in
    record {
      shapes = b.shapes;
      fine = b.fine;
      typed = subst (Typed c b.shapes) (sym h.start) b.typed;
      k = 0;
      later = λ j. let e : 0 + j ≡ j = omega arith in ap (λ i. iter c i s) e;
      counted = λ j. let e : 0 + j ≡ j = omega arith in let d : 0 + count c j s ≡ count c j s = omega arith in ap (λ i. count c i s) e ∙ sym d;
      bound = let e = subst (λ t. measure c t ≤ 1001 * length c.instrs) (sym h.start) b.bound in omega (arith, e);
      ticks = refl;
      short = b.short;
    }

-- what the code saw of a step is what the definition says
goes_is : (l : Led State) (new : State) → StepsTo l new On → l ≡ Goes new
goes_is (Goes s) new h = ap Goes h
goes_is (Fails n) new h = absurd h
goes_is (Ends w) new h = absurd h
goes_is Lacks new h = absurd h

fails_is : (l : Led State) (new : State) (n : ℕ) → StepsTo l new (Fail n) → l ≡ Fails n
fails_is (Goes s) new n h = absurd h
fails_is (Fails m) new n h = ap Fails h
fails_is (Ends w) new n h = absurd h
fails_is Lacks new n h = absurd h

ends_is : (l : Led State) (new : State) → StepsTo l new Done → l ≡ Ends new.held.window
ends_is (Goes s) new h = absurd h
ends_is (Fails m) new h = absurd h
ends_is (Ends w) new h = ap Ends h
ends_is Lacks new h = absurd h

lacks_is : (l : Led State) (new : State) → StepsTo l new Lack → l ≡ Lacks
lacks_is (Goes s) new h = absurd h
lacks_is (Fails m) new h = absurd h
lacks_is (Ends w) new h = absurd h
lacks_is Lacks new h = refl

module _ {L : Type 0} (noted : L → L → Type 0) (c : CodeValue) (s now new : State) (n m : Counted L) (r : Running noted c s now n m) where
  pub next : StepsTo (step c now) new On → Next c r.shapes now new
  next h = subst (NextLed c r.shapes now) (goes_is (step c now) new h) (step_next c r.shapes r.fine now r.typed)

  iter_goes : (j : ℕ) → StepsTo (step c now) new On → iter c (suc j) now ≡ iter c j new
  unfolding iter
  iter_goes j h = ap (λ l. and_then l (iter c j)) (goes_is (step c now) new h)

  count_goes : (j : ℕ) → StepsTo (step c now) new On → count c (suc j) now ≡ suc (count c j new)
  unfolding count
  count_goes j h = ap (one_more (count c j)) (goes_is (step c now) new h)

  pub running_more : (m1 : Counted L) → IsTick noted m m1 → StepsTo (step c now) new On → Running noted c s new n m1
  running_more m1 t h =
      let x = next h in
      record {
        shapes = r.shapes;
        fine = r.fine;
        typed = x.typed;
        k = suc r.k;
        later = λ j. let e : suc r.k + j ≡ r.k + suc j = omega arith in ap (λ i. iter c i s) e ∙ r.later (suc j) ∙ iter_goes j h;
        counted = λ j.
            let e : suc r.k + j ≡ r.k + suc j = omega arith in
            let d : r.k + suc (count c j new) ≡ suc r.k + count c j new = omega arith in
            ap (λ i. count c i s) e ∙ r.counted (suc j) ∙ ap (λ i. r.k + i) (count_goes j h) ∙ d;
        bound = omega (arith, x.less, r.bound);
        ticks = (m, r.ticks, t);
        short = r.short;
      }

  pub less_more : StepsTo (step c now) new On → measure c new < measure c now
  less_more h = (next h).less

  abbrev left : ℕ
  left = 1001 * length c.instrs - r.k - 1

  whole : 1001 * length c.instrs ≡ r.k + suc left
  whole = let p = measure_some c r.shapes r.fine now r.typed in omega (arith, r.bound)

  -- all steps, with the one that ended the run
  all_ticks : (m1 : Counted L) → IsTick noted m m1 → count c (1001 * length c.instrs) s ≡ r.k + 1 → Ticks noted (count c (1001 * length c.instrs) s) n m1
  all_ticks m1 t e =
      let d : suc r.k ≡ count c (1001 * length c.instrs) s = omega (arith, e) in
      let x : Ticks noted (suc r.k) n m1 = (m, r.ticks, t) in
      subst (λ j. Ticks noted j n m1) d x

  pub ran_failed : (m1 : Counted L) → IsTick noted m m1 → (k : ℕ) → StepsTo (step c now) new (Fail k) → Ran noted c (counting s n) (counting new m1) (Failed k)
  unfolding iter count
  ran_failed m1 t k h =
      let e = fails_is (step c now) new k h in
      let a : count c (1001 * length c.instrs) s ≡ r.k + 1 = ap (λ i. count c i s) whole ∙ r.counted (suc left) ∙ ap (λ l. r.k + one_more (count c left) l) e in
      (ap (λ i. iter c i s) whole ∙ r.later (suc left) ∙ ap (λ l. and_then l (iter c left)) e, all_ticks m1 t a)

  pub ran_done : (m1 : Counted L) → IsTick noted m m1 → StepsTo (step c now) new Done → Ran noted c (counting s n) (counting new m1) DoneEnd
  unfolding iter count
  ran_done m1 t h =
      let e = ends_is (step c now) new h in
      let a : count c (1001 * length c.instrs) s ≡ r.k + 1 = ap (λ i. count c i s) whole ∙ r.counted (suc left) ∙ ap (λ l. r.k + one_more (count c left) l) e in
      (ap (λ i. iter c i s) whole ∙ r.later (suc left) ∙ ap (λ l. and_then l (iter c left)) e, all_ticks m1 t a)

  pub never_lacks : StepsTo (step c now) new Lack → ⊥
  never_lacks h = subst (NextLed c r.shapes now) (lacks_is (step c now) new h) (step_next c r.shapes r.fine now r.typed)

-- the same, and the step that comes next is counted and noted already
pub record Ahead {L : Type 0} (noted : L → L → Type 0) (c : CodeValue) (s now : State) (n m : Counted L) : Type 0 where
  pub before : Counted L
  pub running : Running noted c s now n before
  pub tick : IsTick noted before m

-- the machine can do its next step
pub ready : {L : Type 0} (noted : L → L → Type 0) (c : CodeValue) (s now : State) (n m : Counted L) → Running noted c s now n m → Ready c now
ready noted c s now n m r =
    let t = r.typed in
    record {
      room = stack_most c r.shapes now t;
      args = λ i at. (t.fine.places now.place i t.low t.high at).args;
      functions = λ f g at. let x = r.fine.each f g at in (x.params, x.few);
      within = omega (arith, t.high, t.fine.within);
      place = omega (arith, t.high, t.fine.within, r.short);
    }
