-- Valid code ends within 1001 times its length, and lacks nothing.
use Rattle.std.proofs.Common.{◌≡◌, ℕ, zero, suc, ◌+◌, ◌-◌, ◌*◌, ◌<◌, ◌≤◌, List, [], ◌∷◌, length, Option, Some, None, refl, sym, ap, ◌∙◌, subst, arith, true, take, drop}
use Rattle.std.specs.Prelude.{slice_get, nat_lt, nat_le, nat_eq, ◌==◌, ◌&&◌, is_some}
use Rattle.std.proofs.lemmas.Bool.{leb-true, ltb-true, eqb-true}
use Rattle.std.proofs.lemmas.List.{length-take}
use Rattle.std.proofs.Common.{length-drop}
use Rattle.list_laws.proofs.Slots.{get_drop}
use Rattle.list_laws.proofs.Tests.{both}
use Rattle.window_sites.specs.Window.{WindowValue}
use Rattle.stack_code.specs.Machine.{FunctionValue, CodeValue, Led, Goes, Fails, Ends, Lacks, State, step, and_then, iter, one_more, count, start, start_with}
use Rattle.stack_code.specs.Laws.{IsOver, RunsWell}
use Rattle.stack_code.specs.Valid.{Notes, Around, around, pass, stretch, pass_all, pass_function, function_fits, end_with, valid, back_of, first_fits, length_fits, no_notes}
use Rattle.stack_code.specs.declared.instr.Instr.{Instr}
use Rattle.stack_code.proofs.Passes.{if_gives, then_gives, FinePlace, FineAll, Extends, pass_fine, extends_on, extends_same}
use Rattle.stack_code.proofs.Typed.{FunctionFine, CodeFine, Typed, measure, NextLed, step_next, fill_kinds, start_free, weight_by}

weight_some : (len p : ℕ) (o : Option ℕ) → p < len → 0 < weight_by len p o
weight_some len p None lt = omega arith
weight_some len p (Some q) lt = omega arith

module _ (c : CodeValue) (shapes : Notes) (cf : CodeFine c shapes) where
  pub measure_some : (s : State) → Typed c shapes s → 0 < measure c s
  measure_some s t = let p = weight_some (length c.instrs) s.place (back_of c.instrs s.place) (omega (arith, t.fine.within, t.high)) in omega (arith, p)

  over_led : (n : ℕ) (s : State) → measure c s ≤ suc n → (l : Led State) → NextLed c shapes s l → ((s' : State) → Typed c shapes s' → measure c s' ≤ n → IsOver (iter c n s')) → IsOver (and_then l (iter c n))
  over_led n s le (Goes s') h f = f s' h.typed (omega (arith, h.less))
  over_led n s le (Fails m) h f = tt
  over_led n s le (Ends w) h f = tt
  over_led n s le Lacks h f = h

  pub is_over : (n : ℕ) (s : State) → Typed c shapes s → measure c s ≤ n → IsOver (iter c n s)
  unfolding iter
  is_over zero s t le = let p = measure_some s t in absurd (omega arith)
  is_over (suc n) s t le = over_led n s le (step c s) (step_next c shapes cf s t) (λ s' t' le'. is_over n s' t' le')

  count_led : (n : ℕ) (s : State) → (l : Led State) → NextLed c shapes s l → ((s' : State) → Typed c shapes s' → count c n s' ≤ measure c s') → 0 < measure c s → one_more (count c n) l ≤ measure c s
  count_led n s (Goes s') h f pos1 = omega (arith, h.less, f s' h.typed)
  count_led n s (Fails m) h f pos1 = pos1
  count_led n s (Ends w) h f pos1 = pos1
  count_led n s Lacks h f pos1 = absurd h

  -- no more instructions than the measure of the first state
  pub count_most : (n : ℕ) (s : State) → Typed c shapes s → count c n s ≤ measure c s
  unfolding count
  count_most zero s t = omega arith
  count_most (suc n) s t = count_led n s (step c s) (step_next c shapes cf s t) (λ s' t'. count_most n s' t') (measure_some s t)

get_take : {A : Type 0} (n k : ℕ) (xs : List A) → k < n → slice_get (take n xs) k ≡ slice_get xs k
get_take zero k xs lt = absurd (omega arith)
get_take (suc n) k [] lt = refl
get_take (suc n) zero (x ∷ xs) lt = refl
get_take (suc n) (suc k) (x ∷ xs) lt = get_take n k xs (omega arith)

fine_more : (a : Around) (m shapes : Notes) (p : ℕ) (i : Instr) → Extends m shapes → FinePlace a m p i → FinePlace a shapes p i
fine_more a m shapes p i x f = record { kinds = f.kinds; at = x.by p f.kinds f.at; args = f.args; depth = f.depth; exit = f.exit; leads = f.leads; jumps = λ j e. x.by j.0 j.1 (f.jumps j e); falls = λ k e. let g = f.falls k e in (x.by (p + 1) k g.0, g.1) }

fine_at : (a : Around) (shapes : Notes) (is : List Instr) (p k : ℕ) (i : Instr) → FineAll a shapes p is → slice_get is k ≡ Some i → FinePlace a shapes (p + k) i
fine_at a shapes [] p k i f e = absurd (cc)
fine_at a shapes (j ∷ is) p zero i f e =
    let s : j ≡ i = cc in let q : p ≡ p + 0 = omega arith in
    subst (λ n. FinePlace a shapes n i) q (subst (λ j. FinePlace a shapes p j) s f.0)
fine_at a shapes (j ∷ is) p (suc k) i f e =
    let q : p + 1 + k ≡ p + suc k = omega arith in
    subst (λ n. FinePlace a shapes n i) q (fine_at a shapes is (p + 1) k i f.1 e)

fits_gives : (g : FunctionValue) (p end : ℕ) → function_fits g p end ≡ true → (nat_eq g.first p ≡ true) × (p < end) × (g.params ≤ length g.slots) × (length g.slots ≤ 72)
fits_gives g p end e =
    let x = both (g.first == p && nat_lt p end && nat_le g.params (length g.slots)) (nat_le (length g.slots) 72) e in
    let y = both (g.first == p && nat_lt p end) (nat_le g.params (length g.slots)) x.0 in
    let z = both (g.first == p) (nat_lt p end) y.0 in
    (z.0, ltb-true p end z.1, leb-true g.params (length g.slots) y.1, leb-true (length g.slots) 72 x.1)

-- a function of valid code, with the place where it ends
abbrev pub FineUpTo : CodeValue → Notes → FunctionValue → ℕ → Type 0
FineUpTo c shapes g end = (f : FunctionFine c shapes g) × (f.end ≡ end)

one_or : (c : CodeValue) (shapes : Notes) (g : FunctionValue) (gs : List FunctionValue) → FineUpTo c shapes g (end_with (length c.instrs) gs) → ((k : ℕ) (h : FunctionValue) → slice_get gs k ≡ Some h → FineUpTo c shapes h (end_with (length c.instrs) (drop (suc k) gs))) → (k : ℕ) (h : FunctionValue) → slice_get (g ∷ gs) k ≡ Some h → FineUpTo c shapes h (end_with (length c.instrs) (drop (suc k) (g ∷ gs)))
one_or c shapes g gs f r zero h e = let s : g ≡ h = cc in subst (λ h. FineUpTo c shapes h (end_with (length c.instrs) gs)) s f
one_or c shapes g gs f r (suc k) h e = r k h e

pub is_some_gives : {A : Type 0} (o : Option A) → is_some o ≡ true → (x : A) × (o ≡ Some x)
is_some_gives None e = cc
is_some_gives (Some x) e = (x, refl)

first_zero : (c : CodeValue) (g : FunctionValue) (gs : List FunctionValue) (shapes n : Notes) → pass_all c (g ∷ gs) 0 n ≡ Some shapes → g.first ≡ 0
unfolding pass_all
first_zero c g gs shapes n e =
    let end = end_with (length c.instrs) gs in
    let y = then_gives (pass_function c g 0 end n) (pass_all c gs end) shapes e in
    let x = if_gives (function_fits g 0 end) (pass (around c g end) (stretch c 0 end) 0 (Some []) n) y.0 y.1 in
    eqb-true g.first 0 (fits_gives g 0 end x.0).0

module _ (c : CodeValue) where
  -- a function that passed
  function_fine : (g : FunctionValue) (p end : ℕ) (n m shapes : Notes) → end ≤ length c.instrs → pass_function c g p end n ≡ Some m → Extends m shapes → FineUpTo c shapes g end × Extends n m × (p < end)
  function_fine g p end n m shapes le e x =
      let is = stretch c p end in
      let a = around c g end in
      let y = if_gives (function_fits g p end) (pass a is p (Some []) n) m e in
      let z = fits_gives g p end y.0 in
      let first : g.first ≡ p = eqb-true g.first p z.0 in
      let len : p + length is ≡ end = omega (arith, z.1, le, length-take (end - p) (drop p c.instrs), length-drop p c.instrs) in
      let f = pass_fine a is p (Some []) n m len y.1 in
      let st = f.1 [] refl in
      let fine : FunctionFine c shapes g =
      record {
        end = end;
        some = omega (arith, first, z.1);
        within = le;
        params = z.2;
        few = z.3;
        starts = x.by g.first [] (subst (λ q. slice_get m q ≡ Some (Some [])) (sym first) st.0);
        places = λ q i low high at.
            let k : p + (q - p) ≡ q = omega (arith, first, low) in
            let b : q - p < end - p = omega (arith, first, low, high) in
            let e1 : slice_get is (q - p) ≡ Some i = get_take (end - p) (q - p) (drop p c.instrs) b ∙ get_drop p (q - p) c.instrs ∙ ap (slice_get c.instrs) k ∙ at in
            subst (λ n. FinePlace a shapes n i) k (fine_more a m shapes (p + (q - p)) i x (fine_at a m is p (q - p) i f.2 e1));
      } in
      ((fine, refl), f.0, z.1)

  pub all_fine : (gs : List FunctionValue) (p : ℕ) (n shapes : Notes) → pass_all c gs p n ≡ Some shapes → Extends n shapes × (p ≤ length c.instrs) × (end_with (length c.instrs) gs ≤ length c.instrs) × ((k : ℕ) (g : FunctionValue) → slice_get gs k ≡ Some g → FineUpTo c shapes g (end_with (length c.instrs) (drop (suc k) gs)))
  unfolding pass_all
  all_fine [] p n shapes e =
      let y = if_gives (nat_eq p (length c.instrs)) (Some n) shapes e in
      let l : p ≡ length c.instrs = eqb-true p (length c.instrs) y.0 in
      (extends_same n shapes (cc), omega (arith, l), omega arith, λ k g h. absurd (cc))
  all_fine (g ∷ gs) p n shapes e =
      let end = end_with (length c.instrs) gs in
      let y = then_gives (pass_function c g p end n) (pass_all c gs end) shapes e in
      let m = y.0 in
      let r = all_fine gs end m shapes y.2 in
      let h = function_fine g p end n m shapes r.1 y.1 r.0 in
      let q : g.first ≤ length c.instrs = omega (arith, h.0.0.some, h.0.0.within) in
      (extends_on n m shapes h.1 r.0, omega (arith, h.2, r.1), q, one_or c shapes g gs h.0 r.3)

  start_first : (shapes : Notes) (gs : List FunctionValue) → CodeFine c shapes → c.functions ≡ gs → (g : FunctionValue) → slice_get c.functions 0 ≡ Some g → g.first ≡ 0 → (w : WindowValue) (seed : ℕ) → Typed c shapes (start_with w seed (Some g)) × (measure c (start_with w seed (Some g)) ≤ 1001 * length c.instrs)
  start_first shapes gs cf e g at z w seed =
      let fine = cf.each 0 g at in
      let y = ap (weight_by (length c.instrs) 0) (subst (λ p. back_of c.instrs p ≡ None) z (start_free c shapes g fine)) in
      let here : slice_get shapes 0 ≡ Some (Some []) = subst (λ p. slice_get shapes p ≡ Some (Some [])) z fine.starts in
      (record { g = g; fine = fine; low = omega (arith, z); high = omega (arith, z, fine.some); here = here; slots = fill_kinds g.slots; below = tt }, omega (arith, y))

  -- valid code at its start
  pub record Starts (w : WindowValue) (seed : ℕ) : Type 0 where
    pub shapes : Notes
    pub fine : CodeFine c shapes
    pub typed : Typed c shapes (start c w seed)
    pub bound : measure c (start c w seed) ≤ 1001 * length c.instrs
    pub short : length c.instrs ≤ 65536

  starts_with : (gs : List FunctionValue) (shapes : Notes) → c.functions ≡ gs → first_fits gs ≡ true → pass_all c gs 0 (no_notes c) ≡ Some shapes → length c.instrs ≤ 65536 → (w : WindowValue) (seed : ℕ) → Starts w seed
  starts_with [] shapes e f p short w seed = cc
  starts_with (g ∷ gs) shapes e f p short w seed =
      let r = all_fine (g ∷ gs) 0 (no_notes c) shapes p in
      let cf : CodeFine c shapes = record { each = λ k h at. (r.3 k h (subst (λ l. slice_get l k ≡ Some h) e at)).0 } in
      let at : slice_get c.functions 0 ≡ Some g = ap (λ l. slice_get l 0) e in
      let z = first_zero c g gs shapes (no_notes c) p in
      let st = start_first shapes (g ∷ gs) cf e g at z w seed in
      let s : start_with w seed (Some g) ≡ start c w seed = ap (start_with w seed) (sym at) in
      record {
        shapes = shapes;
        fine = cf;
        typed = subst (Typed c shapes) s st.0;
        bound = subst (λ s. measure c s ≤ 1001 * length c.instrs) s st.1;
        short = short;
      }

  pub starts : valid c ≡ true → (w : WindowValue) (seed : ℕ) → Starts w seed
  unfolding valid
  starts e w seed =
      let x = both (length_fits (length c.instrs) && first_fits c.functions) (is_some (pass_all c c.functions 0 (no_notes c))) e in
      let y = both (length_fits (length c.instrs)) (first_fits c.functions) x.0 in
      let z = is_some_gives (pass_all c c.functions 0 (no_notes c)) x.1 in
      let l = both (nat_le 1 (length c.instrs)) (nat_le (length c.instrs) 65536) y.0 in
      starts_with c.functions z.0 refl y.1 z.1 (leb-true (length c.instrs) 65536 l.1) w seed

  -- valid code ends, and never lacks an operand
  pub runs_well : valid c ≡ true → (w : WindowValue) (seed : ℕ) → RunsWell c w seed
  runs_well e w seed =
      let b = starts e w seed in
      record {
        over = is_over c b.shapes b.fine (1001 * length c.instrs) (start c w seed) b.typed b.bound;
        few = omega (arith, b.bound, count_most c b.shapes b.fine (1001 * length c.instrs) (start c w seed) b.typed);
      }
