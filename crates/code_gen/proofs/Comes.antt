-- What a machine comes to, after some number of instructions.
use Rattle.std.proofs.Common.{◌≡◌, ℕ, zero, suc, ◌+◌, ◌*◌, length, Some, refl, sym, ap, ◌∙◌, subst, arith, true}
use Rattle.std.specs.Prelude.{slice_get}
use Rattle.window_sites.specs.Window.{WindowValue}
use Rattle.stack_code.specs.Sorts.{sort}
use Rattle.stack_code.specs.Machine.{CodeValue, Led, Goes, Fails, Ends, Lacks, State, go_by, step, step_on, and_then, iter, start}
use Rattle.stack_code.specs.Laws.{IsOver}
use Rattle.stack_code.specs.Valid.{valid}
use Rattle.stack_code.specs.declared.instr.Instr.{Instr}
use Rattle.stack_code.proofs.Bound.{runs_well}

led_end : (c : CodeValue) (l : Led State) → and_then l (iter c 0) ≡ l
unfolding iter
led_end c (Goes s) = refl
led_end c (Fails n) = refl
led_end c (Ends w) = refl
led_end c Lacks = refl

module _ (c : CodeValue) where
  -- from one state the machine comes to this
  abbrev pub Comes : State → Led State → Type 0
  Comes s l = (n : ℕ) × (iter c n s ≡ l)

  more_led : (m n : ℕ) (l : Led State) (s1 : State) (r : Led State) → ((s : State) → iter c m s ≡ Goes s1 → iter c (m + n) s ≡ r) → and_then l (iter c m) ≡ Goes s1 → and_then l (iter c (m + n)) ≡ r
  more_led m n (Goes s) s1 r f e = f s e
  more_led m n (Fails k) s1 r f e = cc
  more_led m n (Ends w) s1 r f e = cc
  more_led m n Lacks s1 r f e = cc

  more : (m n : ℕ) (s s1 : State) (l : Led State) → iter c m s ≡ Goes s1 → iter c n s1 ≡ l → iter c (m + n) s ≡ l
  unfolding iter
  more zero n s s1 l e f =
      let z : 0 + n ≡ n = omega arith in
      let q : s ≡ s1 = cc in
      ap (λ k. iter c k s) z ∙ ap (iter c n) q ∙ f
  more (suc m) n s s1 l e f =
      let z : suc m + n ≡ suc (m + n) = omega arith in
      ap (λ k. iter c k s) z ∙ more_led m n (step c s) s1 l (λ s' e'. more m n s' s1 l e' f) e

  pub on : (s s1 : State) (l : Led State) → Comes s (Goes s1) → Comes s1 l → Comes s l
  on s s1 l a b = (a.0 + b.0, more a.0 b.0 s s1 l a.1 b.1)

  pub one : (s : State) (i : Instr) → slice_get c.instrs s.place ≡ Some i → Comes s (go_by c (sort i) s)
  unfolding iter
  one s i at = (1, led_end c (step c s) ∙ ap (step_on c s) at)

  pub stay : (s : State) → Comes s (Goes s)
  unfolding iter
  stay s = (0, refl)

  pub comes_to : (s : State) (l r : Led State) → Comes s l → l ≡ r → Comes s r
  comes_to s l r a e = (a.0, a.1 ∙ e)

-- the end of a run
abbrev pub IsEnd : Led State → Type 0
IsEnd (Goes s) = ⊥
IsEnd (Fails n) = Unit {0}
IsEnd (Ends w) = Unit {0}
IsEnd Lacks = Unit {0}

-- a run that has ended has ended in the same way with more instructions
over_led : (c : CodeValue) (m k : ℕ) (l r : Led State) → ((s : State) → iter c m s ≡ r → iter c (m + k) s ≡ r) → and_then l (iter c m) ≡ r → and_then l (iter c (m + k)) ≡ r
over_led c m k (Goes s) r f e = f s e
over_led c m k (Fails n) r f e = e
over_led c m k (Ends w) r f e = e
over_led c m k Lacks r f e = e

pub over_more : (c : CodeValue) (m k : ℕ) (s : State) (r : Led State) → IsEnd r → iter c m s ≡ r → iter c (m + k) s ≡ r
unfolding iter
over_more c zero k s r o e = absurd (subst IsEnd (sym e) o)
over_more c (suc m) k s r o e =
    let z : suc m + k ≡ suc (m + k) = omega arith in
    ap (λ n. iter c n s) z ∙ over_led c m k (step c s) r (λ s' e'. over_more c m k s' r o e') e

pub over_same : (c : CodeValue) (m n : ℕ) (s : State) (l r : Led State) → IsEnd l → IsEnd r → iter c m s ≡ l → iter c n s ≡ r → l ≡ r
over_same c m n s l r ol or e f =
    let a = over_more c m n s l ol e in
    let b = over_more c n m s r or f in
    let z : m + n ≡ n + m = omega arith in
    sym a ∙ ap (λ k. iter c k s) z ∙ b

over_end : (l : Led State) → IsOver l → IsEnd l
over_end (Goes s) h = h
over_end (Fails n) h = tt
over_end (Ends w) h = tt
over_end Lacks h = tt

-- code that comes to an end has it within the bound too, where it is valid
pub runs_ends : (c : CodeValue) (w : WindowValue) (seed : ℕ) (l : Led State) → valid c ≡ true → IsEnd l → Comes c (start c w seed) l → iter c (1001 * length c.instrs) (start c w seed) ≡ l
runs_ends c w seed l v o a =
    let well = runs_well c v w seed in
    over_same c (1001 * length c.instrs) a.0 (start c w seed) _ l (over_end _ well.over) o refl a.1
