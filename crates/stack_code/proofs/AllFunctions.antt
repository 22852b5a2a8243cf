-- The pass over a function, in the words of the code.
use Rattle.std.proofs.Common.{◌≡◌, ℕ, ◌-◌, ◌<◌, ◌≤◌, List, length, Option, Some, None, refl, sym, ap, ◌∙◌, subst, arith, suc, ◌+◌, ◌∷◌, get_or, drop-cons, Bool, true, false, take, drop, ◌⊎◌, inl, inr, []}
use Rattle.std.proofs.Math.ListN.{drop_of_length-le}
use Rattle.std.proofs.lemmas.Bool.{ltb-true, eqb-true}
use Rattle.std.specs.Prelude.{if◌then◌else◌, nat_eq, nat_lt, nat_le, ◌==◌, ◌&&◌, is_some}
use Rattle.list_laws.proofs.Tests.{both}
use Rattle.stack_code.specs.Machine.{FunctionValue, CodeValue}
use Rattle.stack_code.specs.declared.instr.Instr.{Instr}
use Rattle.stack_code.specs.Valid.{◌>>=◌, Notes, around, pass, stretch, pass_function, pass_all, end_with, function_fits}
use Rattle.stack_code.specs.declared.kind_lists.Node.{Node}
use Rattle.stack_code.specs.KindLists.{PassLeaves, FunctionLeaves}

pub one_false : (c : CodeValue) (g : FunctionValue) (p end : ℕ) (n : Notes) → function_fits g p end ≡ false → pass_function c g p end n ≡ None
one_false c g p end n e = ap (λ (b : Bool). if b then pass (around c g end) (stretch c p end) p (Some []) n else None) e

leaves_one : (o : Option Notes) (len end : ℕ) (lists : List Node) (notes : List ℕ) (r : Bool) → PassLeaves o lists notes r → FunctionLeaves o (len < end) lists notes r
leaves_one o len end lists notes true h = h
leaves_one o len end lists notes false h = inl h

pub one_true : (c : CodeValue) (g : FunctionValue) (p end : ℕ) (n : Notes) (is : List Instr) (lists : List Node) (notes : List ℕ) (r : Bool) → function_fits g p end ≡ true → is ≡ take (end - p) (drop p c.instrs) → PassLeaves (pass (around c g end) is p (Some []) n) lists notes r → FunctionLeaves (pass_function c g p end n) (length c.instrs < end) lists notes r
one_true c g p end n is lists notes r fits e h =
    let a = around c g end in
    let q : pass a is p (Some []) n ≡ pass_function c g p end n =
    ap (λ l. pass a l p (Some []) n) e ∙ sym (ap (λ (b : Bool). if b then pass a (stretch c p end) p (Some []) n else None) fits) in
    leaves_one (pass_function c g p end n) (length c.instrs) end lists notes r (subst (λ o. PassLeaves o lists notes r) q h)

pub one_short : (o : Option Notes) (len end : ℕ) (lists : List Node) (notes : List ℕ) → len < end → FunctionLeaves o (len < end) lists notes false
one_short o len end lists notes h = inr h

fits_before : (g : FunctionValue) (p end : ℕ) → function_fits g p end ≡ true → p < end
fits_before g p end e =
    let x = both (g.first == p && nat_lt p end && nat_le g.params (length g.slots)) (nat_le (length g.slots) 72) e in
    let y = both (g.first == p && nat_lt p end) (nat_le g.params (length g.slots)) x.0 in
    ltb-true p end (both (g.first == p) (nat_lt p end) y.0).1

then_none : (o : Option Notes) (go : Notes → Option Notes) → ((m : Notes) → go m ≡ None) → (o >>= go) ≡ None
then_none None go f = refl
then_none (Some m) go f = f m

apart_by : (b : Bool) (p n : ℕ) → (b ≡ true → p ≡ n) → n < p → b ≡ false
apart_by true p n f h = let e = f refl in absurd (omega (arith, e))
apart_by false p n f h = refl

past_step : (c : CodeValue) (g : FunctionValue) (gs : List FunctionValue) (p end : ℕ) (n : Notes) → length c.instrs < p → (b : Bool) → function_fits g p end ≡ b → ((m : Notes) → length c.instrs < end → pass_all c gs end m ≡ None) → (pass_function c g p end n >>= pass_all c gs end) ≡ None
past_step c g gs p end n h true e rec =
    let lt = fits_before g p end e in
    then_none (pass_function c g p end n) (pass_all c gs end) (λ m. rec m (omega (arith, lt, h)))
past_step c g gs p end n h false e rec = ap (λ (o : Option Notes). o >>= pass_all c gs end) (one_false c g p end n e)

-- beyond the code nothing is valid
past_none : (c : CodeValue) (gs : List FunctionValue) (p : ℕ) (n : Notes) → length c.instrs < p → pass_all c gs p n ≡ None
unfolding pass_all
past_none c [] p n h = ap (λ (b : Bool). if b then Some n else None) (apart_by (nat_eq p (length c.instrs)) p (length c.instrs) (eqb-true p (length c.instrs)) h)
past_none c (g ∷ gs) p n h = past_step c g gs p (end_with (length c.instrs) gs) n h (function_fits g p (end_with (length c.instrs) gs)) refl (λ m k. past_none c gs (end_with (length c.instrs) gs) m k)

-- one function done, and the others
drop_at : (gs : List FunctionValue) (k : ℕ) (g : FunctionValue) → k < length gs → g ≡ get_or gs k g → drop k gs ≡ g ∷ drop (k + 1) gs
drop_at gs k g lt e = let s : k + 1 ≡ suc k = omega arith in drop-cons gs k g lt ∙ ap (λ x. x ∷ drop (suc k) gs) (sym e) ∙ ap (λ j. g ∷ drop j gs) (sym s)

module _ (c : CodeValue) (gs : List FunctionValue) (k p end : ℕ) (g : FunctionValue) (n : Notes) (lt : k < length gs) (at : g ≡ get_or gs k g) (ends : end ≡ end_with (length c.instrs) (drop (k + 1) gs)) where
  all_here : pass_all c (drop k gs) p n ≡ (pass_function c g p end n >>= pass_all c (drop (k + 1) gs) end)
  unfolding pass_all
  all_here = ap (λ l. pass_all c l p n) (drop_at gs k g lt at) ∙ ap (λ e. pass_function c g p e n >>= pass_all c (drop (k + 1) gs) e) (sym ends)

  pub all_step : (m : Notes) → pass_function c g p end n ≡ Some m → pass_all c (drop k gs) p n ≡ pass_all c (drop (k + 1) gs) end m
  all_step m e = all_here ∙ ap (λ (o : Option Notes). o >>= pass_all c (drop (k + 1) gs) end) e

  pub all_none : ((pass_function c g p end n ≡ None) ⊎ (length c.instrs < end)) → pass_all c (drop k gs) p n ≡ None
  all_none (inl e) = all_here ∙ ap (λ (o : Option Notes). o >>= pass_all c (drop (k + 1) gs) end) e
  all_none (inr h) = all_here ∙ then_none (pass_function c g p end n) (pass_all c (drop (k + 1) gs) end) (λ m. past_none c (drop (k + 1) gs) end m h)

pub all_end : (c : CodeValue) (gs : List FunctionValue) (k p : ℕ) (n : Notes) → length gs ≤ k → is_some (pass_all c (drop k gs) p n) ≡ nat_eq p (length c.instrs)
unfolding pass_all
all_end c gs k p n le = rw (drop_of_length-le gs le) (some_by (nat_eq p (length c.instrs)) n)
  where
    some_by : (b : Bool) (n : Notes) → is_some (if b then Some n else None) ≡ b
    some_by true n = refl
    some_by false n = refl
