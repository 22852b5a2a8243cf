-- No jump of valid code leaves its function.
use Rattle.std.proofs.Common.{◌≡◌, ℕ, suc, ◌<◌, ◌≤◌, ◌⊎◌, inl, inr, List, length, Some, refl, sym, ap, ◌∙◌, subst, arith, add-one, Bool, true, false, drop}
use Rattle.std.specs.Prelude.{slice_get, nat_lt, ◌&&◌, is_some}
use Rattle.list_laws.proofs.Tests.{both}
use Rattle.stack_code.specs.Sorts.{Sort, Goto, GotoFalse, sort}
use Rattle.stack_code.specs.Machine.{FunctionValue, CodeValue}
use Rattle.stack_code.specs.Laws.{JumpsStay, target_of, end_of}
use Rattle.stack_code.specs.Valid.{Kinds, Notes, Around, around, Exits, exits, pop, jump_fits, forward_fits, pass_all, end_with, valid, first_fits, length_fits, no_notes}
use Rattle.stack_code.specs.declared.instr.Operand.TheVariants.{Number}
use Rattle.stack_code.specs.declared.instr.Instr.{Instr}
use Rattle.stack_code.specs.declared.instr.Instr.TheVariants.{Jump, JumpFalse}
use Rattle.stack_code.proofs.Passes.{jump_gives, fork_gives}
use Rattle.stack_code.proofs.Typed.{Jumps, jumps_by, forward_gives}
use Rattle.stack_code.proofs.Bound.{FineUpTo, all_fine, is_some_gives}

target_goto : (i : Instr) (q : ℕ) → target_of i ≡ Some q → (sort i ≡ Goto q) ⊎ (sort i ≡ GotoFalse q)
target_goto (Jump r) q e = let s : r ≡ q = cc in inl (ap Goto s)
target_goto (JumpFalse r) q e = let s : r ≡ q = cc in inr (ap GotoFalse s)
target_goto i q e = cc

-- where a jump leads, as its place says
stays : (a : Around) (p q : ℕ) (ks : Kinds) (x : Exits) (so : Sort) → exits a p so ks ≡ Some x → a.function.first ≤ p → p < a.end → (so ≡ Goto q) ⊎ (so ≡ GotoFalse q) → (a.function.first ≤ q) × (q < a.end)
stays a p q ks x so e low high (inl g) =
    let m = jump_gives (jump_fits a p q) q ks x (subst (λ so. exits a p so ks ≡ Some x) g e) in
    inside (nat_lt p q) (jumps_by a p q (nat_lt p q) m.0)
  where
    inside : (b : Bool) → Jumps a p q b → (a.function.first ≤ q) × (q < a.end)
    inside true j = (omega (arith, low, j.0), j.1)
    inside false j = (j.1, omega (arith, high, j.0))
stays a p q ks x so e low high (inr g) =
    let k = fork_gives (forward_fits a p q) q (pop Number ks) x (subst (λ so. exits a p so ks ≡ Some x) g e) in
    let j = forward_gives a p q k.2 in
    (omega (arith, low, j.0), j.1)

module _ (c : CodeValue) where
  -- the notes of valid code
  passed : valid c ≡ true → (shapes : Notes) × (pass_all c c.functions 0 (no_notes c) ≡ Some shapes)
  unfolding valid
  passed e =
      let x = both (length_fits (length c.instrs) && first_fits c.functions) (is_some (pass_all c c.functions 0 (no_notes c))) e in
      is_some_gives (pass_all c c.functions 0 (no_notes c)) x.1

  -- each function of valid code is fine, up to where the next one begins
  fine_upto : (gs : List FunctionValue) (shapes : Notes) → c.functions ≡ gs → pass_all c gs 0 (no_notes c) ≡ Some shapes → (f : ℕ) (g : FunctionValue) → slice_get c.functions f ≡ Some g → FineUpTo c shapes g (end_of c f)
  fine_upto gs shapes e p f g at =
      let r = (all_fine c gs 0 (no_notes c) shapes p).3 f g (subst (λ l. slice_get l f ≡ Some g) e at) in
      let d : end_with (length c.instrs) (drop (suc f) gs) ≡ end_of c f = ap (λ (l : List FunctionValue). end_with (length c.instrs) (drop (suc f) l)) (sym e) ∙ ap (λ k. end_with (length c.instrs) (drop k c.functions)) (sym (add-one f)) in
      (r.0, r.1 ∙ d)

  -- no jump of valid code leaves its function
  pub jumps_stay : valid c ≡ true → JumpsStay c
  jumps_stay e f p q g i at low high here to =
      let shapes = (passed e).0 in
      let r = fine_upto c.functions shapes refl (passed e).1 f g at in
      let h : p < r.0.end = omega (arith, high, r.1) in
      let x = r.0.places p i low h here in
      let s = stays (around c g r.0.end) p q x.kinds x.exit (sort i) x.leads low h (target_goto i q to) in
      (s.0, omega (arith, s.1, r.1))
