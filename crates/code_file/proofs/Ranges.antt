-- Valid code has its numbers in their ranges.
use Rattle.std.proofs.Common.{◌≡◌, ℕ, zero, suc, ◌+◌, ◌*◌, ◌<◌, ◌≤◌, List, [], ◌∷◌, length, Option, Some, None, refl, sym, ap, subst, ◌∙◌, arith, Bool, true, false, inl, inr, le-mul_of_pos_right}
use Rattle.std.specs.Prelude.{slice_get, nat_lt, nat_le, nat_eq, ◌==◌, ◌&&◌, is_some}
use Rattle.std.specs.List.{AllByRecursion}
use Rattle.std.proofs.lemmas.Bool.{cases_lt, eqb-true, leb-true, ltb-true}
use Rattle.std.proofs.lemmas.Option.{slice_get_within}
use Rattle.sat_math.proofs.Laws.{least_one}
use Rattle.list_laws.proofs.Entries.{all_from_get}
use Rattle.list_laws.proofs.Tests.{both}
use Rattle.sat_math.specs.Numbers.{greatest_width, least_width}
use Rattle.sat_math.specs.declared.Kind.{Kind}
use Rattle.sat_math.specs.declared.Kind.TheVariants as kind
use Rattle.stack_code.specs.Machine.{CodeValue, FunctionValue}
use Rattle.stack_code.specs.Sorts.{num_type, sort}
use Rattle.stack_code.specs.Valid.{Around, Exits, Kinds, Notes, after_call, and_pop, args_fit, around, end_with, exits, falls_exit, field_fits, first_fits, forward_fits, function_fits, if_atom, jump_fits, length_fits, no_notes, pass, pass_all, pass_function, pop, pop_slot, push, push_slot, stretch, type_fits, valid}
use Rattle.stack_code.specs.declared.instr.Instr.{Instr}
use Rattle.stack_code.specs.declared.instr.Instr.TheVariants.{Call, Fit, IsKind, Jump, JumpFalse, LoadField, LoadFieldAt, LoadLocal, LoadPart, LoadPartAt, NotW, PushAtom, PushNum, Shl, StoreField, StoreFieldAt, StoreLocal, StorePart, StorePartAt}
use Rattle.stack_code.specs.declared.instr.Operand.{Operand}
use Rattle.stack_code.specs.declared.instr.Operand.TheVariants.{Number}
use Rattle.stack_code.proofs.Bound.{all_fine, is_some_gives}
use Rattle.stack_code.proofs.Passes.{FinePlace, fork_gives, if_gives, jump_gives, then_gives}
use Rattle.stack_code.proofs.Typed.{Jumps, forward_gives, jumps_by}
use Rattle.code_file.specs.Form.{ElementValue, IsElement, IsFunction}
use Rattle.code_file.specs.Instrs.{IsByte, IsField, IsInstr, IsPlace}
use Rattle.code_file.specs.Ranged.{IsNamed, IsRanged, OfTypes}

-- Lists

all_at : {A : Type 0} (P : A → Type 0) (xs : List A) → AllByRecursion P xs → (k : ℕ) (x : A) → slice_get xs k ≡ Some x → P x
all_at P [] all k x e = absurd cc
all_at P (y ∷ xs) all zero x e = let same : y ≡ x = cc in subst P same all.0
all_at P (y ∷ xs) all (suc k) x e = all_at P xs all.1 k x e

-- Widths

greatest_most : (k : Kind) → greatest_width k ≤ 64
greatest_most kind.Int = omega arith
greatest_most kind.Unsigned = omega arith
greatest_most kind.Bits = omega arith
greatest_most kind.Bool = omega arith
greatest_most kind.Unary = omega arith

type_in : (k : Kind) (w : ℕ) → type_fits (num_type k w) ≡ true → (1 ≤ w) × (w ≤ 64)
type_in k w e =
    let y = both (nat_le (least_width k) w) (nat_le w (greatest_width k)) e in
    let low = leb-true (least_width k) w y.0 in
    let high = leb-true w (greatest_width k) y.1 in
    (omega (arith, least_one k, low), omega (arith, greatest_most k, high))

field_in : (f w n : ℕ) (k : Kind) → field_fits f (num_type k w) n ≡ true → IsField f w × IsByte n
field_in f w n k e =
    let y = both (type_fits (num_type k w) && nat_le 1 n) (nat_le (f + n * w) 71) e in
    let z = both (type_fits (num_type k w)) (nat_le 1 n) y.0 in
    let h = leb-true (f + n * w) 71 y.1 in
    let t = type_in k w z.0 in
    let m : n ≤ n * w = le-mul_of_pos_right n t.0 in
    ((omega (arith, h), omega (arith, t.1)), omega (arith, h, m))

-- Instructions

-- an element of a list that was found
found : {A : Type 0} (xs : List A) (s : ℕ) (f : Option A → Option Kinds) → f None ≡ None → (x : Exits) → falls_exit (f (slice_get xs s)) ≡ Some x → s < length xs
found {A = A} xs s f none x h = by (slice_get xs s) refl h
  where
    by : (o : Option A) → slice_get xs s ≡ o → falls_exit (f o) ≡ Some x → s < length xs
    by None e h = let never = ap falls_exit (sym none) ∙ h in absurd cc
    by (Some y) e h = slice_get_within xs s y e

-- where a place of valid code stands
record Bounds (a : Around) (p : ℕ) : Type 0 where
  pub slots : length a.function.slots ≤ 72
  pub end : a.end ≤ 65536
  pub high : p < a.end
  pub functions : length a.code.functions ≤ 65536

target_in : (a : Around) (p q : ℕ) (b : Bool) → Bounds a p → Jumps a p q b → IsPlace q
target_in a p q true h j = omega (arith, h.end, j.1)
target_in a p q false h j = omega (arith, h.end, h.high, j.0)

module _ (most : ℕ) (a : Around) (p : ℕ) (ks : Kinds) (x : Exits) (h : Bounds a p) where
  slot_in : (s : ℕ) (f : Option Operand → Option Kinds) → f None ≡ None → falls_exit (f (slice_get a.function.slots s)) ≡ Some x → IsByte s
  slot_in s f none l = omega (arith, h.slots, found a.function.slots s f none x l)

  in_range : (i : Instr) → OfTypes most i → args_fit i ≡ true → exits a p (sort i) ks ≡ Some x → IsInstr most i
  in_range (PushNum v) t e l = e
  in_range (PushAtom k) t e l = t
  in_range (LoadLocal s) t e l = slot_in s (λ o. push_slot o ks) refl l
  in_range (StoreLocal s) t e l = slot_in s (λ o. pop_slot o ks) refl l
  in_range (LoadField f w k) t e l = (field_in f w 1 k e).0
  in_range (StoreField f w k) t e l = (field_in f w 1 k e).0
  in_range (LoadPart s f w k) t e l = (slot_in s (λ o. if_atom o (Some (Number ∷ ks))) refl l, (field_in f w 1 k e).0)
  in_range (StorePart s f w k) t e l = (slot_in s (λ o. if_atom o (pop Number ks)) refl l, (field_in f w 1 k e).0)
  in_range (IsKind k) t e l = t
  in_range (NotW w) t e l = type_in kind.Bits w e
  in_range (Shl w) t e l = type_in kind.Bits w e
  in_range (Fit k w) t e l = omega (arith, (type_in k w e).1)
  in_range (Jump q) t e l = target_in a p q (nat_lt p q) h (jumps_by a p q (nat_lt p q) (jump_gives (jump_fits a p q) q ks x l).0)
  in_range (JumpFalse q) t e l = omega (arith, h.end, (forward_gives a p q (fork_gives (forward_fits a p q) q (pop Number ks) x l).2).1)
  in_range (Call f) t e l = omega (arith, h.functions, found a.code.functions f (λ o. after_call o ks) refl x l)
  in_range (LoadFieldAt f w k n) t e l = field_in f w n k e
  in_range (StoreFieldAt f w k n) t e l = field_in f w n k e
  in_range (LoadPartAt s f w k n) t e l = (slot_in s (λ o. if_atom o (push Number (pop Number ks))) refl l, field_in f w n k e)
  in_range (StorePartAt s f w k n) t e l = (slot_in s (λ o. if_atom o (and_pop Number (pop Number ks))) refl l, field_in f w n k e)
  in_range i t e l = tt

-- Functions

fits_parts : (g : FunctionValue) (p end : ℕ) → function_fits g p end ≡ true → (g.first ≡ p) × (p < end)
fits_parts g p end e =
    let x = both (g.first == p && nat_lt p end && nat_le g.params (length g.slots)) (nat_le (length g.slots) 72) e in
    let y = both (g.first == p && nat_lt p end) (nat_le g.params (length g.slots)) x.0 in
    let z = both (g.first == p) (nat_lt p end) y.0 in
    (eqb-true g.first p z.0, ltb-true p end z.1)

some_first : (gs : List FunctionValue) → first_fits gs ≡ true → 1 ≤ length gs
some_first [] e = absurd cc
some_first (g ∷ gs) e = omega arith

module _ (c : CodeValue) where
  -- what passed from a place on
  record Passed (g : FunctionValue) (gs : List FunctionValue) (p : ℕ) (shapes : Notes) : Type 0 where
    pub first : g.first ≡ p
    pub some : p < end_with (length c.instrs) gs
    pub notes : Notes
    pub rest : pass_all c gs (end_with (length c.instrs) gs) notes ≡ Some shapes

  passed : (g : FunctionValue) (gs : List FunctionValue) (p : ℕ) (n shapes : Notes) → pass_all c (g ∷ gs) p n ≡ Some shapes → Passed g gs p shapes
  unfolding pass_all
  passed g gs p n shapes e =
      let end = end_with (length c.instrs) gs in
      let y = then_gives (pass_function c g p end n) (pass_all c gs end) shapes e in
      let x = if_gives (function_fits g p end) (pass (around c g end) (stretch c p end) p (Some []) n) y.0 y.1 in
      let f = fits_parts g p end x.0 in
      record { first = f.0; some = f.1; notes = y.0; rest = y.2 }

  ended : (p : ℕ) (n shapes : Notes) → pass_all c [] p n ≡ Some shapes → p ≡ length c.instrs
  unfolding pass_all
  ended p n shapes e = eqb-true p (length c.instrs) (if_gives (nat_eq p (length c.instrs)) (Some n) shapes e).0

  -- each function has an instruction
  counted : (gs : List FunctionValue) (p : ℕ) (n shapes : Notes) → pass_all c gs p n ≡ Some shapes → length gs + p ≤ length c.instrs
  counted [] p n shapes e = omega (arith, ended p n shapes e)
  counted (g ∷ gs) p n shapes e =
      let x = passed g gs p n shapes e in
      omega (arith, x.some, counted gs (end_with (length c.instrs) gs) x.notes shapes x.rest)

  -- an instruction that a function has
  record Placed (shapes : Notes) (p : ℕ) (i : Instr) : Type 0 where
    pub function : FunctionValue
    pub end : ℕ
    pub few : length function.slots ≤ 72
    pub within : end ≤ length c.instrs
    pub high : p < end
    pub fine : FinePlace (around c function end) shapes p i

  placed : (gs : List FunctionValue) (p : ℕ) (n shapes : Notes) → pass_all c gs p n ≡ Some shapes → (q : ℕ) (i : Instr) → p ≤ q → q < length c.instrs → slice_get c.instrs q ≡ Some i → Placed shapes q i
  placed [] p n shapes e q i low high at = absurd (omega (arith, low, high, ended p n shapes e))
  placed (g ∷ gs) p n shapes e q i low high at =
      let x = passed g gs p n shapes e in
      let f = (all_fine c (g ∷ gs) p n shapes e).3 0 g refl in
      elim (cases_lt q (end_with (length c.instrs) gs)) [
        | inl inside ↦ record { function = g; end = f.0.end; few = f.0.few; within = f.0.within; high = omega (arith, f.1, inside); fine = f.0.places q i (omega (arith, x.first, low)) (omega (arith, f.1, inside)) at }
        | inr past ↦ placed gs (end_with (length c.instrs) gs) x.notes shapes x.rest q i past high at
      ]

-- an element with valid code is one of a file, where its names, bases, parameters and types are right
pub valid_ranged : (most kind : ℕ) (e : ElementValue) → IsNamed most kind e → valid e.code ≡ true → IsElement most kind e
unfolding valid
valid_ranged most kind e h v =
    let c = e.code in
    let x = both (length_fits (length c.instrs) && first_fits c.functions) (is_some (pass_all c c.functions 0 (no_notes c))) v in
    let y = both (length_fits (length c.instrs)) (first_fits c.functions) x.0 in
    let z = is_some_gives (pass_all c c.functions 0 (no_notes c)) x.1 in
    let l = both (nat_le 1 (length c.instrs)) (nat_le (length c.instrs) 65536) y.0 in
    let few = leb-true (length c.instrs) 65536 l.1 in
    let many = counted c c.functions 0 (no_notes c) z.0 z.1 in
    let fine = (all_fine c c.functions 0 (no_notes c) z.0 z.1).3 in
    record {
      name = h.name;
      kind_is = h.kind_is;
      some_functions = some_first c.functions y.1;
      few_functions = omega (arith, many, few);
      functions = all_from_get IsFunction c.functions (λ k f at.
          let g = all_at IsRanged c.functions h.functions k f at in
          let u = (fine k f at).0 in
          record { name = g.name; base = g.base; first = omega (arith, u.some, u.within, few); params = g.params; slots = u.few });
      some_instrs = leb-true 1 (length c.instrs) l.0;
      few_instrs = few;
      instrs = all_from_get (IsInstr most) c.instrs (λ k i at.
          let u = placed c c.functions 0 (no_notes c) z.0 z.1 k i (omega arith) (slice_get_within c.instrs k i at) at in
          let b : Bounds (around c u.function u.end) k = record { slots = u.few; end = omega (arith, u.within, few); high = u.high; functions = omega (arith, many, few) } in
          in_range most (around c u.function u.end) k u.fine.kinds u.fine.exit b i (all_at (OfTypes most) c.instrs h.types k i at) u.fine.args u.fine.leads);
    }
