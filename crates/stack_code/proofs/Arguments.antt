-- The instruction before a place, and the kinds of arguments.
use Rattle.std.proofs.Common.{◌≡◌, ℕ, zero, suc, ◌-◌, ◌<◌, ◌≤◌, List, [], ◌∷◌, ◌++◌, length, take, drop, get_or, Option, Some, None, refl, sym, ap, ◌∙◌, arith, Bool, true, false}
use Rattle.std.specs.Prelude.{slice_get, reverse, nat_le, ◌&&◌, if◌then◌else◌}
use Rattle.std.proofs.lemmas.List.{reverse-append, length-take}
use Rattle.stack_code.specs.Valid.{Kinds, instr_before, same_kind, same_kinds, after_call, map_answer, answer_on}
use Rattle.stack_code.specs.Machine.{FunctionValue}
use Rattle.stack_code.specs.declared.instr.Answer.{Answer}
use Rattle.std.proofs.lemmas.Bool.{le-leb}
use Rattle.std.proofs.lemmas.Option.{slice_get_read}
use Rattle.stack_code.specs.KindLists.{and_takes, takes}
use Rattle.stack_code.specs.declared.instr.Operand.{Operand}
use Rattle.stack_code.specs.declared.instr.Operand.TheVariants.{Number, Atom}
use Rattle.stack_code.specs.declared.instr.Instr.{Instr}

pub before_first : (is : List Instr) (p : ℕ) → p ≡ 0 → instr_before is p ≡ None
before_first is p e = ap (instr_before is) e

pub before_other : (is : List Instr) (p : ℕ) → 0 < p → instr_before is p ≡ slice_get is (p - 1)
before_other is zero h = absurd (omega arith)
before_other is (suc p) h = let e : suc p - 1 ≡ p = omega arith in ap (slice_get is) (sym e)

abbrev pub chosen : Bool → Kinds → Option Kinds
chosen b ks = if b then Some ks else None

no_more : (b : Bool) → (b && false) ≡ false
no_more true = refl
no_more false = refl

nothing_same : (b : Kinds) (y : Operand) → same_kinds [] (b ++ y ∷ []) ≡ false
nothing_same [] y = refl
nothing_same (d ∷ b) y = refl

same_nothing : (a : Kinds) (x : Operand) → same_kinds (a ++ x ∷ []) [] ≡ false
same_nothing [] x = refl
same_nothing (c ∷ a) x = refl

turn : (p q t : Bool) → (p && (q && t)) ≡ (q && (p && t))
turn true true t = refl
turn true false t = refl
turn false true t = refl
turn false false t = refl

same_ends : (a b : Kinds) (x y : Operand) → same_kinds (a ++ x ∷ []) (b ++ y ∷ []) ≡ (same_kind x y && same_kinds a b)
same_ends [] [] x y = refl
same_ends [] (d ∷ b) x y = ap (λ (t : Bool). same_kind x d && t) (nothing_same b y) ∙ no_more (same_kind x d) ∙ sym (no_more (same_kind x y))
same_ends (c ∷ a) [] x y = ap (λ (t : Bool). same_kind c y && t) (same_nothing a x) ∙ no_more (same_kind c y) ∙ sym (no_more (same_kind x y))
same_ends (c ∷ a) (d ∷ b) x y = ap (λ (t : Bool). same_kind c d && t) (same_ends a b x y) ∙ turn (same_kind c d) (same_kind x y) (same_kinds a b)

take_last : (xs : Kinds) (n : ℕ) → n < length xs → take (suc n) xs ≡ take n xs ++ get_or xs n Number ∷ []
take_last [] n h = absurd (omega arith)
take_last (x ∷ xs) zero h = refl
take_last (x ∷ xs) (suc n) h = ap (λ l. x ∷ l) (take_last xs n (omega arith))

-- lists of two lengths are not the same
lengths_differ : (a b : Kinds) → length a < length b → same_kinds a b ≡ false
lengths_differ [] [] h = absurd (omega arith)
lengths_differ [] (y ∷ b) h = refl
lengths_differ (x ∷ a) [] h = absurd (omega arith)
lengths_differ (x ∷ a) (y ∷ b) h = ap (λ (t : Bool). same_kind x y && t) (lengths_differ a b (omega arith)) ∙ no_more (same_kind x y)

kind_turned : (a b : Operand) → same_kind a b ≡ same_kind b a
kind_turned Number Number = refl
kind_turned Number Atom = refl
kind_turned Atom Number = refl
kind_turned Atom Atom = refl

one_more : (n : ℕ) (slots ks : Kinds) (t : Bool) → takes n slots ks ≡ chosen t (drop n ks) → (b : Bool) → and_takes (takes n slots) (if b then Some ks else None) ≡ chosen (b && t) (drop n ks)
one_more n slots ks t e true = e
one_more n slots ks t e false = refl

-- that is the test of a call
pub takes_is : (n : ℕ) (slots ks : Kinds) → n ≤ length slots → takes n slots ks ≡ chosen (same_kinds (reverse (take n ks)) (take n slots)) (drop n ks)
takes_is zero slots ks h = refl
takes_is (suc n) slots [] h =
    let e : same_kinds [] (take (suc n) slots) ≡ false = lengths_differ [] (take (suc n) slots) (omega (arith, length-take (suc n) slots)) in
    sym (ap (λ (b : Bool). chosen b []) e)
takes_is (suc n) slots (x ∷ ks) h =
    let s = get_or slots n Number in
    let r : reverse (x ∷ take n ks) ≡ reverse (take n ks) ++ x ∷ [] = reverse-append (x ∷ []) (take n ks) in
    let l : take (suc n) slots ≡ take n slots ++ s ∷ [] = take_last slots n (omega arith) in
    let e : same_kinds (reverse (x ∷ take n ks)) (take (suc n) slots) ≡ (same_kind s x && same_kinds (reverse (take n ks)) (take n slots)) =
    ap (λ z. same_kinds z (take (suc n) slots)) r ∙ ap (same_kinds (reverse (take n ks) ++ x ∷ [])) l ∙ same_ends (reverse (take n ks)) (take n slots) x s
    ∙ ap (λ (b : Bool). b && same_kinds (reverse (take n ks)) (take n slots)) (kind_turned x s) in
    one_more n slots ks (same_kinds (reverse (take n ks)) (take n slots)) (takes_is n slots ks (omega arith)) (same_kind s x) ∙ sym (ap (λ (b : Bool). chosen b (drop n ks)) e)

answer_chosen : (r : Answer) (t : Bool) (d : Kinds) → (if t then Some (answer_on r d) else None) ≡ map_answer r (chosen t d)
answer_chosen r true d = refl
answer_chosen r false d = refl

-- a call takes its arguments and leaves its answer
pub after_call_is : (g : FunctionValue) (ks : Kinds) → g.params ≤ length g.slots → map_answer g.answer (takes g.params g.slots ks) ≡ after_call (Some g) ks
after_call_is g ks h =
    let e : nat_le g.params (length g.slots) ≡ true = le-leb g.params (length g.slots) h in
    let t = same_kinds (reverse (take g.params ks)) (take g.params g.slots) in
    ap (map_answer g.answer) (takes_is g.params g.slots ks h) ∙ sym (answer_chosen g.answer t (drop g.params ks))
    ∙ sym (ap (λ (b : Bool). if b && t then Some (answer_on g.answer (drop g.params ks)) else None) e)

-- what a lookup in a list of this contents found
pub get_some : {A : Type 0} (xs ys : List A) (i : ℕ) (x : A) → xs ≡ ys → i < length xs → ((d : A) → x ≡ get_or xs i d) → slice_get ys i ≡ Some x
get_some xs ys i x e lt f = ap (λ l. slice_get l i) (sym e) ∙ slice_get_read xs (length xs) i x refl lt (f x)
