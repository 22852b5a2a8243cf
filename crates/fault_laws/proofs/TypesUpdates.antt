-- Operators with `=`, `++` and `--`: what they compute can be assigned, but for comparisons.
use Rattle.std.proofs.Common.{◌≡◌, ℕ, ◌⊎◌, inl, inr, refl, sym, ap, ◌∙◌, Bool, true, false, not, Option, Some, None}
use Rattle.std.proofs.lemmas.Bool.{both_ways}
use Rattle.std.proofs.lemmas.Option.{same_Some, none-some}
use Rattle.sat_math.specs.declared.Kind.{Kind}
use Rattle.sat_math.specs.declared.Kind.TheVariants as k
use Rattle.ulam_tree.specs.declared.resolved.Ty.{Ty}
use Rattle.ulam_tree.specs.declared.resolved.Ty.TheVariants.{Num, Atom, Empty, Nothing, Window, Random, Class}
use Rattle.ulam_tree.specs.declared.op.PairOp.{PairOp}
use Rattle.ulam_tree.specs.declared.op.PairOp.TheVariants as op
use Rattle.type_rules.specs.declared.scope.NumClass.{NumClass}
use Rattle.type_rules.specs.declared.scope.NumClass.TheVariants.{Int, Unsigned, Bits, Bool as Truth, Other}
use Rattle.type_rules.specs.Scopes.{Scope}
use Rattle.type_rules.specs.Rows.{bool, class_by, class_of, taken_by, kind_from, plain_type, arith_type, order_type, equal_type, bits_type, shift_type, truth_type, pair_type, are_mixed, fits_number, assignable}
use Rattle.fault_laws.specs.TypesRows.{IsInt, IsUnsigned, IsBool, AreNumbers, AreAlike, Takes, Compares}
use Rattle.fault_laws.proofs.TypesClasses.{int_class, unsigned_class, int_is, unsigned_is, bits_is, bool_is}

-- Operators with `=`

-- what a left side computes by a column of the table can be assigned to it
column_fits : (g : Scope) (f : NumClass → Option Ty) → f Other ≡ None → ((kind : Kind) (w : ℕ) (sum : Ty) → f (class_by kind w) ≡ Some sum → fits_number kind (class_of sum) ≡ true) →
    (to sum : Ty) → f (class_of to) ≡ Some sum → assignable g to sum ≡ true
column_fits g f none each (Num t) sum e = each t.kind t.width sum e
column_fits g f none each Atom sum e = absurd (none-some sum (sym none ∙ e))
column_fits g f none each Empty sum e = absurd (none-some sum (sym none ∙ e))
column_fits g f none each Nothing sum e = absurd (none-some sum (sym none ∙ e))
column_fits g f none each Window sum e = absurd (none-some sum (sym none ∙ e))
column_fits g f none each Random sum e = absurd (none-some sum (sym none ∙ e))
column_fits g f none each (Class c) sum e = absurd (none-some sum (sym none ∙ e))

arith_fits : (kind : Kind) (c : NumClass) (w : ℕ) (sum : Ty) → arith_type (class_by kind w) c ≡ Some sum → fits_number kind (class_of sum) ≡ true
arith_fits k.Int (Int n) w sum e = sym (ap (λ ty. fits_number k.Int (class_of ty)) (same_Some _ sum e))
arith_fits k.Unsigned (Unsigned n) w sum e = sym (ap (λ ty. fits_number k.Unsigned (class_of ty)) (same_Some _ sum e))
arith_fits k.Unary (Unsigned n) w sum e = sym (ap (λ ty. fits_number k.Unary (class_of ty)) (same_Some _ sum e))
arith_fits kind c w sum e = absurd (none-some sum e)

bits_fit : (kind : Kind) (c : NumClass) (w : ℕ) (sum : Ty) → bits_type (class_by kind w) c ≡ Some sum → fits_number kind (class_of sum) ≡ true
bits_fit k.Bits (Bits n) w sum e = sym (ap (λ ty. fits_number k.Bits (class_of ty)) (same_Some _ sum e))
bits_fit kind c w sum e = absurd (none-some sum e)

truth_fits : (kind : Kind) (c : NumClass) (w : ℕ) (sum : Ty) → truth_type (class_by kind w) c ≡ Some sum → fits_number kind (class_of sum) ≡ true
truth_fits k.Bool Truth w sum e = sym (ap (λ ty. fits_number k.Bool (class_of ty)) (same_Some _ sum e))
truth_fits kind c w sum e = absurd (none-some sum e)

shift_bits : (plain : Bool) (m : ℕ) (c : NumClass) (sum : Ty) → shift_type plain (Bits m) c ≡ Some sum → fits_number k.Bits (class_of sum) ≡ true
shift_bits true m (Unsigned n) sum e = sym (ap (λ ty. fits_number k.Bits (class_of ty)) (same_Some _ sum e))
shift_bits false m (Unsigned n) sum e = sym (ap (λ ty. fits_number k.Bits (class_of ty)) (same_Some _ sum e))
shift_bits true m c sum e = sym (ap (λ ty. fits_number k.Bits (class_of ty)) (same_Some _ sum e))
shift_bits false m c sum e = absurd (none-some sum e)

shift_none : (plain : Bool) (c d : NumClass) (sum : Ty) → ((m : ℕ) → c ≡ Bits m → ⊥) → shift_type plain c d ≡ Some sum → ⊥
shift_none plain (Int m) d sum other e = none-some sum e
shift_none plain (Unsigned m) d sum other e = none-some sum e
shift_none plain (Bits m) d sum other e = other m refl
shift_none plain Truth d sum other e = none-some sum e
shift_none plain Other d sum other e = none-some sum e

shift_fits : (plain : Bool) (c : NumClass) (kind : Kind) (w : ℕ) (sum : Ty) → shift_type plain (class_by kind w) c ≡ Some sum → fits_number kind (class_of sum) ≡ true
shift_fits plain c k.Bits w sum e = shift_bits plain w c sum e
shift_fits plain c k.Int w sum e = absurd (shift_none plain (Int w) c sum (λ m x. cc) e)
shift_fits plain c k.Unsigned w sum e = absurd (shift_none plain (Unsigned w) c sum (λ m x. cc) e)
shift_fits plain c k.Unary w sum e = absurd (shift_none plain (Unsigned w) c sum (λ m x. cc) e)
shift_fits plain c k.Bool w sum e = absurd (shift_none plain Truth c sum (λ m x. cc) e)

truth_assigned : (g : Scope) (to : Ty) → IsBool to → assignable g to bool ≡ true
truth_assigned g (Num t) h = ap (λ kind. fits_number kind Truth) h
truth_assigned g Atom h = absurd h
truth_assigned g Empty h = absurd h
truth_assigned g Nothing h = absurd h
truth_assigned g Window h = absurd h
truth_assigned g Random h = absurd h
truth_assigned g (Class c) h = absurd h

order_is : (c d : NumClass) (sum : Ty) → order_type c d ≡ Some sum → sum ≡ bool
order_is (Int m) (Int n) sum e = sym (same_Some bool sum e)
order_is (Unsigned m) (Unsigned n) sum e = sym (same_Some bool sum e)
order_is c d sum e = absurd (none-some sum e)

equal_is : (c d : NumClass) (sum : Ty) → equal_type c d ≡ Some sum → sum ≡ bool
equal_is (Int m) (Int n) sum e = sym (same_Some bool sum e)
equal_is (Unsigned m) (Unsigned n) sum e = sym (same_Some bool sum e)
equal_is (Bits m) (Bits n) sum e = sym (same_Some bool sum e)
equal_is Truth Truth sum e = sym (same_Some bool sum e)
equal_is c d sum e = absurd (none-some sum e)

order_numbers : (a b : Ty) (c d : NumClass) → class_of a ≡ c → class_of b ≡ d → (sum : Ty) → order_type c d ≡ Some sum → AreNumbers a b
order_numbers a b (Int m) (Int n) at here sum e = inl (int_is a m at, int_is b n here)
order_numbers a b (Unsigned m) (Unsigned n) at here sum e = inr (unsigned_is a m at, unsigned_is b n here)
order_numbers a b c d at here sum e = absurd (none-some sum e)

equal_alike : (a b : Ty) (c d : NumClass) → class_of a ≡ c → class_of b ≡ d → (sum : Ty) → equal_type c d ≡ Some sum → AreAlike a b
equal_alike a b (Int m) (Int n) at here sum e = inl (inl (int_is a m at, int_is b n here))
equal_alike a b (Unsigned m) (Unsigned n) at here sum e = inl (inr (unsigned_is a m at, unsigned_is b n here))
equal_alike a b (Bits m) (Bits n) at here sum e = inr (inl (bits_is a m at, bits_is b n here))
equal_alike a b Truth Truth at here sum e = inr (inr (bool_is a at, bool_is b here))
equal_alike a b c d at here sum e = absurd (none-some sum e)

-- a truth value that is not assigned
lost_truth : (g : Scope) (to sum : Ty) → sum ≡ bool → assignable g to sum ≡ false → IsBool to → ⊥
lost_truth g to sum is off h = both_ways (assignable g to sum) off (ap (assignable g to) is ∙ truth_assigned g to h)

never_lost : {P : Type 0} (g : Scope) (to sum : Ty) → assignable g to sum ≡ false → assignable g to sum ≡ true → P
never_lost g to sum off fits = absurd (both_ways (assignable g to sum) off fits)

-- by an operator with `=` only the result of a comparison can't be assigned
pub lost_update : (g : Scope) (op : PairOp) (plain : Bool) (to from sum : Ty) → pair_type op plain to from ≡ Some sum → assignable g to sum ≡ false → Compares op × Takes op plain to from × (IsBool to → ⊥)
lost_update g op.Add plain to from sum e off = never_lost g to sum off (column_fits g (λ c. arith_type c (class_of from)) refl (λ kind. arith_fits kind (class_of from)) to sum e)
lost_update g op.Sub plain to from sum e off = never_lost g to sum off (column_fits g (λ c. arith_type c (class_of from)) refl (λ kind. arith_fits kind (class_of from)) to sum e)
lost_update g op.Mul plain to from sum e off = never_lost g to sum off (column_fits g (λ c. arith_type c (class_of from)) refl (λ kind. arith_fits kind (class_of from)) to sum e)
lost_update g op.Div plain to from sum e off = never_lost g to sum off (column_fits g (λ c. arith_type c (class_of from)) refl (λ kind. arith_fits kind (class_of from)) to sum e)
lost_update g op.Rem plain to from sum e off = never_lost g to sum off (column_fits g (λ c. arith_type c (class_of from)) refl (λ kind. arith_fits kind (class_of from)) to sum e)
lost_update g op.And plain to from sum e off = never_lost g to sum off (column_fits g (λ c. bits_type c (class_of from)) refl (λ kind. bits_fit kind (class_of from)) to sum e)
lost_update g op.Or plain to from sum e off = never_lost g to sum off (column_fits g (λ c. bits_type c (class_of from)) refl (λ kind. bits_fit kind (class_of from)) to sum e)
lost_update g op.Xor plain to from sum e off = never_lost g to sum off (column_fits g (λ c. bits_type c (class_of from)) refl (λ kind. bits_fit kind (class_of from)) to sum e)
lost_update g op.Shl plain to from sum e off = never_lost g to sum off (column_fits g (λ c. shift_type plain c (class_of from)) refl (shift_fits plain (class_of from)) to sum e)
lost_update g op.Shr plain to from sum e off = never_lost g to sum off (column_fits g (λ c. shift_type plain c (class_of from)) refl (shift_fits plain (class_of from)) to sum e)
lost_update g op.Both plain to from sum e off = never_lost g to sum off (column_fits g (λ c. truth_type c (class_of from)) refl (λ kind. truth_fits kind (class_of from)) to sum e)
lost_update g op.Either plain to from sum e off = never_lost g to sum off (column_fits g (λ c. truth_type c (class_of from)) refl (λ kind. truth_fits kind (class_of from)) to sum e)
lost_update g op.Eq plain to from sum e off = (tt, equal_alike to from (class_of to) (class_of from) refl refl sum e, lost_truth g to sum (equal_is (class_of to) (class_of from) sum e) off)
lost_update g op.Ne plain to from sum e off = (tt, equal_alike to from (class_of to) (class_of from) refl refl sum e, lost_truth g to sum (equal_is (class_of to) (class_of from) sum e) off)
lost_update g op.Lt plain to from sum e off = (tt, order_numbers to from (class_of to) (class_of from) refl refl sum e, lost_truth g to sum (order_is (class_of to) (class_of from) sum e) off)
lost_update g op.Le plain to from sum e off = (tt, order_numbers to from (class_of to) (class_of from) refl refl sum e, lost_truth g to sum (order_is (class_of to) (class_of from) sum e) off)
lost_update g op.Gt plain to from sum e off = (tt, order_numbers to from (class_of to) (class_of from) refl refl sum e, lost_truth g to sum (order_is (class_of to) (class_of from) sum e) off)
lost_update g op.Ge plain to from sum e off = (tt, order_numbers to from (class_of to) (class_of from) refl refl sum e, lost_truth g to sum (order_is (class_of to) (class_of from) sum e) off)

-- `++` and `--`

counted_kind : (c : NumClass) → are_mixed c (class_by (taken_by c) 32) ≡ false
counted_kind (Int w) = refl
counted_kind (Unsigned w) = refl
counted_kind (Bits w) = refl
counted_kind Truth = refl
counted_kind Other = refl

-- 1 takes its kind from the type that it is added to, so they are not mixed
pub counted_apart : (ty : Ty) → are_mixed (class_of ty) (class_of (plain_type (kind_from ty))) ≡ false
counted_apart ty = counted_kind (class_of ty)

pub counted_numbers : (ty : Ty) → IsInt ty ⊎ IsUnsigned ty → AreNumbers ty (plain_type (kind_from ty))
counted_numbers ty (inl h) = inl (h, ap taken_by (int_class ty h).1)
counted_numbers ty (inr h) = inr (h, inl (ap taken_by (unsigned_class ty h).1))

-- and the sum can be assigned to it
pub counted_assignable : (g : Scope) (ty sum : Ty) → pair_type op.Add true ty (plain_type (kind_from ty)) ≡ Some sum → assignable g ty sum ≡ true
counted_assignable g ty sum e = column_fits g (λ c. arith_type c (class_of (plain_type (kind_from ty)))) refl (λ kind. arith_fits kind (class_of (plain_type (kind_from ty)))) ty sum e
