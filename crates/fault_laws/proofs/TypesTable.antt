-- The table of types, and the rules in words: what the rules allow, the table has.
use Rattle.std.proofs.Common.{◌≡◌, ◌≢◌, ℕ, ◌^◌, ◌⊎◌, inl, inr, refl, ap, ◌∙◌, Bool, true, false, ◌&&◌, Option, None, is_some}
use Rattle.std.proofs.lemmas.Bool.{false≢true, both_ways, ltb-false, eq-eqb, and_parts}
use Rattle.sat_math.specs.declared.Kind.{Kind}
use Rattle.sat_math.specs.declared.Kind.TheVariants as k
use Rattle.ulam_tree.specs.declared.resolved.Ty.{Ty}
use Rattle.ulam_tree.specs.declared.resolved.Ty.TheVariants.{Num, Atom, Empty, Nothing, Window, Random, Class}
use Rattle.ulam_tree.specs.declared.op.PrefixOp.{PrefixOp}
use Rattle.ulam_tree.specs.declared.op.PrefixOp.TheVariants as pre
use Rattle.ulam_tree.specs.declared.op.PairOp.{PairOp}
use Rattle.ulam_tree.specs.declared.op.PairOp.TheVariants as op
use Rattle.type_rules.specs.declared.scope.Want.{Want}
use Rattle.type_rules.specs.declared.scope.Want.TheVariants.{Value, Site, Bound}
use Rattle.type_rules.specs.declared.scope.NumClass.{NumClass}
use Rattle.type_rules.specs.declared.scope.NumClass.TheVariants.{Int, Unsigned, Bits, Bool as Truth, Other}
use Rattle.type_rules.specs.Scopes.{Scope}
use Rattle.type_rules.specs.Rows.{class_of, taken_by, kind_from, taken_want, plain_fits, arith_type, order_type, equal_type, bits_type, shift_type, truth_type, pair_type, are_mixed, takes_signs, prefix_by, prefix_type, cast_type, fits_number, same_class, assignable}
use Rattle.fault_laws.specs.TypesRows.{IsNumber, IsUnsigned, IsBits, IsBool, AreNumbers, AreMixed, AreAlike, Takes, IsForNumbers, IsRefused, TakesOne, IsTooLarge, IsTakenFrom, TakesNumber, IsAssignable}
use Rattle.fault_laws.specs.TypesParts.{IsWanted}
use Rattle.fault_laws.proofs.TypesClasses.{refuted_none, element_true, atom_true, int_class, unsigned_class, bits_class, bool_class, int_is, unsigned_is, bits_is}

-- Operators

-- two operands by their classes
by_classes : (f : NumClass → NumClass → Option Ty) (a b : Ty) (c d : NumClass) → class_of a ≡ c → class_of b ≡ d → is_some (f c d) ≡ true → is_some (f (class_of a) (class_of b)) ≡ true
by_classes f a b c d at here e = ap (λ x. is_some (f x (class_of b))) at ∙ ap (λ x. is_some (f c x)) here ∙ e

numbers_taken : (f : NumClass → NumClass → Option Ty) (a b : Ty) → ((m n : ℕ) → is_some (f (Int m) (Int n)) ≡ true) → ((m n : ℕ) → is_some (f (Unsigned m) (Unsigned n)) ≡ true) → AreNumbers a b → is_some (f (class_of a) (class_of b)) ≡ true
numbers_taken f a b signed unsigned (inl h) = let x = int_class a h.0 in let y = int_class b h.1 in by_classes f a b (Int x.0) (Int y.0) x.1 y.1 (signed x.0 y.0)
numbers_taken f a b signed unsigned (inr h) = let x = unsigned_class a h.0 in let y = unsigned_class b h.1 in by_classes f a b (Unsigned x.0) (Unsigned y.0) x.1 y.1 (unsigned x.0 y.0)

arith_taken : (a b : Ty) → AreNumbers a b → is_some (arith_type (class_of a) (class_of b)) ≡ true
arith_taken a b h = numbers_taken arith_type a b (λ m n. refl) (λ m n. refl) h

order_taken : (a b : Ty) → AreNumbers a b → is_some (order_type (class_of a) (class_of b)) ≡ true
order_taken a b h = numbers_taken order_type a b (λ m n. refl) (λ m n. refl) h

equal_taken : (a b : Ty) → AreAlike a b → is_some (equal_type (class_of a) (class_of b)) ≡ true
equal_taken a b (inl h) = numbers_taken equal_type a b (λ m n. refl) (λ m n. refl) h
equal_taken a b (inr (inl h)) = let x = bits_class a h.0 in let y = bits_class b h.1 in by_classes equal_type a b (Bits x.0) (Bits y.0) x.1 y.1 refl
equal_taken a b (inr (inr h)) = by_classes equal_type a b Truth Truth (bool_class a h.0) (bool_class b h.1) refl

bits_taken : (a b : Ty) → IsBits a × IsBits b → is_some (bits_type (class_of a) (class_of b)) ≡ true
bits_taken a b h = let x = bits_class a h.0 in let y = bits_class b h.1 in by_classes bits_type a b (Bits x.0) (Bits y.0) x.1 y.1 refl

truth_taken : (a b : Ty) → IsBool a × IsBool b → is_some (truth_type (class_of a) (class_of b)) ≡ true
truth_taken a b h = by_classes truth_type a b Truth Truth (bool_class a h.0) (bool_class b h.1) refl

shift_unsigned : (plain : Bool) (m n : ℕ) → is_some (shift_type plain (Bits m) (Unsigned n)) ≡ true
shift_unsigned true m n = refl
shift_unsigned false m n = refl

shift_plain : (m : ℕ) (c : NumClass) → is_some (shift_type true (Bits m) c) ≡ true
shift_plain m (Int n) = refl
shift_plain m (Unsigned n) = refl
shift_plain m (Bits n) = refl
shift_plain m Truth = refl
shift_plain m Other = refl

shift_taken : (plain : Bool) (a b : Ty) → IsBits a × (IsUnsigned b ⊎ (plain ≡ true)) → is_some (shift_type plain (class_of a) (class_of b)) ≡ true
shift_taken plain a b (h, inl i) = let x = bits_class a h in let y = unsigned_class b i in by_classes (shift_type plain) a b (Bits x.0) (Unsigned y.0) x.1 y.1 (shift_unsigned plain x.0 y.0)
shift_taken plain a b (h, inr e) = let x = bits_class a h in ap (λ q. is_some (shift_type q (class_of a) (class_of b))) e ∙ by_classes (shift_type true) a b (Bits x.0) (class_of b) x.1 refl (shift_plain x.0 (class_of b))

pub takes_some : (op : PairOp) (plain : Bool) (a b : Ty) → Takes op plain a b → is_some (pair_type op plain a b) ≡ true
takes_some op.Add plain a b h = arith_taken a b h
takes_some op.Sub plain a b h = arith_taken a b h
takes_some op.Mul plain a b h = arith_taken a b h
takes_some op.Div plain a b h = arith_taken a b h
takes_some op.Rem plain a b h = arith_taken a b h
takes_some op.And plain a b h = bits_taken a b h
takes_some op.Or plain a b h = bits_taken a b h
takes_some op.Xor plain a b h = bits_taken a b h
takes_some op.Shl plain a b h = shift_taken plain a b h
takes_some op.Shr plain a b h = shift_taken plain a b h
takes_some op.Both plain a b h = truth_taken a b h
takes_some op.Either plain a b h = truth_taken a b h
takes_some op.Eq plain a b h = equal_taken a b h
takes_some op.Ne plain a b h = equal_taken a b h
takes_some op.Lt plain a b h = order_taken a b h
takes_some op.Le plain a b h = order_taken a b h
takes_some op.Gt plain a b h = order_taken a b h
takes_some op.Ge plain a b h = order_taken a b h

signs_taken : (op : PairOp) → IsForNumbers op → takes_signs op ≡ true
signs_taken op.And h = absurd h
signs_taken op.Or h = absurd h
signs_taken op.Xor h = absurd h
signs_taken op.Shl h = absurd h
signs_taken op.Shr h = absurd h
signs_taken op.Both h = absurd h
signs_taken op.Either h = absurd h
signs_taken op h = refl

for_numbers : (op : PairOp) → takes_signs op ≡ true → IsForNumbers op
for_numbers op.And e = absurd (false≢true e)
for_numbers op.Or e = absurd (false≢true e)
for_numbers op.Xor e = absurd (false≢true e)
for_numbers op.Shl e = absurd (false≢true e)
for_numbers op.Shr e = absurd (false≢true e)
for_numbers op.Both e = absurd (false≢true e)
for_numbers op.Either e = absurd (false≢true e)
for_numbers op e = tt

pub mixed_true : (a b : Ty) → AreMixed a b → are_mixed (class_of a) (class_of b) ≡ true
mixed_true a b (inl h) = let x = int_class a h.0 in let y = unsigned_class b h.1 in ap (λ c. are_mixed c (class_of b)) x.1 ∙ ap (are_mixed (Int x.0)) y.1
mixed_true a b (inr h) = let x = unsigned_class a h.0 in let y = int_class b h.1 in ap (λ c. are_mixed c (class_of b)) x.1 ∙ ap (are_mixed (Unsigned x.0)) y.1

mixed_classes : (c d : NumClass) → are_mixed c d ≡ true → ((m : ℕ) × (n : ℕ) × (c ≡ Int m) × (d ≡ Unsigned n)) ⊎ ((m : ℕ) × (n : ℕ) × (c ≡ Unsigned m) × (d ≡ Int n))
mixed_classes (Int m) (Unsigned n) e = inl (m, n, refl, refl)
mixed_classes (Unsigned m) (Int n) e = inr (m, n, refl, refl)
mixed_classes c d e = absurd (false≢true e)

mixed_is : (a b : Ty) → are_mixed (class_of a) (class_of b) ≡ true → AreMixed a b
mixed_is a b e = go (mixed_classes (class_of a) (class_of b) e)
  where
    go : ((m : ℕ) × (n : ℕ) × (class_of a ≡ Int m) × (class_of b ≡ Unsigned n)) ⊎ ((m : ℕ) × (n : ℕ) × (class_of a ≡ Unsigned m) × (class_of b ≡ Int n)) → AreMixed a b
    go (inl h) = inl (int_is a h.0 h.2, unsigned_is b h.1 h.3)
    go (inr h) = inr (unsigned_is a h.0 h.2, int_is b h.1 h.3)

-- operands that the table mixes up, or refuses
pub mixed_pair : (op : PairOp) (a b : Ty) → (takes_signs op && are_mixed (class_of a) (class_of b)) ≡ true → IsForNumbers op × AreMixed a b
mixed_pair op a b e = let h = and_parts (takes_signs op) (are_mixed (class_of a) (class_of b)) e in (for_numbers op h.0, mixed_is a b h.1)

pub refused_pair : (op : PairOp) (plain : Bool) (a b : Ty) → pair_type op plain a b ≡ None → (takes_signs op && are_mixed (class_of a) (class_of b)) ≡ false → IsRefused op plain a b
refused_pair op plain a b none off = (
  refuted_none (pair_type op plain a b) none (takes_some op plain a b),
  λ numbers mixed. both_ways (takes_signs op && are_mixed (class_of a) (class_of b)) off (ap (λ x. x && are_mixed (class_of a) (class_of b)) (signs_taken op numbers) ∙ mixed_true a b mixed),
)

pub one_taken : (op : PrefixOp) (a : Ty) → TakesOne op a → is_some (prefix_type op a) ≡ true
one_taken pre.Minus a h = ap (λ c. is_some (prefix_by pre.Minus c)) (int_class a h).1
one_taken pre.Not a h = ap (λ c. is_some (prefix_by pre.Not c)) (bool_class a h)
one_taken pre.Flip a h = ap (λ c. is_some (prefix_by pre.Flip c)) (bits_class a h).1

pub cast_taken : (to from : Ty) → IsNumber to × IsNumber from → is_some (cast_type to from) ≡ true
cast_taken (Num t) (Num s) h = refl
cast_taken (Num t) Atom h = absurd h.1
cast_taken (Num t) Empty h = absurd h.1
cast_taken (Num t) Nothing h = absurd h.1
cast_taken (Num t) Window h = absurd h.1
cast_taken (Num t) Random h = absurd h.1
cast_taken (Num t) (Class c) h = absurd h.1
cast_taken Atom from h = absurd h.0
cast_taken Empty from h = absurd h.0
cast_taken Nothing from h = absurd h.0
cast_taken Window from h = absurd h.0
cast_taken Random from h = absurd h.0
cast_taken (Class c) from h = absurd h.0

-- Numbers

pub too_large : (kind : Kind) (v : ℕ) → plain_fits kind v ≡ false → IsTooLarge kind v false
too_large k.Int v e = inr (refl, refl, ltb-false v (2 ^ 31) e)
too_large k.Unsigned v e = inl (ltb-false v (2 ^ 32) e)
too_large k.Unary v e = inl (ltb-false v (2 ^ 32) e)
too_large k.Bits v e = inl (ltb-false v (2 ^ 32) e)
too_large k.Bool v e = inl (ltb-false v (2 ^ 32) e)

pub too_large_unsigned : (kind : Kind) (v : ℕ) → plain_fits k.Unsigned v ≡ false → IsTooLarge kind v true
too_large_unsigned kind v e = inl (ltb-false v (2 ^ 32) e)

taken_class : (ty : Ty) (c : NumClass) → class_of ty ≡ c → IsTakenFrom ty (taken_by c)
taken_class ty (Int w) e = inr (inr (λ h. apart_unsigned (unsigned_class ty h), λ h. apart_bits (bits_class ty h), refl))
  where
    apart_unsigned : (v : ℕ) × (class_of ty ≡ Unsigned v) → ⊥
    apart_unsigned h = let f = h.1 in cc

    apart_bits : (v : ℕ) × (class_of ty ≡ Bits v) → ⊥
    apart_bits h = let f = h.1 in cc
taken_class ty (Unsigned w) e = inl (unsigned_is ty w e, refl)
taken_class ty (Bits w) e = inr (inl (bits_is ty w e, refl))
taken_class ty Truth e = inr (inr (λ h. apart_unsigned (unsigned_class ty h), λ h. apart_bits (bits_class ty h), refl))
  where
    apart_unsigned : (v : ℕ) × (class_of ty ≡ Unsigned v) → ⊥
    apart_unsigned h = let f = h.1 in cc

    apart_bits : (v : ℕ) × (class_of ty ≡ Bits v) → ⊥
    apart_bits h = let f = h.1 in cc
taken_class ty Other e = inr (inr (λ h. apart_unsigned (unsigned_class ty h), λ h. apart_bits (bits_class ty h), refl))
  where
    apart_unsigned : (v : ℕ) × (class_of ty ≡ Unsigned v) → ⊥
    apart_unsigned h = let f = h.1 in cc

    apart_bits : (v : ℕ) × (class_of ty ≡ Bits v) → ⊥
    apart_bits h = let f = h.1 in cc

-- the kind that the table takes from a type
pub taken_from : (ty : Ty) → IsTakenFrom ty (kind_from ty)
taken_from ty = taken_class ty (class_of ty) refl

pub wanted : (w : Want) → IsWanted w (taken_want w)
wanted (Value ty) = taken_from ty
wanted Site = refl
wanted Bound = refl

-- Assigning

number_taken : (kind : Kind) (from : Ty) → TakesNumber kind from → fits_number kind (class_of from) ≡ true
number_taken k.Int from h = ap (fits_number k.Int) (int_class from h).1
number_taken k.Unsigned from h = ap (fits_number k.Unsigned) (unsigned_class from h).1
number_taken k.Unary from h = ap (fits_number k.Unary) (unsigned_class from h).1
number_taken k.Bits from h = ap (fits_number k.Bits) (bits_class from h).1
number_taken k.Bool from h = ap (fits_number k.Bool) (bool_class from h)

pub assignable_true : (g : Scope) (to from : Ty) → IsAssignable g to from → assignable g to from ≡ true
assignable_true g (Num t) from h = number_taken t.kind from h
assignable_true g Atom from h = atom_true g from h
assignable_true g Empty from h = absurd h
assignable_true g Nothing from h = absurd h
assignable_true g Window from h = absurd h
assignable_true g Random from h = absurd h
assignable_true g (Class c) from h = ap (λ x. x && same_class from c) (element_true g c h.0) ∙ ap (λ ty. same_class ty c) h.1 ∙ eq-eqb c c refl
