-- What the rows of types say of kinds and widths.
use Rattle.std.proofs.Common.{◌≡◌, ℕ, ⊎_elim, Some, refl, sym, ap, ◌∙◌, subst, arith, Bool, true, false}
use Rattle.std.specs.Prelude.{nat_le, max}
use Rattle.std.proofs.lemmas.Bool.{cases_lt}
use Rattle.sat_math.specs.declared.Kind.{Kind}
use Rattle.sat_math.specs.declared.Kind.TheVariants as k
use Rattle.sat_math.specs.declared.Arith.{Arith}
use Rattle.sat_math.specs.declared.Arith.TheVariants.{Int32, Unsigned32, Int64, Unsigned64}
use Rattle.ulam_tree.specs.declared.resolved.Ty.{Ty}
use Rattle.ulam_tree.specs.declared.resolved.Ty.TheVariants as y
use Rattle.ulam_tree.specs.declared.op.PrefixOp.{PrefixOp}
use Rattle.ulam_tree.specs.declared.op.PrefixOp.TheVariants as pre
use Rattle.ulam_tree.specs.declared.op.PairOp.{PairOp}
use Rattle.ulam_tree.specs.declared.op.PairOp.TheVariants as op
use Rattle.type_rules.specs.declared.scope.NumClass.{NumClass}
use Rattle.type_rules.specs.declared.scope.NumClass.TheVariants.{Int, Unsigned, Bits, Bool as Truth, Other}
use Rattle.type_rules.specs.Scopes.{Scope, is_element}
use Rattle.type_rules.specs.Rows.{int, unsigned_type, bits, bool, class_by, class_of, plain_type, wide, arith_type, order_type, equal_type, bits_type, shift_type, truth_type, pair_type, prefix_by, prefix_type, cast_type, is_atom, is_index_class, is_index, is_truth_class, is_truth, is_unsigned_class, is_unsigned, fits_number, same_class, assignable}
use Rattle.ulam_meaning.specs.Values.{width_of}
use Rattle.stack_code.specs.Sorts.{num_type}
use Rattle.stack_code.specs.Valid.{type_fits, args_fit}
use Rattle.stack_code.specs.declared.instr.Instr.{Instr}
use Rattle.stack_code.specs.declared.instr.Operand.{Operand}
use Rattle.list_laws.proofs.Tests.{both}
use Rattle.code_gen.specs.Scheme.{operand_of, by_arith, pair_instr, minus_instr, prefix_instr}
use Rattle.code_gen.specs.Kinded.{IsNumber, IsAtom, StoresTo}
use Rattle.code_gen.specs.Named.{IsWide}

-- a type with a class of numbers
class_number : (ty : Ty) (a : NumClass) → class_of ty ≡ a → (a ≡ Other → ⊥) → IsNumber ty
class_number (y.Num num) a e ne = refl
class_number ty a e ne = absurd (ne (sym e))

-- the width of a type of bits is one of bits
abbrev pub BitsWide : Ty → Type 0
BitsWide ty = (m : ℕ) → class_of ty ≡ Bits m → type_fits (num_type k.Bits m) ≡ true

kind_bits : (kd : Kind) (w m : ℕ) → class_by kd w ≡ Bits m → type_fits (num_type kd w) ≡ true → type_fits (num_type k.Bits m) ≡ true
kind_bits k.Bits w m e f = let s : w ≡ m = cc in subst (λ m. type_fits (num_type k.Bits m) ≡ true) s f
kind_bits k.Int w m e f = cc
kind_bits k.Unsigned w m e f = cc
kind_bits k.Unary w m e f = cc
kind_bits k.Bool w m e f = cc

pub wide_bits : (ty : Ty) → IsWide ty → BitsWide ty
wide_bits (y.Num num) f m e = kind_bits num.kind num.width m e f
wide_bits ty f m e = cc

plain_bits : (kd : Kind) → BitsWide (plain_type kd)
plain_bits k.Bits m e = let s : 32 ≡ m = cc in subst (λ m. type_fits (num_type k.Bits m) ≡ true) s refl
plain_bits k.Int m e = cc
plain_bits k.Unsigned m e = cc
plain_bits k.Unary m e = cc
plain_bits k.Bool m e = cc

pub plain_wide : (kd : Kind) (ty : Ty) → ty ≡ plain_type kd → BitsWide ty
plain_wide kd ty e = subst BitsWide (sym e) (plain_bits kd)

pub unsigned_wide : (w : ℕ) (ty : Ty) → ty ≡ unsigned_type w → BitsWide ty
unsigned_wide w ty e = subst BitsWide (sym e) (λ m f. cc)

pub bool_wide : (ty : Ty) → ty ≡ bool → BitsWide ty
bool_wide ty e = subst BitsWide (sym e) (λ m f. cc)

-- a type of bits, by its class
kind_is : (kd : Kind) (w m : ℕ) → class_by kd w ≡ Bits m → w ≡ m
kind_is k.Bits w m e = cc
kind_is k.Int w m e = cc
kind_is k.Unsigned w m e = cc
kind_is k.Unary w m e = cc
kind_is k.Bool w m e = cc

bits_width : (ty : Ty) (m : ℕ) → class_of ty ≡ Bits m → width_of ty ≡ m
bits_width (y.Num num) m e = kind_is num.kind num.width m e
bits_width ty m e = cc

-- what the classes of two operands give
record Given (a b : NumClass) (ty : Ty) : Type 0 where
  left : a ≡ Other → ⊥
  right : b ≡ Other → ⊥
  number : IsNumber ty
  wide : BitsWide ty

given_int : (m n w : ℕ) (ty : Ty) → int w ≡ ty → Given (Int m) (Int n) ty
given_int m n w ty s = record { left = λ e. cc; right = λ e. cc; number = subst IsNumber s refl; wide = subst BitsWide s (λ i e. cc) }

arith_gives : (a b : NumClass) (ty : Ty) → arith_type a b ≡ Some ty → Given a b ty
arith_gives (Int m) (Int n) ty e = given_int m n (wide m n) ty (cc)
arith_gives (Unsigned m) (Unsigned n) ty e = let s : unsigned_type (wide m n) ≡ ty = cc in record { left = λ e. cc; right = λ e. cc; number = subst IsNumber s refl; wide = subst BitsWide s (λ i e. cc) }
arith_gives a b ty e = cc

truth_given : (a b : NumClass) (ty : Ty) → bool ≡ ty → (a ≡ Other → ⊥) → (b ≡ Other → ⊥) → Given a b ty
truth_given a b ty s l r = record { left = l; right = r; number = subst IsNumber s refl; wide = subst BitsWide s (λ i e. cc) }

order_gives : (a b : NumClass) (ty : Ty) → order_type a b ≡ Some ty → Given a b ty
order_gives (Int m) (Int n) ty e = truth_given (Int m) (Int n) ty (cc) (λ f. cc) (λ f. cc)
order_gives (Unsigned m) (Unsigned n) ty e = truth_given (Unsigned m) (Unsigned n) ty (cc) (λ f. cc) (λ f. cc)
order_gives a b ty e = cc

equal_gives : (a b : NumClass) (ty : Ty) → equal_type a b ≡ Some ty → Given a b ty
equal_gives (Int m) (Int n) ty e = truth_given (Int m) (Int n) ty (cc) (λ f. cc) (λ f. cc)
equal_gives (Unsigned m) (Unsigned n) ty e = truth_given (Unsigned m) (Unsigned n) ty (cc) (λ f. cc) (λ f. cc)
equal_gives (Bits m) (Bits n) ty e = truth_given (Bits m) (Bits n) ty (cc) (λ f. cc) (λ f. cc)
equal_gives Truth Truth ty e = truth_given Truth Truth ty (cc) (λ f. cc) (λ f. cc)
equal_gives a b ty e = cc

truth_gives : (a b : NumClass) (ty : Ty) → truth_type a b ≡ Some ty → Given a b ty
truth_gives Truth Truth ty e = truth_given Truth Truth ty (cc) (λ f. cc) (λ f. cc)
truth_gives a b ty e = cc

max_fits : (m n : ℕ) → type_fits (num_type k.Bits m) ≡ true → type_fits (num_type k.Bits n) ≡ true → type_fits (num_type k.Bits (max m n)) ≡ true
max_fits m n f h =
    ⊎_elim (λ lt. let e : n ≡ max m n = omega (arith, lt) in subst (λ m. type_fits (num_type k.Bits m) ≡ true) e h) (λ le. let e : m ≡ max m n = omega (arith, le) in subst (λ m. type_fits (num_type k.Bits m) ≡ true) e f) (cases_lt m n)

bits_given : (a b : NumClass) (ty : Ty) → bits_type a b ≡ Some ty → ((m : ℕ) → a ≡ Bits m → type_fits (num_type k.Bits m) ≡ true) → ((m : ℕ) → b ≡ Bits m → type_fits (num_type k.Bits m) ≡ true) → Given a b ty
bits_given (Bits m) (Bits n) ty e f h =
    let s : bits (max m n) ≡ ty = cc in
    let w : BitsWide (bits (max m n)) = λ i d. let t : max m n ≡ i = cc in subst (λ m. type_fits (num_type k.Bits m) ≡ true) t (max_fits m n (f m refl) (h n refl)) in
    record { left = λ e. cc; right = λ e. cc; number = subst IsNumber s refl; wide = subst BitsWide s w }
bits_given a b ty e f h = cc

-- a shift's type is that of its left side
record Shifted (a b : NumClass) (ty : Ty) : Type 0 where
  width : ℕ
  left : a ≡ Bits width
  right : b ≡ Other → ⊥
  same : bits width ≡ ty

shift_gives : (p : Bool) (a b : NumClass) (ty : Ty) → shift_type p a b ≡ Some ty → (p ≡ true → b ≡ Other → ⊥) → Shifted a b ty
shift_gives p (Bits m) (Unsigned n) ty e f = record { width = m; left = refl; right = λ e. cc; same = cc }
shift_gives true (Bits m) b ty e f = record { width = m; left = refl; right = f refl; same = shift_same b e }
  where
    shift_same : (b : NumClass) → shift_type true (Bits m) b ≡ Some ty → bits m ≡ ty
    shift_same (Unsigned n) e = cc
    shift_same b e = cc
shift_gives p a b ty e f = cc

shifted_given : (a b : NumClass) (ty : Ty) → Shifted a b ty → ((m : ℕ) → a ≡ Bits m → type_fits (num_type k.Bits m) ≡ true) → Given a b ty
shifted_given a b ty s f = record {
  left = λ e. let d : Bits s.width ≡ Other = sym s.left ∙ e in cc;
  right = s.right;
  number = subst IsNumber s.same refl;
  wide = subst BitsWide s.same (λ i d. let t : s.width ≡ i = cc in subst (λ m. type_fits (num_type k.Bits m) ≡ true) t (f s.width s.left));
}

-- the instructions of operators have allowed arguments, but for a shift's width
arith_args : (how : Arith) (i u l v : Instr) → args_fit i ≡ true → args_fit u ≡ true → args_fit l ≡ true → args_fit v ≡ true → args_fit (by_arith how i u l v) ≡ true
arith_args Int32 i u l v a b c d = a
arith_args Unsigned32 i u l v a b c d = b
arith_args Int64 i u l v a b c d = c
arith_args Unsigned64 i u l v a b c d = d

pub pair_args : (o : PairOp) (how : Arith) (w : ℕ) → (o ≡ op.Shl → type_fits (num_type k.Bits w) ≡ true) → args_fit (pair_instr o how w) ≡ true
pair_args op.Shl how w f = f refl
pair_args op.Add how w f = arith_args how _ _ _ _ refl refl refl refl
pair_args op.Sub how w f = arith_args how _ _ _ _ refl refl refl refl
pair_args op.Mul how w f = arith_args how _ _ _ _ refl refl refl refl
pair_args op.Div how w f = arith_args how _ _ _ _ refl refl refl refl
pair_args op.Rem how w f = arith_args how _ _ _ _ refl refl refl refl
pair_args o how w f = refl

-- what two operands with a type are; both the type and the left side's fit the operator
pub record Operands (o : PairOp) (a b ty : Ty) : Type 0 where
  pub left : IsNumber a
  pub right : IsNumber b
  pub number : IsNumber ty
  pub wide : BitsWide ty
  pub args : (how : Arith) → args_fit (pair_instr o how (width_of ty)) ≡ true
  pub update : (how : Arith) → args_fit (pair_instr o how (width_of a)) ≡ true

free : (o : PairOp) (a b ty : Ty) → (o ≡ op.Shl → ⊥) → Given (class_of a) (class_of b) ty → Operands o a b ty
free o a b ty ne x = record {
  left = class_number a (class_of a) refl x.left;
  right = class_number b (class_of b) refl x.right;
  number = x.number;
  wide = x.wide;
  args = λ how. pair_args o how (width_of ty) (λ e. absurd (ne e));
  update = λ how. pair_args o how (width_of a) (λ e. absurd (ne e));
}

shl : (o : PairOp) (a b ty : Ty) → BitsWide a → Shifted (class_of a) (class_of b) ty → Operands o a b ty
shl o a b ty wa s =
    let x = shifted_given (class_of a) (class_of b) ty s wa in
    let f = wa s.width s.left in
    let ea : s.width ≡ width_of a = sym (bits_width a s.width s.left) in
    let et : s.width ≡ width_of ty = ap width_of s.same in
    record {
      left = class_number a (class_of a) refl x.left;
      right = class_number b (class_of b) refl x.right;
      number = x.number;
      wide = x.wide;
      args = λ how. pair_args o how (width_of ty) (λ e. subst (λ m. type_fits (num_type k.Bits m) ≡ true) et f);
      update = λ how. pair_args o how (width_of a) (λ e. subst (λ m. type_fits (num_type k.Bits m) ≡ true) ea f);
    }

number_class : (ty : Ty) → IsNumber ty → class_of ty ≡ Other → ⊥
number_class (y.Num num) e f = num_class num.kind num.width f
  where
    num_class : (kd : Kind) (w : ℕ) → class_by kd w ≡ Other → ⊥
    num_class k.Int w f = cc
    num_class k.Unsigned w f = cc
    num_class k.Bits w f = cc
    num_class k.Unary w f = cc
    num_class k.Bool w f = cc
number_class ty e f = cc

pub pair_gives : (o : PairOp) (p : Bool) (a b ty : Ty) → pair_type o p a b ≡ Some ty → BitsWide a → BitsWide b → (p ≡ true → IsNumber b) → Operands o a b ty
pair_gives op.Add p a b ty e wa wb n = free op.Add a b ty (λ f. cc) (arith_gives (class_of a) (class_of b) ty e)
pair_gives op.Sub p a b ty e wa wb n = free op.Sub a b ty (λ f. cc) (arith_gives (class_of a) (class_of b) ty e)
pair_gives op.Mul p a b ty e wa wb n = free op.Mul a b ty (λ f. cc) (arith_gives (class_of a) (class_of b) ty e)
pair_gives op.Div p a b ty e wa wb n = free op.Div a b ty (λ f. cc) (arith_gives (class_of a) (class_of b) ty e)
pair_gives op.Rem p a b ty e wa wb n = free op.Rem a b ty (λ f. cc) (arith_gives (class_of a) (class_of b) ty e)
pair_gives op.And p a b ty e wa wb n = free op.And a b ty (λ f. cc) (bits_given (class_of a) (class_of b) ty e wa wb)
pair_gives op.Or p a b ty e wa wb n = free op.Or a b ty (λ f. cc) (bits_given (class_of a) (class_of b) ty e wa wb)
pair_gives op.Xor p a b ty e wa wb n = free op.Xor a b ty (λ f. cc) (bits_given (class_of a) (class_of b) ty e wa wb)
pair_gives op.Shl p a b ty e wa wb n = shl op.Shl a b ty wa (shift_gives p (class_of a) (class_of b) ty e (λ q. number_class b (n q)))
pair_gives op.Shr p a b ty e wa wb n = shl op.Shr a b ty wa (shift_gives p (class_of a) (class_of b) ty e (λ q. number_class b (n q)))
pair_gives op.Both p a b ty e wa wb n = free op.Both a b ty (λ f. cc) (truth_gives (class_of a) (class_of b) ty e)
pair_gives op.Either p a b ty e wa wb n = free op.Either a b ty (λ f. cc) (truth_gives (class_of a) (class_of b) ty e)
pair_gives op.Eq p a b ty e wa wb n = free op.Eq a b ty (λ f. cc) (equal_gives (class_of a) (class_of b) ty e)
pair_gives op.Ne p a b ty e wa wb n = free op.Ne a b ty (λ f. cc) (equal_gives (class_of a) (class_of b) ty e)
pair_gives op.Lt p a b ty e wa wb n = free op.Lt a b ty (λ f. cc) (order_gives (class_of a) (class_of b) ty e)
pair_gives op.Le p a b ty e wa wb n = free op.Le a b ty (λ f. cc) (order_gives (class_of a) (class_of b) ty e)
pair_gives op.Gt p a b ty e wa wb n = free op.Gt a b ty (λ f. cc) (order_gives (class_of a) (class_of b) ty e)
pair_gives op.Ge p a b ty e wa wb n = free op.Ge a b ty (λ f. cc) (order_gives (class_of a) (class_of b) ty e)

-- what an operand of a prefix is
pub record Prefixed (o : PrefixOp) (a ty : Ty) : Type 0 where
  pub operand : IsNumber a
  pub number : IsNumber ty
  pub wide : BitsWide ty
  pub args : args_fit (prefix_instr o ty) ≡ true

minus_args : (b : Bool) → args_fit (minus_instr b) ≡ true
minus_args true = refl
minus_args false = refl

prefix_by_gives : (o : PrefixOp) (a : Ty) (q : NumClass) (ty : Ty) → class_of a ≡ q → prefix_by o q ≡ Some ty → BitsWide a → Prefixed o a ty
prefix_by_gives pre.Minus a (Int m) ty f e w =
    let s : int (wide m m) ≡ ty = cc in
    record { operand = class_number a (Int m) f (λ e. cc); number = subst IsNumber s refl; wide = subst BitsWide s (λ i e. cc); args = minus_args (nat_le (width_of ty) 32) }
prefix_by_gives pre.Not a Truth ty f e w =
    let s : bool ≡ ty = cc in
    record { operand = class_number a Truth f (λ e. cc); number = subst IsNumber s refl; wide = subst BitsWide s (λ i e. cc); args = refl }
prefix_by_gives pre.Flip a (Bits m) ty f e w =
    let s : bits m ≡ ty = cc in
    let x = w m f in
    record { operand = class_number a (Bits m) f (λ e. cc); number = subst IsNumber s refl; wide = subst BitsWide s (λ i e. let t : m ≡ i = cc in subst (λ m. type_fits (num_type k.Bits m) ≡ true) t x); args = subst (λ m. type_fits (num_type k.Bits m) ≡ true) (ap width_of s) x }
prefix_by_gives o a q ty f e w = cc

pub prefix_gives : (o : PrefixOp) (a ty : Ty) → prefix_type o a ≡ Some ty → BitsWide a → Prefixed o a ty
prefix_gives o a ty e w = prefix_by_gives o a (class_of a) ty refl e w

-- a cast is from numbers to numbers
pub cast_gives : (to a ty : Ty) → cast_type to a ≡ Some ty → IsNumber a × IsNumber to × (to ≡ ty)
cast_gives (y.Num n) (y.Num m) ty e = (refl, refl, cc)
cast_gives to a ty e = cc

-- what a target takes
fits_other : (kd : Kind) → fits_number kd Other ≡ false
fits_other k.Int = refl
fits_other k.Unsigned = refl
fits_other k.Bits = refl
fits_other k.Unary = refl
fits_other k.Bool = refl

pub atom_gives : (g : Scope) (ty : Ty) → is_atom g ty ≡ true → IsAtom ty
atom_gives g (y.Num num) e = cc
atom_gives g ty e = refl

same_gives : (a : Ty) (c : ℕ) → same_class a c ≡ true → IsAtom a
same_gives (y.Num num) c e = cc
same_gives ty c e = refl

pub assign_gives : (g : Scope) (ty a : Ty) → assignable g ty a ≡ true → operand_of a ≡ operand_of ty
assign_gives g (y.Num num) a e = class_number a (class_of a) refl (λ f. let d : fits_number num.kind Other ≡ true = subst (λ q. fits_number num.kind q ≡ true) f e in let h : false ≡ true = sym (fits_other num.kind) ∙ d in cc)
assign_gives g y.Atom a e = atom_gives g a e
assign_gives g (y.Class c) a e = same_gives a c (both (is_element g c) (same_class a c) e).1
assign_gives g ty a e = cc

pub stores : (ty : Ty) (k : Operand) → IsWide ty → k ≡ operand_of ty → StoresTo ty k
stores (y.Num num) k w e = ((e, w), e)
stores ty k w e = (tt, e)

by_test : (test : NumClass → Bool) → test Other ≡ false → (ty : Ty) → test (class_of ty) ≡ true → IsNumber ty
by_test test none ty e = class_number ty (class_of ty) refl (λ f. let d : test Other ≡ true = subst (λ q. test q ≡ true) f e in let h : false ≡ true = sym none ∙ d in cc)

pub index_number : (ty : Ty) → is_index ty ≡ true → IsNumber ty
index_number ty e = by_test is_index_class refl ty e

pub truth_number : (ty : Ty) → is_truth ty ≡ true → IsNumber ty
truth_number ty e = by_test is_truth_class refl ty e

pub unsigned_number : (ty : Ty) → is_unsigned ty ≡ true → IsNumber ty
unsigned_number ty e = by_test is_unsigned_class refl ty e
