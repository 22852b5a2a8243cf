-- Arguments that fit, and numbers in their range.
use Rattle.std.proofs.Common.{◌≡◌, ℕ, suc, ◌+◌, ◌-◌, ◌*◌, ◌^◌, ◌<◌, ◌≤◌, true, false, refl, arith, ℤ, pos, negsuc, suc-mul}
use Rattle.std.specs.Prelude.{nat_le, Bool, ◌&&◌}
use Rattle.std.proofs.lemmas.Bool.{leb-true, ltb-true}
use Rattle.std.proofs.lemmas.Int.{ints}
use Rattle.std.proofs.Math.Nat.{pow-le-pow_right, mul-le-mul_right}
use Rattle.sat_math.specs.declared.Kind.{Kind}
use Rattle.sat_math.specs.declared.Kind.TheVariants.{Int, Unsigned, Bits, Bool as BoolKind, Unary}
use Rattle.sat_math.specs.declared.NumType.{NumType}
use Rattle.sat_math.specs.declared.Arith.{Arith}
use Rattle.sat_math.specs.declared.Arith.TheVariants.{Int32, Unsigned32, Int64, Unsigned64}
use Rattle.sat_math.specs.Numbers.{IsNumType, IsNumber, IsInRange, least_width, greatest_width}
use Rattle.sat_math.specs.Operations.{type_of}
use Rattle.stack_code.specs.Valid.{type_fits, field_fits, number_fits}
use Rattle.event_machine.specs.Works.{FieldFits}

-- a type that fits is a type
pub type_is : (t : NumType) → type_fits t ≡ true → IsNumType t
type_is t = by (nat_le (least_width t.kind) t.width) (nat_le t.width (greatest_width t.kind)) refl refl
  where
    by : (a b : Bool) → nat_le (least_width t.kind) t.width ≡ a → nat_le t.width (greatest_width t.kind) ≡ b → (a && b) ≡ true → IsNumType t
    by true true low high e = record { wide_enough = leb-true (least_width t.kind) t.width low; narrow_enough = leb-true t.width (greatest_width t.kind) high }
    by true false low high e = absurd cc
    by false b low high e = absurd cc

pub type_narrow : (t : NumType) → IsNumType t → t.width ≤ 64
type_narrow t h = narrow_at t.kind t.width h
  where
    narrow_at : (k : Kind) (n : ℕ) → IsNumType (record { kind = k; width = n }) → n ≤ 64
    narrow_at Int n h = h.narrow_enough
    narrow_at Unsigned n h = h.narrow_enough
    narrow_at Bits n h = h.narrow_enough
    narrow_at BoolKind n h = let a = h.narrow_enough in omega arith
    narrow_at Unary n h = h.narrow_enough

pub type_some : (t : NumType) → IsNumType t → 1 ≤ t.width
type_some t h = some_at t.kind t.width h
  where
    some_at : (k : Kind) (n : ℕ) → IsNumType (record { kind = k; width = n }) → 1 ≤ n
    some_at Int n h = let a = h.wide_enough in omega arith
    some_at Unsigned n h = h.wide_enough
    some_at Bits n h = h.wide_enough
    some_at BoolKind n h = h.wide_enough
    some_at Unary n h = h.wide_enough

pub field_is : (f : ℕ) (t : NumType) (n : ℕ) → field_fits f t n ≡ true → FieldFits f t n
field_is f t n = by (type_fits t) (nat_le 1 n) (nat_le (f + n * t.width) 71) refl refl refl
  where
    by : (a b c : Bool) → type_fits t ≡ a → nat_le 1 n ≡ b → nat_le (f + n * t.width) 71 ≡ c → (a && b && c) ≡ true → FieldFits f t n
    by true true true typed some within e = record { type = type_is t typed; some = leb-true 1 n some; within = leb-true (f + n * t.width) 71 within }
    by true true false typed some within e = absurd cc
    by true false c typed some within e = absurd cc
    by false b c typed some within e = absurd cc

range_at : (k : Kind) (n : ℕ) (v : ℤ) → IsNumType (record { kind = k; width = n }) → IsInRange (record { kind = k; width = n }) v → IsNumber v
range_at Int n v h r =
    let a = h.narrow_enough in
    let q : n - 1 ≤ 63 = omega arith in
    let p : 2 ^ (n - 1) ≤ 2 ^ 63 = pow-le-pow_right (omega arith) q in
    let u = r.upper in let l = r.lower in
    record { lower = grind (arith, ints); upper = grind (arith, ints) }
range_at Unsigned n v h r =
    let a = h.narrow_enough in
    let q : n ≤ 64 = omega arith in
    let p : 2 ^ n ≤ 2 ^ 64 = pow-le-pow_right (omega arith) q in
    let u = r.upper in let l = r.lower in
    record { lower = grind (arith, ints); upper = grind (arith, ints) }
range_at Bits n v h r =
    let a = h.narrow_enough in
    let q : n ≤ 64 = omega arith in
    let p : 2 ^ n ≤ 2 ^ 64 = pow-le-pow_right (omega arith) q in
    let u = r.upper in let l = r.lower in
    record { lower = grind (arith, ints); upper = grind (arith, ints) }
range_at BoolKind n v h r =
    let u = r.upper in let l = r.lower in
    record { lower = grind (arith, ints); upper = grind (arith, ints) }
range_at Unary n v h r =
    let a = h.narrow_enough in
    let u = r.upper in let l = r.lower in
    record { lower = grind (arith, ints); upper = grind (arith, ints) }

-- a number of a type is a number
pub in_range_number : (t : NumType) (v : ℤ) → IsNumType t → IsInRange t v → IsNumber v
in_range_number t v h r = range_at t.kind t.width v h r

pub type_of_is : (how : Arith) → IsNumType (type_of how)
type_of_is Int32 = record { wide_enough = omega arith; narrow_enough = omega arith }
type_of_is Unsigned32 = record { wide_enough = omega arith; narrow_enough = omega arith }
type_of_is Int64 = record { wide_enough = omega arith; narrow_enough = omega arith }
type_of_is Unsigned64 = record { wide_enough = omega arith; narrow_enough = omega arith }

pub saturated_number : (how : Arith) (v : ℤ) → IsInRange (type_of how) v → IsNumber v
saturated_number how v r = in_range_number (type_of how) v (type_of_is how) r

pub small_number : (n : ℕ) → n < 2 ^ 64 → IsNumber (pos n)
small_number n h = record { lower = grind (arith, ints); upper = grind (arith, ints) }

-- an element of an array lies in the array
pub element_fits : (f : ℕ) (t : NumType) (n i : ℕ) → FieldFits f t n → i < n → (f + i * t.width < 2 ^ 8) × (i * t.width < 2 ^ 8) × FieldFits (f + i * t.width) t 1
element_fits f t n i h lt =
    let w = h.within in
    let a : suc i ≤ n = omega arith in
    let m : suc i * t.width ≤ n * t.width = mul-le-mul_right t.width a in
    let e : suc i * t.width ≡ i * t.width + t.width = suc-mul i t.width in
    let d : 1 * t.width ≡ t.width = omega arith in
    (omega arith, omega arith, record { type = h.type; some = omega arith; within = omega arith })

-- a number that an operand can be
pub number_is : (v : ℤ) → number_fits v ≡ true → IsNumber v
number_is (pos n) e = let h : n < 2 ^ 64 = ltb-true n (2 ^ 64) e in small_number n h
number_is (negsuc n) e = let h : n < 2 ^ 63 = ltb-true n (2 ^ 63) e in record { lower = grind (arith, ints); upper = grind (arith, ints) }
