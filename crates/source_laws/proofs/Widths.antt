-- Widths and numbers that names allow are those that code has.
use Rattle.std.proofs.Common.{◌≡◌, ℕ, ◌^◌, ◌≤◌, ◌<◌, ℤ, pos, negsuc, Bool, true, false, List, [], ◌∷◌, ◌++◌, length, take, cond, find, nat_le, ◌-◌, Option, Some, None, option_map, refl, sym, subst, arith, unsigned_abs, int_le, zero, suc}
use Rattle.std.specs.Prelude.{slice_get}
use Rattle.std.specs.Option.{option_or}
use Rattle.std.specs.Str.{bytes_eq}
use Rattle.std.proofs.lemmas.Bool.{leb-true, le-leb, ltb-true}
use Rattle.std.proofs.lemmas.Int.{ints}
use Rattle.std.proofs.lemmas.Nat.{pow_pos}
use Rattle.std.proofs.Math.Pow.{pow_mono}
use Rattle.list_laws.proofs.Tests.{both}
use Rattle.sat_math.specs.declared.Kind.{Kind}
use Rattle.sat_math.specs.declared.Kind.TheVariants as k
use Rattle.sat_math.specs.declared.NumType.{NumType}
use Rattle.sat_math.specs.Numbers.{least_width, greatest_width, least, greatest}
use Rattle.ulam_tree.specs.declared.resolved.Ty.{Ty}
use Rattle.ulam_tree.specs.declared.resolved.Ty.TheVariants as y
use Rattle.ulam_tree.specs.declared.resolved.Named.{Named}
use Rattle.ulam_tree.specs.Raw as raw
use Rattle.ulam_names.specs.declared.basic.Value.{Value}
use Rattle.ulam_names.specs.declared.basic.Basic.{Basic}
use Rattle.ulam_names.specs.declared.basic.Basic.TheVariants.{Sized as sized, Whole as whole}
use Rattle.ulam_names.specs.Scopes.{Text, allows, widest_of, beside, number_of, built_in, basic_named, number_type, as_number, in_range}
use Rattle.ulam_names.specs.Relation.{IsSized, IsType}
use Rattle.type_rules.specs.Rows.{plain_fits}
use Rattle.stack_code.specs.Valid.{type_fits, number_fits}
use Rattle.code_gen.specs.Named.{IsWide, AllWide}

-- Numbers

-- a width between the least and the greatest of its kind
wide_type : (kind : Kind) (w : ℕ) → least_width kind ≤ w → w ≤ greatest_width kind → type_fits (record { kind = kind; width = w }) ≡ true
wide_type kind w low high = let a = le-leb (least_width kind) w low in let b = le-leb w (greatest_width kind) high in rw a b

same_widest : (kind : Kind) → widest_of kind ≡ greatest_width kind
same_widest k.Bool = refl
same_widest kind = refl

between : (a b : ℕ) (v : ℤ) → int_le (pos a) v ≡ true → int_le v (pos b) ≡ true → (a ≤ unsigned_abs v) × (unsigned_abs v ≤ b)
between a b (pos n) low high = (grind (arith, ints), grind (arith, ints))
between a b (negsuc n) low high = cc

-- a width that names allow
allowed_fits : (kind : Kind) (v : ℤ) → allows kind v ≡ true → type_fits (record { kind = kind; width = unsigned_abs v }) ≡ true
allowed_fits kind v h =
    let p = both (int_le (pos (least_width kind)) v) (int_le v (pos (widest_of kind))) h in
    let w = between (least_width kind) (widest_of kind) v p.0 p.1 in
    wide_type kind (unsigned_abs v) w.0 (subst (λ m. unsigned_abs v ≤ m) (same_widest kind) w.1)

-- no kind has more than 64 bits
most_bits : (kind : Kind) (w : ℕ) → w ≤ greatest_width kind → w ≤ 64
most_bits k.Bool w e = omega (arith, e)
most_bits kind w e = e

-- a number of a kind, in at most 64 bits
kind_fits : (kind : Kind) (w : ℕ) (v : ℤ) → w ≤ 64 → int_le (least kind w) v ≡ true → int_le v (greatest kind w) ≡ true → number_fits v ≡ true
kind_fits k.Int w (pos m) le low high = let few : w - 1 ≤ 63 = omega (arith, le) in let p : 2 ^ (w - 1) ≤ 2 ^ 63 = pow_mono few in grind (arith, ints)
kind_fits k.Int w (negsuc m) le low high = let few : w - 1 ≤ 63 = omega (arith, le) in let p : 2 ^ (w - 1) ≤ 2 ^ 63 = pow_mono few in grind (arith, ints)
kind_fits k.Unsigned w (pos m) le low high = let p : 2 ^ w ≤ 2 ^ 64 = pow_mono le in grind (arith, ints, pow_pos)
kind_fits k.Bits w (pos m) le low high = let p : 2 ^ w ≤ 2 ^ 64 = pow_mono le in grind (arith, ints, pow_pos)
kind_fits k.Bool w (pos m) le low high = grind (arith, ints)
kind_fits k.Unary w (pos m) le low high = grind (arith, ints)
kind_fits kind w (negsuc m) le low high = grind (arith, ints)

-- a constant's value
pub value_fits : (num : NumType) (v : ℤ) → type_fits num ≡ true → in_range num v ≡ true → number_fits v ≡ true
value_fits num v h range =
    let w = both (nat_le (least_width num.kind) num.width) (nat_le num.width (greatest_width num.kind)) h in
    let p = both (int_le (least num.kind num.width) v) (int_le v (greatest num.kind num.width)) range in
    kind_fits num.kind num.width v (most_bits num.kind num.width (leb-true num.width (greatest_width num.kind) w.1)) p.0 p.1

-- a number of a source
pub plain_number : (kind : Kind) (v : ℕ) → plain_fits kind v ≡ true → number_fits (pos v) ≡ true
plain_number k.Int v h = let lt : v < 2 ^ 31 = ltb-true v (2 ^ 31) h in le-leb (suc v) (2 ^ 64) (omega (arith, lt))
plain_number kind v h = let lt : v < 2 ^ 32 = ltb-true v (2 ^ 32) h in le-leb (suc v) (2 ^ 64) (omega (arith, lt))

-- Names and what stands beside them

-- P of what stands beside each name
abbrev pub Each : {A : Type 0} → (A → Type 0) → List (Text × A) → Type 0
Each P [] = Unit {0}
Each P (p ∷ ps) = P p.1 × Each P ps

pub each_more : {A : Type 0} (P : A → Type 0) (ps : List (Text × A)) (name : Text) (x : A) → Each P ps → P x → Each P (ps ++ (name, x) ∷ [])
each_more P [] name x h g = (g, tt)
each_more P (p ∷ ps) name x h g = (h.0, each_more P ps name x h.1 g)

pub each_take : {A : Type 0} (P : A → Type 0) (ps : List (Text × A)) (i : ℕ) → Each P ps → Each P (take i ps)
each_take P ps zero h = tt
each_take P [] (suc i) h = tt
each_take P (p ∷ ps) (suc i) h = (h.0, each_take P ps i h.1)

pub beside_each : {A : Type 0} (P : A → Type 0) (name : Text) (ps : List (Text × A)) (x : A) → Each P ps → beside name ps ≡ Some x → P x
beside_each P name [] x h e = cc
beside_each {A = A} P name (p ∷ ps) x h e = go (bytes_eq name p.0) (beside_each P name ps x h.1) e
  where
    go : (b : Bool) → (beside name ps ≡ Some x → P x) → option_map (λ (p : Text × A). p.1) (cond b (Some p) (find (λ (p : Text × A). bytes_eq name p.0) ps)) ≡ Some x → P x
    go true rest e = let q : p.1 ≡ x = cc in subst P q h.0
    go false rest e = rest e

-- Types

abbrev pub FitsNum : NumType → Type 0
FitsNum num = type_fits num ≡ true

-- a constant with its type
abbrev pub FitsValue : Value → Type 0
FitsValue v = FitsNum v.num × (number_fits v.value ≡ true)

abbrev IsWideBasic : Basic → Type 0
IsWideBasic (sized kind w) = FitsNum (record { kind = kind; width = w })
IsWideBasic (whole ty) = IsWide ty

built_in_wide : Each IsWideBasic built_in
unfolding built_in
built_in_wide = (refl, (refl, (refl, (refl, (refl, (tt, (tt, (tt, (tt, (tt, tt))))))))))

-- a type's name
basic_wide : (typedefs : List (Text × NumType)) (classes : List Text) (name : Text) (b : Basic) → Each FitsNum typedefs → basic_named typedefs classes name ≡ Some b → IsWideBasic b
basic_wide typedefs classes name b h e = by_typedef (beside name typedefs) refl e
  where
    by_class : (o : Option ℕ) → option_map (λ (j : ℕ). whole (y.Class j)) o ≡ Some b → IsWideBasic b
    by_class None e = cc
    by_class (Some j) e = let q : whole (y.Class j) ≡ b = cc in subst IsWideBasic q tt

    by_built : (o : Option Basic) → beside name built_in ≡ o → option_or o (option_map (λ (j : ℕ). whole (y.Class j)) (number_of name classes)) ≡ Some b → IsWideBasic b
    by_built None f e = by_class (number_of name classes) e
    by_built (Some x) f e = let q : x ≡ b = cc in subst IsWideBasic q (beside_each IsWideBasic name built_in x built_in_wide f)

    by_typedef : (o : Option NumType) → beside name typedefs ≡ o → option_or (option_map (λ (num : NumType). whole (number_type num)) o) (option_or (beside name built_in) (option_map (λ (j : ℕ). whole (y.Class j)) (number_of name classes))) ≡ Some b → IsWideBasic b
    by_typedef None f e = by_built (beside name built_in) refl e
    by_typedef (Some num) f e = let q : whole (number_type num) ≡ b = cc in subst IsWideBasic q (beside_each FitsNum name typedefs num h f)

sized_wide : (values : Text → Option ℤ) (b : Basic) (width : Option raw.Width) (ty : Ty) → IsWideBasic b → IsSized values b width ty → IsWide ty
sized_wide values (whole x) None ty w h = subst IsWide (sym h) w
sized_wide values (whole x) (Some d) ty w h = absurd h
sized_wide values (sized kind m) None ty w h = subst IsWide (sym h) w
sized_wide values (sized kind m) (Some d) ty w h = subst IsWide (sym h.3) (allowed_fits kind h.0 h.2)

-- what a type's name with its width means
pub type_wide : (typedefs : List (Text × NumType)) (classes : List Text) (values : Text → Option ℤ) (x : raw.TypeRef) (named : Named) → Each FitsNum typedefs → IsType (basic_named typedefs classes) values x named → IsWide named.ty
type_wide typedefs classes values x named h i =
    subst (λ (n : Named). IsWide n.ty) (sym i.4) (sized_wide values i.0 x.width i.1 (basic_wide typedefs classes x.word.name i.0 h i.2) i.3)

-- of a type of numbers
pub number_wide : (ty : Ty) (num : NumType) → as_number ty ≡ Some num → IsWide ty → FitsNum num
number_wide (y.Num x) num e h = let q : x ≡ num = cc in subst FitsNum q h
number_wide ty num e h = cc

-- Lists of types

pub wide_both : (xs ys : List Ty) → AllWide xs → AllWide ys → AllWide (xs ++ ys)
wide_both [] ys h g = g
wide_both (x ∷ xs) ys h g = (h.0, wide_both xs ys h.1 g)

-- what stands straight behind the first part of a list
pub get_behind : {A : Type 0} (front : List A) (x : A) (back : List A) (i : ℕ) → length front ≡ i → slice_get (front ++ (x ∷ back)) i ≡ Some x
get_behind [] x back zero h = refl
get_behind [] x back (suc i) h = absurd (omega (arith, h))
get_behind (z ∷ front) x back zero h = absurd (omega (arith, h))
get_behind (z ∷ front) x back (suc i) h = get_behind front x back i (omega (arith, h))
