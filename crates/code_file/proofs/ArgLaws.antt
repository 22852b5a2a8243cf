-- Laws of the arguments of instructions.
use Rattle.std.proofs.Common.{◌≡◌, ℕ, zero, suc, ◌-◌, ◌^◌, ◌<◌, ◌≤◌, Bool, true, false, List, [], ◌∷◌, ◌++◌, Ok, refl, sym, ap, subst, ◌∙◌, arith, inl, inr}
use Rattle.std.specs.Prelude.{◌⊎◌, ◌==◌, ◌||◌, ℤ, pos, negsuc}
use Rattle.std.proofs.lemmas.Bool.{eqb-true, lt-ltb, ltb-true}
use Rattle.std.proofs.lemmas.Nat.{mod_below}
use Rattle.sat_math.specs.declared.Kind.{Kind}
use Rattle.sat_math.specs.declared.Kind.TheVariants as kind
use Rattle.stack_code.specs.Valid.{number_fits}
use Rattle.code_file.specs.Instrs.{IsByte, IsField, IsPlace, array_bytes, field_bytes, kind_code}
use Rattle.code_file.specs.Numbers.{be, bytes_of_signed}
use Rattle.code_file.specs.Reading.{◌>>=◌, any_byte, array_at, byte_at, field_at, fit_at, is_sign, kind_at, kind_of, number_at, part_array_at, part_at, place_at, signed_at, signed_rest, type_at, width_at}
use Rattle.code_file.specs.declared.field.Field.{Field}
use Rattle.code_file.proofs.Gathers.{both_laws, made_laws}
use Rattle.code_file.proofs.Laws.{Laws, IsBytes, bind_laws, byte_laws, same_laws}
use Rattle.code_file.proofs.NumberLaws.{number_whole}

pub any_laws : Laws any_byte (be 1) IsByte
unfolding any_byte
any_laws = same_laws (number_at 1 0 255) (be 1) (be 1) (λ n. (0 ≤ n) × (n ≤ 255)) IsByte (number_whole 1 0 255 (omega arith) (omega arith)) (λ n f. omega (arith, f.1)) (λ n f. (omega arith, omega (arith, f))) (λ n f. refl)

pub place_laws : Laws place_at (be 4) IsPlace
unfolding place_at
place_laws = same_laws (number_at 4 0 (2 ^ 32 - 1)) (be 4) (be 4) (λ n. (0 ≤ n) × (n ≤ 2 ^ 32 - 1)) IsPlace (number_whole 4 0 (2 ^ 32 - 1) (omega arith) (omega arith)) (λ n f. omega (arith, f.1)) (λ n f. (omega arith, omega (arith, f))) (λ n f. refl)

pub width_laws : Laws width_at (be 1) (λ w. (1 ≤ w) × (w ≤ 64))
unfolding width_at
width_laws = number_whole 1 1 64 (omega arith) (omega arith)

pub type_laws : (greatest : ℕ) → greatest ≤ 65535 → Laws (type_at greatest) (be 2) (λ k. k ≤ greatest)
unfolding type_at
type_laws greatest h = same_laws (number_at 2 0 greatest) (be 2) (be 2) (λ n. (0 ≤ n) × (n ≤ greatest)) (λ k. k ≤ greatest) (number_whole 2 0 greatest (omega arith) (omega arith)) (λ n f. f.1) (λ n f. (omega arith, f)) (λ n f. refl)

kind_back : (n : ℕ) → n ≤ 4 → kind_code (kind_of n) ≡ n
kind_back zero h = refl
kind_back (suc zero) h = refl
kind_back (suc (suc zero)) h = refl
kind_back (suc (suc (suc zero))) h = refl
kind_back (suc (suc (suc (suc zero)))) h = refl
kind_back (suc (suc (suc (suc (suc n))))) h = absurd (omega (arith, h))

kind_again : (k : Kind) → (kind_code k ≤ 4) × (k ≡ kind_of (kind_code k))
kind_again kind.Int = (omega arith, refl)
kind_again kind.Unsigned = (omega arith, refl)
kind_again kind.Bits = (omega arith, refl)
kind_again kind.Bool = (omega arith, refl)
kind_again kind.Unary = (omega arith, refl)

abbrev pub kind_bytes : Kind → List ℕ
kind_bytes k = be 1 (kind_code k)

abbrev pub AnyKind : Kind → Type 0
AnyKind k = Unit {0}

pub kind_laws : Laws kind_at kind_bytes AnyKind
unfolding kind_at
kind_laws = made_laws (number_at 1 0 4) kind_of (be 1) (λ n. (0 ≤ n) × (n ≤ 4)) kind_bytes AnyKind (number_whole 1 0 4 (omega arith) (omega arith))
    (λ n f. (tt, ap (be 1) (kind_back n f.1))) (λ k f. (kind_code k, (omega arith, (kind_again k).0), (kind_again k).1))

abbrev pub of_field : Field → List ℕ
of_field c = field_bytes c.first c.width c.kind

abbrev pub FieldFits : Field → Type 0
FieldFits c = IsField c.first c.width

pub field_laws : Laws field_at of_field FieldFits
unfolding field_at
field_laws =
    bind_laws ℕ Field any_byte (λ f bytes. any_byte bytes >>= λ w. kind_at w.1 >>= λ k. Ok (record { first = f; width = w.0; kind = k.0 }, k.1)) (be 1) IsByte (λ f c. be 1 c.width ++ kind_bytes c.kind) (λ f c. (c.first ≡ f) × IsByte c.width) of_field FieldFits
    (record {
      join = λ f c f1 f2. ((subst IsByte (sym f2.0) f1, f2.1), ap (λ x. be 1 x ++ (be 1 c.width ++ kind_bytes c.kind)) f2.0);
      split = λ c f. (c.first, f.0, (refl, f.1));
    }) any_laws (λ f h.
    bind_laws ℕ Field any_byte (λ w bytes. kind_at bytes >>= λ k. Ok (record { first = f; width = w; kind = k.0 }, k.1)) (be 1) IsByte (λ w c. kind_bytes c.kind) (λ w c. (c.first ≡ f) × (c.width ≡ w)) (λ (c : Field). be 1 c.width ++ kind_bytes c.kind) (λ (c : Field). (c.first ≡ f) × IsByte c.width)
    (record {
      join = λ w c f1 f2. ((f2.0, subst IsByte (sym f2.1) f1), ap (λ x. be 1 x ++ kind_bytes c.kind) f2.1);
      split = λ c g. (c.width, g.1, (g.0, refl));
    }) any_laws (λ w h2.
    made_laws kind_at (λ k. record { first = f; width = w; kind = k }) kind_bytes AnyKind (λ (c : Field). kind_bytes c.kind) (λ (c : Field). (c.first ≡ f) × (c.width ≡ w)) kind_laws
    (λ k g. ((refl, refl), refl)) (λ c g. (c.kind, tt, λ i. record { first = g.0 i; width = g.1 i; kind = c.kind }))))

pub part_laws : Laws part_at (λ (p : ℕ × Field). be 1 p.0 ++ of_field p.1) (λ (p : ℕ × Field). IsByte p.0 × FieldFits p.1)
unfolding part_at
part_laws = both_laws any_byte field_at (be 1) IsByte of_field FieldFits any_laws field_laws

pub array_laws : Laws array_at (λ (p : Field × ℕ). of_field p.0 ++ be 1 p.1) (λ (p : Field × ℕ). FieldFits p.0 × IsByte p.1)
unfolding array_at
array_laws = both_laws field_at any_byte of_field FieldFits (be 1) IsByte field_laws any_laws

pub part_array_laws : Laws part_array_at (λ (p : ℕ × (Field × ℕ)). be 1 p.0 ++ (of_field p.1.0 ++ be 1 p.1.1)) (λ (p : ℕ × (Field × ℕ)). IsByte p.0 × (FieldFits p.1.0 × IsByte p.1.1))
unfolding part_array_at
part_array_laws = both_laws any_byte array_at (be 1) IsByte (λ (p : Field × ℕ). of_field p.0 ++ be 1 p.1) (λ (p : Field × ℕ). FieldFits p.0 × IsByte p.1) any_laws array_laws

pub fit_laws : Laws fit_at (λ (p : Kind × ℕ). kind_bytes p.0 ++ be 1 p.1) (λ (p : Kind × ℕ). AnyKind p.0 × IsByte p.1)
unfolding fit_at
fit_laws = both_laws kind_at any_byte kind_bytes AnyKind (be 1) IsByte kind_laws any_laws

-- Numbers with a sign

abbrev sign_of : ℤ → ℕ
sign_of (pos n) = 0
sign_of (negsuc n) = 255

abbrev low_bytes : ℤ → List ℕ
low_bytes (pos n) = be 8 n
low_bytes (negsuc n) = be 8 (2 ^ 64 - 1 - n)

abbrev Fits : ℤ → Type 0
Fits v = number_fits v ≡ true

sign_split : (v : ℤ) → bytes_of_signed v ≡ sign_of v ∷ low_bytes v
sign_split (pos n) = refl
sign_split (negsuc n) = refl

sign_is : (v : ℤ) → (sign_of v < 256) × (is_sign (sign_of v) ≡ true)
sign_is (pos n) = (omega arith, refl)
sign_is (negsuc n) = (omega arith, refl)

sign_cases : (b : ℕ) → is_sign b ≡ true → (b ≡ 0) ⊎ (b ≡ 255)
sign_cases b h = by (b == 0) (b == 255) refl refl h
  where
    by : (s t : Bool) → (b == 0) ≡ s → (b == 255) ≡ t → (s || t) ≡ true → (b ≡ 0) ⊎ (b ≡ 255)
    by true t e f h = inl (eqb-true b 0 e)
    by false true e f h = inr (eqb-true b 255 f)
    by false false e f h = absurd cc

abbrev Signed : ℕ → ℤ → Type 0
Signed b v = (sign_of v ≡ b) × Fits v

above_laws : Laws (signed_rest 0) low_bytes (Signed 0)
above_laws = made_laws (number_at 8 0 (2 ^ 64 - 1)) pos (be 8) (λ n. (0 ≤ n) × (n ≤ 2 ^ 64 - 1)) low_bytes (Signed 0) (number_whole 8 0 (2 ^ 64 - 1) (omega arith) (omega arith)) to from
  where
    to : (n : ℕ) → (0 ≤ n) × (n ≤ 2 ^ 64 - 1) → Signed 0 (pos n) × (low_bytes (pos n) ≡ be 8 n)
    to n f = ((refl, lt-ltb n (2 ^ 64) (omega (arith, f.1))), refl)

    from : (v : ℤ) → Signed 0 v → (n : ℕ) × ((0 ≤ n) × (n ≤ 2 ^ 64 - 1)) × (v ≡ pos n)
    from (pos n) f = let lt = ltb-true n (2 ^ 64) f.1 in (n, (omega arith, omega (arith, lt)), refl)
    from (negsuc n) f = absurd (omega (arith, f.0))

below_laws : Laws (signed_rest 255) low_bytes (Signed 255)
below_laws = made_laws (number_at 8 (2 ^ 63) (2 ^ 64 - 1)) (λ n. negsuc (2 ^ 64 - 1 - n)) (be 8) (λ n. (2 ^ 63 ≤ n) × (n ≤ 2 ^ 64 - 1)) low_bytes (Signed 255) (number_whole 8 (2 ^ 63) (2 ^ 64 - 1) (omega arith) (omega arith)) to from
  where
    to : (n : ℕ) → (2 ^ 63 ≤ n) × (n ≤ 2 ^ 64 - 1) → Signed 255 (negsuc (2 ^ 64 - 1 - n)) × (low_bytes (negsuc (2 ^ 64 - 1 - n)) ≡ be 8 n)
    to n f = ((refl, lt-ltb (2 ^ 64 - 1 - n) (2 ^ 63) (omega (arith, f.0, f.1))), ap (be 8) (let e : 2 ^ 64 - 1 - (2 ^ 64 - 1 - n) ≡ n = omega (arith, f.1) in e))

    from : (v : ℤ) → Signed 255 v → (n : ℕ) × ((2 ^ 63 ≤ n) × (n ≤ 2 ^ 64 - 1)) × (v ≡ negsuc (2 ^ 64 - 1 - n))
    from (pos n) f = absurd (omega (arith, f.0))
    from (negsuc m) f =
        let lt = ltb-true m (2 ^ 63) f.1 in
        let e : m ≡ 2 ^ 64 - 1 - (2 ^ 64 - 1 - m) = omega (arith, lt) in
        (2 ^ 64 - 1 - m, (omega (arith, lt), omega arith), ap negsuc e)

rest_laws : (b : ℕ) → (b < 256) × (is_sign b ≡ true) → Laws (signed_rest b) low_bytes (Signed b)
rest_laws b h = elim (sign_cases b h.1) [
  | inl e ↦ subst (λ k. Laws (signed_rest k) low_bytes (Signed k)) (sym e) above_laws
  | inr e ↦ subst (λ k. Laws (signed_rest k) low_bytes (Signed k)) (sym e) below_laws
]

pub signed_laws : Laws signed_at bytes_of_signed Fits
unfolding signed_at
signed_laws =
    bind_laws ℕ ℤ (byte_at is_sign) signed_rest (λ b. b ∷ []) (λ b. (b < 256) × (is_sign b ≡ true)) (λ b. low_bytes) Signed bytes_of_signed Fits
    (record {
      join = λ b v f1 f2. (f2.1, sign_split v ∙ ap (λ k. k ∷ low_bytes v) f2.0);
      split = λ v f. (sign_of v, sign_is v, (refl, f));
    }) (byte_laws is_sign 0 (omega arith) refl) rest_laws

-- Bytes

pub be_bytes : (w n : ℕ) → IsBytes (be w n)
unfolding be
be_bytes zero n i = omega arith
be_bytes (suc w) n zero = mod_below _ 256 (omega arith)
be_bytes (suc w) n (suc i) = be_bytes w n i

pub bytes_after : (a b : List ℕ) → IsBytes a → IsBytes b → IsBytes (a ++ b)
bytes_after [] b p q i = q i
bytes_after (x ∷ a) b p q zero = p 0
bytes_after (x ∷ a) b p q (suc i) = bytes_after a b (λ j. p (suc j)) q i

pub signed_bytes : (v : ℤ) → IsBytes (bytes_of_signed v)
signed_bytes (pos n) zero = omega arith
signed_bytes (pos n) (suc i) = be_bytes 8 n i
signed_bytes (negsuc n) zero = omega arith
signed_bytes (negsuc n) (suc i) = be_bytes 8 (2 ^ 64 - 1 - n) i

pub field_are : (f w : ℕ) (k : Kind) → IsBytes (field_bytes f w k)
field_are f w k = bytes_after (be 1 f) (be 1 w ++ be 1 (kind_code k)) (be_bytes 1 f) (bytes_after (be 1 w) (be 1 (kind_code k)) (be_bytes 1 w) (be_bytes 1 (kind_code k)))

pub array_are : (f w : ℕ) (k : Kind) (n : ℕ) → IsBytes (array_bytes f w k n)
array_are f w k n = bytes_after (field_bytes f w k) (be 1 n) (field_are f w k) (be_bytes 1 n)
