-- Laws of numbers.
use Rattle.std.proofs.Common.{◌≡◌, ℕ, zero, suc, ◌+◌, ◌*◌, ◌/◌, ◌%◌, ◌^◌, ◌<◌, ◌≤◌, true, [], ◌∷◌, Ok, refl, sym, ap, subst, ◌∙◌, arith, inl, inr}
use Rattle.std.specs.Prelude.{nat_le}
use Rattle.std.proofs.Math.Nat.{div-one, div-div-eq-div-mul}
use Rattle.std.proofs.lemmas.Bool.{cases_lt, le-leb, leb-true}
use Rattle.std.proofs.lemmas.Nat.{div-add-mod', div-mul-add, div_below, le-div, mod-mul-add, mod_below, mul-le, pow-add, pow_pos}
use Rattle.list_laws.proofs.Tests as tests
use Rattle.code_file.specs.Numbers.{be}
use Rattle.code_file.specs.Reading.{byte_at, digit_at, may_be, number_at, number_from}
use Rattle.code_file.proofs.Gathers.{made_laws}
use Rattle.code_file.proofs.Laws.{Laws, bind_laws, byte_laws, pure_laws, same_laws}

-- a number that begins with v, and is between two ends
abbrev pub InPart : ℕ → ℕ → ℕ → ℕ → ℕ → Type 0
InPart w v least greatest n = (n / 2 ^ (8 * w) ≡ v) × ((least ≤ n) × (n ≤ greatest))

-- the first bytes of a number up to one more
abbrev IsDigit : ℕ → ℕ → ℕ → ℕ → ℕ → Type 0
IsDigit w v least greatest x = (x / 256 ≡ v) × (may_be w least greatest x ≡ true)

le_of_div : (u a b : ℕ) → 0 < u → a ≤ b → a / u ≤ b / u
le_of_div u a b pos le = le-div (a / u) b u pos (omega (arith, div-add-mod' a u))

-- a number of which the part above u is x
whole_of : (u least greatest x : ℕ) → 0 < u → least ≤ greatest → least / u ≤ x → x ≤ greatest / u → (n : ℕ) × ((n / u ≡ x) × ((least ≤ n) × (n ≤ greatest)))
whole_of u least greatest x pos le low high = elim (cases_lt (x * u) least) [
  | inl lt ↦
      let up : x ≤ least / u = le-div x least u pos (omega arith) in
      (least, (omega (arith, up), (omega arith, le)))
  | inr ge ↦
      let is : x * u / u ≡ x = ap (λ k. k / u) (let e : x * u ≡ x * u + 0 = omega arith in e) ∙ div-mul-add x u 0 pos in
      let most : x * u ≤ greatest / u * u = mul-le x u (greatest / u) u high (omega arith) in
      (x * u, (is, (ge, omega (arith, most, div-add-mod' greatest u))))
]

may_of : (w least greatest x : ℕ) → may_be w least greatest x ≡ true → (least / 2 ^ (8 * w) ≤ x) × (x ≤ greatest / 2 ^ (8 * w))
may_of w least greatest x h = let p = tests.both (nat_le (least / 2 ^ (8 * w)) x) (nat_le x (greatest / 2 ^ (8 * w))) h in (leb-true _ _ p.0, leb-true _ _ p.1)

of_may : (w least greatest x : ℕ) → least / 2 ^ (8 * w) ≤ x → x ≤ greatest / 2 ^ (8 * w) → may_be w least greatest x ≡ true
of_may w least greatest x a b = tests.together (nat_le (least / 2 ^ (8 * w)) x) (nat_le x (greatest / 2 ^ (8 * w))) (le-leb _ _ a) (le-leb _ _ b)

digit_laws : (w v least greatest x : ℕ) → IsDigit w v least greatest x → Laws (digit_at w least greatest v) (λ x. x % 256 ∷ []) (IsDigit w v least greatest)
digit_laws w v least greatest x h =
    let test = λ (b : ℕ). may_be w least greatest (v * 256 + b) in
    let again : (y : ℕ) → y / 256 ≡ v → v * 256 + y % 256 ≡ y = λ y e. ap (λ k. k * 256 + y % 256) (sym e) ∙ div-add-mod' y 256 in
    made_laws (byte_at test) (λ b. v * 256 + b) (λ b. b ∷ []) (λ b. (b < 256) × (test b ≡ true)) (λ x. x % 256 ∷ []) (IsDigit w v least greatest)
    (byte_laws test (x % 256) (mod_below x 256 (omega arith)) (ap (may_be w least greatest) (again x h.0) ∙ h.1))
    (λ b f. ((div-mul-add v 256 b f.0, f.1), ap (λ k. k ∷ []) (mod-mul-add v 256 b f.0)))
    (λ y f. (y % 256, (mod_below y 256 (omega arith), ap (may_be w least greatest) (again y f.0) ∙ f.1), sym (again y f.0)))

size : (w : ℕ) → 2 ^ (8 * suc w) ≡ 2 ^ (8 * w) * 256
size w = let e : 8 * suc w ≡ 8 * w + 8 = omega arith in rw (e, pow-add 2 (8 * w) 8) refl

upper : (w n : ℕ) → n / 2 ^ (8 * w) / 256 ≡ n / 2 ^ (8 * suc w)
upper w n = div-div-eq-div-mul n (2 ^ (8 * w)) 256 ∙ ap (λ k. n / k) (sym (size w))

pub number_laws : (w v least greatest : ℕ) → least ≤ greatest → (n : ℕ) × InPart w v least greatest n → Laws (number_from w least greatest v) (be w) (InPart w v least greatest)
unfolding number_from be
number_laws zero v least greatest le h =
    let one : (c : ℕ) → c / 1 ≡ c = div-one in
    same_laws (λ bytes. Ok (v, bytes)) (λ c. []) (be zero) (λ c. c ≡ v) (InPart zero v least greatest) (pure_laws v)
    (λ c e. let m : h.0 ≡ v = sym (one h.0) ∙ h.1.0 in (one c ∙ e, subst (λ k. (least ≤ k) × (k ≤ greatest)) (m ∙ sym e) h.1.1)) (λ c f. sym (one c) ∙ f.0) (λ c f. refl)
number_laws (suc w) v least greatest le h =
    let u = 2 ^ (8 * w) in
    let top : (n : ℕ) → InPart (suc w) v least greatest n → IsDigit w v least greatest (n / u) = λ n f.
    (upper w n ∙ f.0, of_may w least greatest (n / u) (le_of_div u least n (pow_pos (8 * w)) f.1.0) (le_of_div u n greatest (pow_pos (8 * w)) f.1.1)) in
    bind_laws ℕ ℕ (digit_at w least greatest v) (λ x. number_from w least greatest x) (λ x. x % 256 ∷ []) (IsDigit w v least greatest) (λ x. be w) (λ x. InPart w x least greatest) (be (suc w)) (InPart (suc w) v least greatest)
    (record {
      join = λ x n f1 f2. ((sym (upper w n) ∙ ap (λ k. k / 256) f2.0 ∙ f1.0, f2.1), ap (λ k. k % 256 ∷ be w n) f2.0);
      split = λ n f. (n / u, top n f, (refl, f.1));
    }) (digit_laws w v least greatest (h.0 / u) (top h.0 h.1))
    (λ x f. let m = may_of w least greatest x f.1 in number_laws w x least greatest le (whole_of u least greatest x (pow_pos (8 * w)) le m.0 m.1))

-- a number of w bytes between two ends
pub number_whole : (w least greatest : ℕ) → least ≤ greatest → greatest < 2 ^ (8 * w) → Laws (number_at w least greatest) (be w) (λ n. (least ≤ n) × (n ≤ greatest))
number_whole w least greatest le small =
    let none : (n : ℕ) → n ≤ greatest → n / 2 ^ (8 * w) ≡ 0 = λ n h. let z : n / 2 ^ (8 * w) < 1 = div_below n (2 ^ (8 * w)) 1 (pow_pos (8 * w)) (omega arith) in omega arith in
    same_laws (number_at w least greatest) (be w) (be w) (InPart w 0 least greatest) (λ n. (least ≤ n) × (n ≤ greatest)) (number_laws w 0 least greatest le (least, (none least le, (omega arith, le))))
    (λ n f. f.1) (λ n f. (none n f.1, f)) (λ n f. refl)
