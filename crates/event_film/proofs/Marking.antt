-- Marks in the bits of a number.
use Rattle.std.proofs.Common.{ℕ, zero, suc, ◌≡◌, ◌<◌, ◌≤◌, ◌+◌, ◌-◌, ◌*◌, ◌/◌, ◌%◌, ◌^◌, ◌∙◌, Bool, true, false, List, [], ◌∷◌, ◌++◌, length, refl, ap, arith, sym, set, take}
use Rattle.std.specs.Prelude.{◌==◌, cond, count_ones, replicate}
use Rattle.std.specs.Int.{bit_at, trailing_zeros, w64}
use Rattle.std.proofs.lemmas.List.Sums.{sum_by-cons}
use Rattle.std.proofs.lemmas.List.{take_more_set, take_all, length-set, append-nil}
use Rattle.std.proofs.lemmas.Nat.{ones-le}
use lib.Count.{ones_step}
use Rattle.std.proofs.lemmas.Nat.Bits.{bit_at_lowest, bit_at-suc, bit_at-trailing_zeros}
use Rattle.std.proofs.Math.Nat.{div-div-eq-div-mul, div-one}
use Rattle.std.proofs.Math.Pow.{pow_mono}
use Rattle.std.proofs.Math.Seq.{append_snoc}
use Rattle.event_film.specs.Marks.{marked, marks_in}

half : (m : ℕ) (b : Bool) → (2 * m + cond b 1 0) / 2 ≡ m
half m true = omega arith
half m false = omega arith

lowest : (m : ℕ) (b : Bool) → ((2 * m + cond b 1 0) % 2 == 1) ≡ b
lowest m true = let e : (2 * m + 1) % 2 ≡ 1 = omega arith in ap (λ k. k == 1) e
lowest m false = let e : (2 * m + 0) % 2 ≡ 0 = omega arith in ap (λ k. k == 1) e

pub marks_none : (bits : ℕ) → marks_in 0 bits ≡ []
unfolding marks_in
marks_none bits = refl

pub marks_first : (k bits : ℕ) → marks_in (suc k) bits ≡ (bits % 2 == 1) ∷ marks_in k (bits / 2)
unfolding marks_in
marks_first k bits = refl

-- one more mark, before the others
pub marks_more : (k m : ℕ) (b : Bool) → marks_in (suc k) (2 * m + cond b 1 0) ≡ b ∷ marks_in k m
marks_more k m b = marks_first k (2 * m + cond b 1 0) ∙ (λ i. lowest m b i ∷ marks_in k (half m b i))

pub twice_small : (k m : ℕ) (b : Bool) → m < 2 ^ k → 2 * m + cond b 1 0 < 2 ^ suc k
twice_small k m true lt = omega (arith, lt)
twice_small k m false lt = omega (arith, lt)

pub length_marks : (k bits : ℕ) → length (marks_in k bits) ≡ k
length_marks zero bits = ap length (marks_none bits)
length_marks (suc k) bits = ap length (marks_first k bits) ∙ ap suc (length_marks k (bits / 2))

-- one mark more
pub marked_more : (ms : List Bool) → marked (true ∷ ms) ≡ suc (marked ms)
marked_more ms = omega (arith, sum_by-cons (λ (m : Bool). cond m 1 0) true ms)

pub marked_same : (ms : List Bool) → marked (false ∷ ms) ≡ marked ms
marked_same ms = omega (arith, sum_by-cons (λ (m : Bool). cond m 1 0) false ms)

-- no mark
marks_zero : (k : ℕ) → marks_in k 0 ≡ replicate k false
marks_zero zero = marks_none 0
marks_zero (suc k) = marks_first k 0 ∙ ap (λ ms. false ∷ ms) (marks_zero k)

pub none_marked : (k bits : ℕ) → bits ≡ 0 → marks_in k bits ≡ replicate (length (marks_in k bits)) false
none_marked k bits none = ap (marks_in k) none ∙ marks_zero k ∙ ap (λ n. replicate n false) (sym (length_marks k bits))

-- all marks
pub marks_all : marks_in 41 (2 ^ 41 - 1) ≡ replicate 41 true
unfolding marks_in
marks_all = refl

-- the marks are counted by the ones of the number
pub marked_ones : (k bits : ℕ) → bits < 2 ^ k → count_ones bits ≡ marked (marks_in k bits)
marked_ones zero bits lt = let none : count_ones bits ≡ 0 = omega (arith, ones-le 0 bits lt) in none ∙ ap marked (sym (marks_none bits))
marked_ones (suc k) bits lt = go (marked_ones k (bits / 2) (omega (arith, lt))) (bits % 2) refl (omega arith)
  where
    go : count_ones (bits / 2) ≡ marked (marks_in k (bits / 2)) → (r : ℕ) → bits % 2 ≡ r → r < 2 → count_ones bits ≡ marked (marks_in (suc k) bits)
    go rest zero e s =
        let count : count_ones bits ≡ marked (false ∷ marks_in k (bits / 2)) = omega (arith, ones_step bits, e, rest, marked_same (marks_in k (bits / 2))) in
        count ∙ ap marked (sym (marks_first k bits ∙ ap (λ r. (r == 1) ∷ marks_in k (bits / 2)) e))
    go rest (suc zero) e s =
        let count : count_ones bits ≡ marked (true ∷ marks_in k (bits / 2)) = omega (arith, ones_step bits, e, rest, marked_more (marks_in k (bits / 2))) in
        count ∙ ap marked (sym (marks_first k bits ∙ ap (λ r. (r == 1) ∷ marks_in k (bits / 2)) e))
    go rest (suc (suc r)) e s = absurd (omega (arith, s))

-- the bits above some and the next
halved : (x k : ℕ) → x / 2 ^ suc k ≡ x / 2 / 2 ^ k
halved x k = let p : 2 ^ suc k ≡ 2 * 2 ^ k = omega arith in ap (λ n. x / n) p ∙ sym (div-div-eq-div-mul x 2 (2 ^ k))

-- a number of so many bits, of which the lowest skip are 0 and the next is 1
pub record HasNext (count left skip : ℕ) : Type 0 where
  pub within : skip < count
  pub marks : marks_in count left ≡ replicate skip false ++ true ∷ marks_in (count - (skip + 1)) (left / 2 ^ skip / 2)
  pub few : left / 2 ^ skip / 2 < 2 ^ (count - (skip + 1))

has_next : (skip count left : ℕ) → left < 2 ^ count → 0 < left → ((i : ℕ) → i < skip → bit_at left i ≡ 0) → bit_at left skip ≡ 1 → HasNext count left skip
has_next skip zero left few some clear set = absurd (omega (arith, few, some))
has_next zero (suc k) left few some clear set =
    let odd : left % 2 ≡ 1 = sym (bit_at_lowest left) ∙ set in
    let same : left / 2 ^ 0 ≡ left = div-one left in
    let less : suc k - (0 + 1) ≡ k = omega arith in
    record {
      within = omega arith;
      marks = marks_first k left ∙ ap (λ r. (r == 1) ∷ marks_in k (left / 2)) odd ∙ (λ i. true ∷ marks_in (sym less i) (sym same i / 2));
      few = rw (same, less) (omega (arith, few));
    }
has_next (suc skip) (suc k) left few some clear set =
    let even : left % 2 ≡ 0 = sym (bit_at_lowest left) ∙ clear 0 (omega arith) in
    let next = has_next skip k (left / 2) (omega (arith, few)) (omega (arith, some, even)) (λ i lt. sym (bit_at-suc left i) ∙ clear (suc i) (omega (arith, lt))) (sym (bit_at-suc left skip) ∙ set) in
    let less : suc k - (suc skip + 1) ≡ k - (skip + 1) = omega arith in
    record {
      within = omega (arith, next.within);
      marks = marks_first k left ∙ ap (λ r. (r == 1) ∷ marks_in k (left / 2)) even ∙ ap (λ ms. false ∷ ms) next.marks
          ∙ (λ i. false ∷ replicate skip false ++ true ∷ marks_in (sym less i) (sym (halved left skip) i / 2));
      few = rw (less, halved left skip) next.few;
    }

pub next_site : (count left : ℕ) → count ≤ 41 → left < 2 ^ count → (left ≡ 0 → ⊥) → HasNext count left (trailing_zeros w64 left)
next_site count left short few some =
    let shorter : count ≤ 64 = omega (arith, short) in
    let most = pow_mono shorter in
    let wide : left < 2 ^ 64 = omega (arith, few, most) in
    let more : 0 < left = omega (arith, some) in
    let place = bit_at-trailing_zeros w64 left more wide in
    has_next (trailing_zeros w64 left) count left few more place.2 place.1

-- the marks of the first n sites are taken; the bits are those of the others
pub record AreMarksTo (marks : List Bool) (n : ℕ) (taken : List Bool) (left : ℕ) : Type 0 where
  pub count : ℕ
  pub all : count + n ≡ 41
  pub long : length taken ≡ 41
  pub marks_are : take n taken ++ marks_in count left ≡ marks

pub marks_begun : (marks taken : List Bool) (left : ℕ) → length taken ≡ 41 → marks_in 41 left ≡ marks → AreMarksTo marks 0 taken left
marks_begun marks taken left long is = record { count = 41; all = refl; long = long; marks_are = is }

pub marks_taken : (marks taken : List Bool) (n left : ℕ) → n < 41 → AreMarksTo marks n taken left → AreMarksTo marks (n + 1) (set taken n (left % 2 == 1)) (left / 2)
marks_taken marks taken n left lt h = go h.count h.all h.marks_are
  where
    go : (count : ℕ) → count + n ≡ 41 → take n taken ++ marks_in count left ≡ marks → AreMarksTo marks (n + 1) (set taken n (left % 2 == 1)) (left / 2)
    go zero all s = absurd (omega (arith, all, lt))
    go (suc k) all s = record {
      count = k;
      all = omega (arith, all);
      long = length-set taken n (left % 2 == 1) ∙ h.long;
      marks_are = ap (λ xs. xs ++ marks_in k (left / 2)) (take_more_set taken n (left % 2 == 1) (omega (arith, lt, h.long))) ∙ append_snoc (take n taken) (left % 2 == 1) (marks_in k (left / 2))
          ∙ ap (λ xs. take n taken ++ xs) (sym (marks_first k left)) ∙ s;
    }

pub marks_ended : (marks taken : List Bool) (left : ℕ) → AreMarksTo marks 41 taken left → taken ≡ marks
marks_ended marks taken left h =
    let none : 0 ≡ h.count = omega (arith, h.all) in
    sym (append-nil (take 41 taken) ∙ take_all 41 taken (omega (arith, h.long))) ∙ ap (λ ms. take 41 taken ++ ms) (sym (ap (λ k. marks_in k left) (sym none) ∙ marks_none left)) ∙ h.marks_are
