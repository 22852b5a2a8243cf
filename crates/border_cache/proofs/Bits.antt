-- The bits of a window's places.
use Rattle.std.proofs.Common.{◌≡◌, ◌≢◌, ℕ, ◌+◌, ◌*◌, ◌/◌, ◌%◌, ◌^◌, ◌<◌, List, refl, sym, ap, ◌∙◌, arith, ⊎_elim, Option, Some, None}
use Rattle.std.proofs.lemmas.Option.{none-some}
use mathlib.Core.Logic.{dite}
use native.Mathlib.Decide.{ℕ_discrete}
use Rattle.std.specs.Prelude.{length, slice_index_or, slice_set, bit_or}
use Rattle.std.specs.Int.{bit_at, w64}
use Rattle.std.proofs.lemmas.Nat.Bits.{bit_at-zero, bit_at_set_same, bit_at_set_other}
use Rattle.std.proofs.lemmas.List.{get_or-set_same, get_or-set_other, length-set}
use Rattle.list_laws.specs.Options.{or_zero}
use Rattle.border_cache.specs.News.{bit_in, AreMasks, SetsPlace}
use Rattle.border_cache.proofs.Refreshes.{covers_more, covers_last}

-- places of one word differ in the bit
apart : (j k : ℕ) → j ≢ k → j / 64 ≡ k / 64 → j % 64 ≢ k % 64
apart j k ne same h = grind (arith, ne, same, h)

pub sets_some : (masks : List ℕ) (k : ℕ) → k / 64 < length masks → SetsPlace (Some k) masks (slice_set masks (k / 64) (bit_or (slice_index_or masks (k / 64) 0) (1 * 2 ^ (k % 64) % 2 ^ 64)))
sets_some masks k lt = record {
  count = length-set masks (k / 64) new;
  set = λ j h. let e : k ≡ j = ap or_zero h in ap (bit_in (slice_set masks (k / 64) new)) (sym e) ∙ here;
  others = λ j not. dite (ℕ_discrete (j / 64) (k / 64))
      (λ (e : j / 64 ≡ k / 64). let ne : j ≢ k = λ h. not (ap Some (sym h)) in
      ap (λ w. bit_at (slice_index_or (slice_set masks (k / 64) new) w 0) (j % 64)) e
      ∙ (ap (λ w. bit_at w (j % 64)) (get_or-set_same masks (k / 64) new 0 lt)
      ∙ (bit_at_set_other w64 (slice_index_or masks (k / 64) 0) (k % 64) low (j % 64) (apart j k ne e)
      ∙ ap (λ w. bit_at (slice_index_or masks w 0) (j % 64)) (sym e))))
      (λ (ne : j / 64 ≢ k / 64). ap (λ w. bit_at w (j % 64)) (get_or-set_other masks (k / 64) (j / 64) new 0 ne));
}
  where
    low : k % 64 < 64
    low = grind arith

    new : ℕ
    new = bit_or (slice_index_or masks (k / 64) 0) (1 * 2 ^ (k % 64) % 2 ^ 64)

    here : bit_in (slice_set masks (k / 64) new) k ≡ 1
    here = ap (λ w. bit_at w (k % 64)) (get_or-set_same masks (k / 64) new 0 lt) ∙ bit_at_set_same w64 (slice_index_or masks (k / 64) 0) (k % 64) low

pub sets_none : (masks : List ℕ) (o : Option ℕ) → ((k : ℕ) → o ≡ Some k → ⊥) → SetsPlace o masks masks
sets_none masks o not = record { count = refl; set = λ k h. absurd (not k h); others = λ k h. refl }

-- no bit is set at first
pub masks_begin : (places : ℕ → Option ℕ) (masks : List ℕ) → ((j : ℕ) → slice_index_or masks j 0 ≡ 0) → AreMasks places 0 masks
masks_begin places masks none = record {
  set = λ k c. absurd (omega (arith, c.1));
  only = λ k h. let z = ap (λ w. bit_at w (k % 64)) (none (k / 64)) ∙ bit_at-zero (k % 64) in absurd (omega (arith, h, z));
}

-- one more place
pub masks_more : (places : ℕ → Option ℕ) (n : ℕ) (old new : List ℕ) → AreMasks places n old → SetsPlace (places n) old new → AreMasks places (n + 1) new
masks_more places n old new a s = record {
  set = λ k c. is_here (places n) refl k
      (λ at. s.set k at)
      (λ not. s.others k not ∙ ⊎_elim (λ c. a.set k c) (λ at. absurd (not at)) (covers_last places n k c));
  only = λ k h. is_here (places n) refl k
      (λ at. (n, omega arith, at))
      (λ not. covers_more places n k (a.only k (sym (s.others k not) ∙ h)));
}
  where
    is_here : {A : Type 0} (o : Option ℕ) → places n ≡ o → (k : ℕ) → (places n ≡ Some k → A) → ((places n ≡ Some k → ⊥) → A) → A
    is_here None at k f g = g (λ h. none-some k (sym at ∙ h))
    is_here (Some j) at k f g = dite (ℕ_discrete j k) (λ (e : j ≡ k). f (at ∙ ap Some e)) (λ (ne : j ≢ k). g (λ h. ne (ap or_zero (sym at ∙ h))))

-- only the first n places matter
pub masks_by : (p q : ℕ → Option ℕ) (n : ℕ) (masks : List ℕ) → ((j : ℕ) → j < n → p j ≡ q j) → AreMasks p n masks → AreMasks q n masks
masks_by p q n masks same a = record {
  set = λ k c. a.set k (c.0, c.1, same c.0 c.1 ∙ c.2);
  only = λ k h. let c = a.only k h in (c.0, c.1, sym (same c.0 c.1) ∙ c.2);
}
